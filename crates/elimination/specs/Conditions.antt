-- Definitions only.
-- What the functions inside the elimination ask and promise of sizes.
use Rattle.std.specs.Prelude.{ℕ, ◌*◌, ◌^◌, ◌<◌, ◌≤◌, ℤ, pos, nat_abs, get_or, List, ◌≡◌}
use Rattle.limits.specs.Limits.{most_tanks}
use Rattle.integers.specs.Tables.{Within, AllWithin}
use Rattle.elimination.specs.Matrix.{at}

-- the bound of the working numbers after k steps: 256 times the least number of 16 bits, doubled k times
abbrev pub bound : ℕ → ℕ
bound k = 2 ^ k * 2 ^ 23

-- a row and the rows at the start: as defined, and within the bound. (The range of a coefficient's type is known where it is read.)
pub record StartRow (row expected : List ℤ) : Type 0 where
  pub is : row ≡ expected
  pub in_bound : Within (bound 0) row

pub record StartRows (working expected : List (List ℤ)) : Type 0 where
  pub are : working ≡ expected
  pub in_bound : AllWithin (bound 0) working

-- what a multiplier asks: a pivot that is not 0 and not above 2^30, and an entry that is not larger
pub record Dividing (entry pivot : ℤ) : Type 0 where
  pub some : 0 < nat_abs pivot
  pub largest : nat_abs entry ≤ nat_abs pivot
  pub small : nat_abs pivot ≤ 2 ^ 30

-- what the elimination of one row asks
pub record RowEliminable (top row : List ℤ) (k n : ℕ) : Type 0 where
  pub below : k < n
  pub few : n ≤ most_tanks
  pub top_in : Within (bound k) top
  pub row_in : Within (bound k) row
  pub pivot : 0 < nat_abs (get_or top k (pos 0))
  pub largest : nat_abs (get_or row k (pos 0)) ≤ nat_abs (get_or top k (pos 0))

-- what the elimination below row k asks: no entry of column k below row k is larger than row k's, which is not 0
pub record Pivoted (w : List (List ℤ)) (k n : ℕ) : Type 0 where
  pub below : k < n
  pub few : n ≤ most_tanks
  pub all_in : AllWithin (bound k) w
  pub pivot : 0 < nat_abs (at w k k)
  pub largest : (i : ℕ) → k < i → i < n → nat_abs (at w i k) ≤ nat_abs (at w k k)
