-- Definitions only.
-- What is claimed of every elimination, in the words of its laws.
use Rattle.std.specs.Prelude.{ℕ, ◌^◌, ◌<◌, ◌≤◌, ℤ, pos, nat_abs, get_or, length, List, ◌≡◌}
use Rattle.limits.specs.Limits.{most_tanks}
use Rattle.integers.specs.Tables.{AllWithin}
use Rattle.rounding.specs.Scale.{multiplier_scale}
use Rattle.elimination.specs.Matrix.{at}
use Rattle.elimination.specs.Steps.{after_steps}

-- complete, n rows hold a lower and an upper factor: multipliers of at most 1 in units of 1 / 16,384 below the diagonal, pivots on it that are
-- not 0; and no number is above 2^30
pub record Factors (n : ℕ) (w : List (List ℤ)) : Type 0 where
  pub multipliers : (i j : ℕ) → i < n → j < i → nat_abs (at w i j) ≤ multiplier_scale
  pub pivots : (i : ℕ) → i < n → 0 < nat_abs (at w i i)
  pub all_in : AllWithin (2 ^ 30) w

-- a place below n that holds row r
pub record Place (n : ℕ) (o : List ℕ) (r : ℕ) : Type 0 where
  pub place : ℕ
  pub below : place < n
  pub holds : get_or o place 0 ≡ r

-- the order is a permutation of n rows: each stands at some place below n, and at one only
pub record Permutation (n : ℕ) (o : List ℕ) : Type 0 where
  pub eight : length o ≡ most_tanks
  pub below : (i : ℕ) → i < n → get_or o i 0 < n
  pub some : (r : ℕ) → r < n → Place n o r
  pub one : (i j : ℕ) → i < n → j < n → get_or o i 0 ≡ get_or o j 0 → i ≡ j

-- "At some step of the elimination every candidate for the pivot is zero": at the step after k, which were all made
pub record ZeroColumn (n : ℕ) (A : List ℤ) (k : ℕ) : Type 0 where
  pub below : k < n
  pub reached : (after_steps n A k).steps ≡ k
  pub zero : (i : ℕ) → k ≤ i → i < n → at (after_steps n A k).working i k ≡ pos 0
