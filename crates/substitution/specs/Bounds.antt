-- Definitions only.
-- What the passes ask of the working matrix and of the right-hand side, so that nothing wraps.
use Rattle.std.specs.Prelude.{ℕ, ◌*◌, ◌^◌, ◌<◌, ◌≤◌, ℤ, pos, nat_abs, get_or, List}
use Rattle.limits.specs.Limits.{most_tanks}
use Rattle.integers.specs.Tables.{Within}
use Rattle.rounding.specs.Scale.{multiplier_scale}
use Rattle.elimination.specs.Claims.{Factors}
use Rattle.substitution.specs.Passes.{correction_limit}

-- no residual is larger: 1,000 × 2 ^ 31 + 8 × 2 ^ 15 × 10,000,000 is below this
abbrev pub residual_bound : ℕ
residual_bound = 5000000000000

-- entry i of the forward pass, which at most doubles with each multiplier
abbrev pub forward_bound : ℕ → ℕ
forward_bound i = 2 ^ i * residual_bound

-- what the forward pass asks: the working matrix as elimination leaves it, and a right-hand side within its limit
pub record Forward (w : List (List ℤ)) (z : List ℤ) (n : ℕ) : Type 0 where
  pub few : n ≤ most_tanks
  pub factors : Factors n w
  pub right : Within residual_bound z

-- what the backward pass asks: the right-hand side as the forward pass leaves it
pub record Backward (w : List (List ℤ)) (z : List ℤ) (n : ℕ) : Type 0 where
  pub few : n ≤ most_tanks
  pub factors : Factors n w
  pub right : Within (forward_bound 7) z

-- what the reduction of one entry asks
pub record Reducible (row z : List ℤ) (i : ℕ) : Type 0 where
  pub place : i < most_tanks
  pub multipliers : (j : ℕ) → j < i → nat_abs (get_or row j (pos 0)) ≤ multiplier_scale
  pub above : (j : ℕ) → j < i → nat_abs (get_or z j (pos 0)) ≤ forward_bound j
  pub own : nat_abs (get_or z i (pos 0)) ≤ residual_bound

-- what the sum above the diagonal asks
pub record Summable (row d : List ℤ) (i n : ℕ) : Type 0 where
  pub place : i < n
  pub columns : n ≤ most_tanks
  pub entries : Within (2 ^ 30) row
  pub corrections : Within correction_limit d

-- what one correction asks
pub record Correctable (row : List ℤ) (z : ℤ) (d : List ℤ) (i n : ℕ) : Type 0 where
  pub summable : Summable row d i n
  pub pivot : 0 < nat_abs (get_or row i (pos 0))
  pub right : nat_abs z ≤ forward_bound 7
