-- Definitions only.
-- What a row's pass over its tanks asks of the trial's figures, so that nothing wraps.
use Rattle.std.specs.Prelude.{ℕ, ◌^◌, ◌<◌, ◌≤◌, ℤ, pos, nat_abs, get_or, List, ◌≡◌}

-- beside n figures their absolute values, each of which fits 32 bits
pub record Magnitudes (n : ℕ) (Y : List ℤ) (magnitudes : List ℕ) : Type 0 where
  pub are : (j : ℕ) → j < n → get_or magnitudes j 0 ≡ nat_abs (get_or Y j (pos 0))
  pub small : (j : ℕ) → j < n → nat_abs (get_or Y j (pos 0)) ≤ 2 ^ 31
