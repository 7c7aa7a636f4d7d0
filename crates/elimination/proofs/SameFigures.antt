-- An elimination depends on the coefficients' figures alone, read as 0 past the list's end: zeros behind them change nothing. Assumes nothing.
use Prim.Native.Nat.{ℕ, zero, suc, ◌+◌, ◌*◌}
use Rattle.std.specs.Prelude.{ℤ, ◌*ℤ◌, get_or, List, ◌≡◌}
use Rattle.std.proofs.Math.IntN.{pos}
use Rattle.std.proofs.Math.Path.{ap}
use Rattle.integers.specs.Tables.{fill}
use Rattle.elimination.specs.Steps.{working_scale, working_row, working_matrix, start_order, next_run, after_steps, eliminated}
use Rattle.elimination.specs.Steps.{zero_row, zero_rows}

module _ (n : ℕ) (a b : List ℤ) (same : (j : ℕ) → get_or a j (pos 0) ≡ get_or b j (pos 0)) where
  same_working : working_matrix n a ≡ working_matrix n b
  unfolding working_matrix working_row
  same_working =
      ap (λ (f : ℕ → ℤ). fill (λ i. fill (λ j. pos working_scale *ℤ f (i * n + j)) 0 n zero_row) 0 n zero_rows) (λ k j. same j k)

  same_steps : (k : ℕ) → after_steps n a k ≡ after_steps n b k
  unfolding after_steps
  same_steps zero = ap (λ w. record { working = w; order = start_order; steps = 0 }) same_working
  same_steps (suc k) = ap (next_run n) (same_steps k)

  pub same_eliminated : eliminated n a ≡ eliminated n b
  unfolding eliminated
  same_eliminated = same_steps n
