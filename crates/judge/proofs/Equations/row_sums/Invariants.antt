use Prim.Native.Nat.{ℕ, ◌*◌, ◌-◌, ◌^◌, ◌≤◌}
use lib.IntN.{ℤ, nat_abs}
use mathlib.Core.Path.{◌≡◌}
use Rattle.judge.specs.RowSums.{running_sums}
use Rattle.judge.specs.declared.RowSums.{RowSums}
use Rattle.judge.specs.System.{coefficients_from, tolerances_from, trial_figures}
use Rattle.judge.proofs.Equations.row_sums.Given as goal

-- what the two locals hold
abbrev pub standing : ℤ → ℕ → RowSums
standing products weights = record { products = products; weights = weights }

abbrev pub invariant-loop-j : goal.invariant-loop-j
invariant-loop-j l =
    (
    standing l.products l.weights
    ≡ running_sums (coefficients_from l.from l.self.coefficients.now) (tolerances_from l.from l.self.tolerances.now) (trial_figures l.trial.figures) l.j
    )
    × (l.j ≤ l.self.n)
    × (nat_abs l.products ≤ l.j * 2 ^ 46)
    × (l.weights ≤ l.j * 2 ^ 47)

abbrev pub decreases-loop-j : goal.decreases-loop-j
decreases-loop-j l = l.self.n - l.j
