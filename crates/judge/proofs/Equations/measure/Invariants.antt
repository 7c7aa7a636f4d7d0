use Prim.Native.Nat.{◌-◌}
use lib.IntN.{pos}
use mathlib.Core.Path.{◌≡◌}
use Rattle.judge.specs.Places.{Filling}
use Rattle.judge.specs.Equations.{system_of, trial_for}
use Rattle.judge.specs.System.{residual, reach, row}
use Rattle.judge.proofs.Equations.measure.Given as goal

abbrev pub invariant-loop-i : goal.invariant-loop-i
invariant-loop-i l =
    let s = system_of l.self in
    let t = trial_for l.self l.fn.trial.figures in
    Filling (λ k. residual (row s k) t) (pos 0) l.self.n l.trial.residuals l.i
    × Filling (λ k. reach (row s k) t) 0 l.self.n l.trial.reaches l.i
    × (l.trial.figures ≡ l.fn.trial.figures)

abbrev pub decreases-loop-i : goal.decreases-loop-i
decreases-loop-i l = l.self.n - l.i
