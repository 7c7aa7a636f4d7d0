use Prim.Native.Nat.{◌-◌}
use lib.IntN.{pos, ◌*ℤ◌}
use lib.ListN.{get_or, replicate}
use mathlib.Core.Path.{◌≡◌}
use Rattle.limits.specs.Limits.{most_tanks}
use Rattle.judge.specs.Places.{Filling}
use Rattle.solver.proofs.start.Given as goal

abbrev pub invariant-loop-i : goal.invariant-loop-i
invariant-loop-i l =
    Filling (λ k. pos l.equations.scale *ℤ get_or l.equations.right_hand_side.values k (pos 0)) (pos 0) l.equations.n l.trial.residuals l.i
    × (l.trial.figures ≡ replicate most_tanks (pos 0))
    × (l.trial.reaches ≡ replicate most_tanks 0)

abbrev pub decreases-loop-i : goal.decreases-loop-i
decreases-loop-i l = l.equations.n - l.i
