use mathlib.Core.Path.{◌≡◌}
use Rattle.substitution.specs.Passes.{forward}
use Rattle.substitution.proofs.forward_pass.Given as goal

abbrev pub invariant-loop-i : goal.invariant-loop-i
invariant-loop-i l = l.z ≡ forward l.working l.initial.z l.i
