use mathlib.Core.Path.{◌≡◌}
use Rattle.integers.specs.Tables.{Within}
use Rattle.substitution.specs.Passes.{correction_limit, backward_from, backward}
use Rattle.substitution.proofs.backward_pass.Given as goal

abbrev pub invariant-loop-i : goal.invariant-loop-i
invariant-loop-i l = Within correction_limit l.d × (backward_from l.working l.z l.n l.i l.d ≡ backward l.working l.z l.n)
