use Prim.Native.Nat.{◌+◌, ◌-◌}
use mathlib.Core.Path.{◌≡◌}
use Rattle.integers.specs.Tables.{fill}
use Rattle.elimination.specs.Steps.{row_below}
use Rattle.elimination.proofs.step.Given as goal

abbrev pub invariant-loop-i : goal.invariant-loop-i
invariant-loop-i l = l.w ≡ fill (row_below l.initial.w l.k l.n) (l.k + 1) (l.i - (l.k + 1)) l.initial.w
