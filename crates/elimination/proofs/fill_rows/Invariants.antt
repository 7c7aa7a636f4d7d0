use Prim.Native.Nat.{◌-◌}
use mathlib.Core.Path.{◌≡◌}
use Rattle.integers.specs.Tables.{fill, AllWithin}
use Rattle.elimination.specs.Conditions.{bound}
use Rattle.elimination.specs.Steps.{working_row}
use Rattle.elimination.specs.Steps.{zero_rows}
use Rattle.elimination.proofs.fill_rows.Given as goal

abbrev pub invariant-loop-i : goal.invariant-loop-i
invariant-loop-i l = AllWithin (bound 0) l.w × (l.w ≡ fill (working_row l.n l.coefficients) 0 (l.i - 0) zero_rows)
