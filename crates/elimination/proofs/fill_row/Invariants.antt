use Prim.Native.Nat.{◌-◌}
use mathlib.Core.Path.{◌≡◌}
use Rattle.integers.specs.Tables.{fill, Within}
use Rattle.elimination.specs.Conditions.{bound}
use Rattle.elimination.specs.Steps.{scaled_coefficient}
use Rattle.elimination.specs.Steps.{zero_row}
use Rattle.elimination.proofs.fill_row.Given as goal

abbrev pub invariant-loop-j : goal.invariant-loop-j
invariant-loop-j l = Within (bound 0) l.row × (l.row ≡ fill (scaled_coefficient l.n l.coefficients l.i) 0 (l.j - 0) zero_row)
