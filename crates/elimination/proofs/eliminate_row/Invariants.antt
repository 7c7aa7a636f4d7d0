use Prim.Native.Nat.{◌+◌, ◌-◌}
use mathlib.Core.Path.{◌≡◌}
use Rattle.integers.specs.Tables.{fill}
use Rattle.elimination.specs.Steps.{multiplier, reduced_entry_of}
use Rattle.elimination.proofs.eliminate_row.Given as goal

abbrev pub invariant-loop-j : goal.invariant-loop-j
invariant-loop-j l =
    l.row ≡ fill (reduced_entry_of (multiplier l.top l.initial.row l.k) l.top l.initial.row) (l.k + 1) (l.j - (l.k + 1)) l.initial.row
