use Prim.Native.Nat.{◌-◌}
use Rattle.matrix_reader.specs.EntryLaws.{ReadingEntries}
use Rattle.matrix_reader.proofs.read_entries.Given as goal

abbrev pub invariant-loop-k : goal.invariant-loop-k
invariant-loop-k l = ReadingEntries l.count l.text l.initial.columns l.columns l.p l.k

abbrev pub decreases-loop-k : goal.decreases-loop-k
decreases-loop-k l = l.fn.count - l.k
