use Prim.Native.Nat.{◌-◌, ◌*◌}
use Rattle.matrix_reader.specs.RowLaws.{WritingRows}
use Rattle.matrix_reader.proofs.write_rows.Given as goal

abbrev pub invariant-loop-k : goal.invariant-loop-k
invariant-loop-k l = WritingRows l.n l.columns l.initial.out l.out l.k

abbrev pub decreases-loop-k : goal.decreases-loop-k
decreases-loop-k l = l.n * l.n - l.k
