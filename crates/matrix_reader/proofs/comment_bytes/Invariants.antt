use Prim.Native.Nat.{◌-◌}
use lib.ListN.{length}
use Rattle.matrix_reader.specs.PartLaws.{PassingComments}
use Rattle.matrix_reader.proofs.comment_bytes.Given as goal

abbrev pub invariant-loop-k : goal.invariant-loop-k
invariant-loop-k l = PassingComments l.text l.inside l.k

abbrev pub decreases-loop-k : goal.decreases-loop-k
decreases-loop-k l = length l.text - l.k
