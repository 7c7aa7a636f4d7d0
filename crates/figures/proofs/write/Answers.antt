-- `figures::write` meets its contract: the law of writing loops.
-- Assumes nothing.
use Rattle.figures.proofs.LoopLaws.{list_begun, list_turn, list_ended}
use Rattle.figures.proofs.write.Goals as goal

pub loop-i-init : goal.loop-i-init
loop-i-init g c = list_begun c.requires

pub loop-i-preserved : goal.loop-i-preserved
loop-i-preserved g c = rw c.SIZE.ensures (list_turn c.loop-i.invariant c.loop-i-test.true c.index-a-i.is (rw c.SIZE.ensures at c.write.ensures))

pub returns : goal.returns
returns g c = list_ended c.loop-i.invariant c.loop-i-test.false
