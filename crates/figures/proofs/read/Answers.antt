-- `figures::read` meets its contract: the law of reading loops.
-- Assumes nothing.
use Rattle.figures.proofs.LoopLaws.{place_begun, place_turn, place_ended}
use Rattle.figures.proofs.read.Goals as goal

pub loop-i-init : goal.loop-i-init
loop-i-init g c = place_begun c.requires

pub loop-i-preserved : goal.loop-i-preserved
loop-i-preserved g c = place_turn c.loop-i.invariant c.loop-i-test.true (rw c.SIZE.ensures at c.read-figure.ensures) c.is_within-fine.ensures

pub returns : goal.returns
returns g c = place_ended c.loop-i.invariant c.loop-i-test.false
