use Rattle.figures.proofs.LoopLaws.{Testing}
use Rattle.figures.proofs.all_within.Given as goal

abbrev pub invariant-loop-x : goal.invariant-loop-x
invariant-loop-x g l = Testing (g.T.Figure.within l.limit) l.a l.fine l.x-index
