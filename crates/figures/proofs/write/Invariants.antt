use Rattle.figures.specs.Figures.{kind_of}
use Rattle.figures.proofs.LoopLaws.{WritingList}
use Rattle.figures.proofs.write.Given as goal

abbrev pub invariant-loop-i : goal.invariant-loop-i
invariant-loop-i g l = let T = g.T.BigEndian in WritingList (kind_of T.SIZE T.figure T.number) l.a l.initial.out l.out l.i
