use Rattle.std.specs.Prelude.{◌+◌, ◌*◌}
use Rattle.figures.specs.Figures.{kind_of}
use Rattle.figures.proofs.LoopLaws.{ReadingFigures}
use Rattle.figures.proofs.read.Given as goal

abbrev pub invariant-loop-i : goal.invariant-loop-i
invariant-loop-i g l =
    let T = g.T.BigEndian in
    ReadingFigures (kind_of T.SIZE T.figure T.number) (g.T.Figure.within l.limit) l.s l.at l.initial.out l.fine l.out l.i (l.at + l.i * T.SIZE)
