-- `solver::order_figures` meets its contract. The loop's invariant: the first i places are filled.
-- Assumes nothing.
use lib.IntN.{pos}
use lib.ListN.{get_or}
use borrow.Author.Rules.{rules}
use mir.Facts.{to_z-of_z}
use mir.Syntax.{w64}
use mir.Val.{SFits}
use Rattle.judge.specs.Places.{filling_begun, filling_turn}
use Rattle.solver.proofs.order_figures.Goals as goal

pub loop-i-init : goal.loop-i-init
loop-i-init c = filling_begun

pub loop-i-preserved : goal.loop-i-preserved
loop-i-preserved c =
    let f = c.args.figures.now in
    let o = c.args.order.now in
    let fits : SFits w64 (get_or f (get_or o c.loop-i.i 0) (pos 0)) = search rules in
    filling_turn c.loop-i.invariant c.requires.0 c.loop-i-test.true (to_z-of_z fits)
