-- `figures::all_within` meets its contract: the law of testing loops.
-- Assumes nothing.
use Rattle.std.proofs.Common.{sym, ap, ◌∙◌}
use Rattle.figures.proofs.LoopLaws.{test_begun, test_turn, test_ended}
use Rattle.figures.proofs.all_within.Goals as goal

pub loop-x-init : goal.loop-x-init
loop-x-init g c = test_begun

pub loop-x-preserved : goal.loop-x-preserved
loop-x-preserved g c =
    let within = g.T.Figure.within c.args.limit in
    test_turn c.loop-x.invariant c.x-item.result c.loop-x-test.true (c.is_within-fine.ensures ∙ ap within c.x-item.is)

pub returns : goal.returns
returns g c = test_ended c.loop-x.invariant c.loop-x-test.false ∙ sym (g.met.T.Figure.each c.args.limit c.args.a.now)
