-- `soundings::all_inside` meets its contract: the library's test of each element.
-- Assumes nothing.
use Rattle.std.proofs.Common.{rules, tests, ◌∙◌}
use Rattle.std.proofs.lemmas.Iterator.{YieldsList-from_slice}
use Rattle.std.proofs.lemmas.Iterator.Search.{all_from_yields_List}
use Rattle.figures.proofs.LoopLaws.{all_listed}
use Rattle.sounding_table.specs.Depth.{inside}
use Rattle.soundings.proofs.all_inside.Goals as goal

pub returns : goal.returns
returns c =
    let test = inside c.args.table.now c.args.scale in
    all_from_yields_List test _ _ _ c.all.ensures.ran (YieldsList-from_slice c.args.answer.now cc) (λ x b q k. search (rules, tests)) ∙ all_listed test c.args.answer.now
