-- `recordfile::write_answer` meets its contract: the header, and the figures behind it. Assumes nothing.
use lib.IntN.{pos}
use mathlib.Core.Path.{sym, ◌∙◌}
use Rattle.figures.specs.Figures.{i32_kind}
use Rattle.figures.proofs.LoopLaws.{spread_run}
use Rattle.fields.proofs.FieldLaws.{field_written}
use Rattle.recordfile.specs.Laws.{length_answers}
use Rattle.recordfile.specs.Layout.{answer_tag}
use Rattle.recordfile.proofs.write_answer.Goals as goal

pub returns : goal.returns
returns c =
    let a = c.args in
    let Y = a.answer.now in
    let e = spread_run i32_kind (pos 0) Y a.n c.requires.1.0 in
    field_written answer_tag _ _ a.out.now _ (length_answers a.n Y ∙ sym c.condition_places-places.ensures.answer_len) c.write_header.ensures (rw e at c.write.ensures)
