-- `recordfile::write_rows` meets its contract: the header, and the pairs behind it. Assumes nothing.
use mathlib.Core.Path.{sym, ◌∙◌}
use Rattle.fields.proofs.FieldLaws.{field_written}
use Rattle.recordfile.specs.Laws.{length_pairs}
use Rattle.recordfile.specs.Layout.{rows_tag}
use Rattle.recordfile.proofs.write_rows.Goals as goal

pub returns : goal.returns
returns c =
    let a = c.args in
    field_written rows_tag _ _ a.out.now _ (length_pairs a.n a.trial.now.residuals a.trial.now.reaches ∙ sym c.condition_places-places.ensures.rows_len) c.write_header.ensures c.write_pairs.ensures
