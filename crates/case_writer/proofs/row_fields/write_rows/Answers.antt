-- `case_writer::row_fields::write_rows` meets its contract: the law of the rows written so far.
-- Assumes nothing.
use Rattle.case_writer.proofs.WritingRows.{begun, turn, ended}
use Rattle.case_writer.proofs.row_fields.write_rows.Goals as goal

pub loop-i-init : goal.loop-i-init
loop-i-init c = begun _ _ _ c.row_places-places.ensures.size c.requires.n_in_bounds c.requires.rows_room

pub loop-i-preserved : goal.loop-i-preserved
loop-i-preserved c = turn _ _ _ c.loop-i.invariant c.loop-i-test.true c.write_row.ensures

pub returns : goal.returns
returns c = ended _ _ _ c.loop-i.invariant c.loop-i-test.false
