-- `case_reader::row_fields::read_rows` meets its contract: the law of the rows read so far.
-- Assumes nothing.
use Rattle.std.proofs.Common.{refl}
use Rattle.std.proofs.lemmas.Result.{err_from_is_err_and}
use Rattle.case_reader.proofs.ReadingRows.{begun_rows, stopped_rows, turn_rows, ended_rows}
use Rattle.case_reader.proofs.row_fields.read_rows.Goals as goal

pub loop-i-init : goal.loop-i-init
loop-i-init c = (begun_rows _ _ _ _, refl)

pub returns-in_err-read_row-clause-found : goal.returns-in_err-read_row-clause-found
returns-in_err-read_row-clause-found c =
    let r = err_from_is_err_and c.from_residual.result c.from_residual.ensures.1 in
    let row = rw c.row_places-size.ensures.size at c.in_err-read_row.ensures in
    rw (r.1, r.2) (stopped_rows _ _ _ _ c.loop-i.invariant.0 c.loop-i-test.true _ row _)

pub loop-i-preserved : goal.loop-i-preserved
loop-i-preserved c =
    let row = rw c.row_places-size.ensures.size at c.in_ok-read_row.ensures in
    (turn_rows _ _ _ _ c.loop-i.invariant.0 c.loop-i-test.true row, c.loop-i.invariant.1)

pub returns-clause-found : goal.returns-clause-found
returns-clause-found c = ended_rows _ _ _ _ c.loop-i.invariant.0 c.loop-i-test.false
