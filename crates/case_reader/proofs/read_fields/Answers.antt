-- `case_reader::read_fields` meets its contract: the head's refusal, then the rows', then the tail's, or the head and the figures.
-- Assumes nothing.
use Prim.Native.Nat.{◌≤◌}
use native.Mathlib.Omega.{arith}
use Rattle.std.proofs.lemmas.Result.{err_from_is_err_and}
use Rattle.limits.specs.Limits.{most_tanks}
use Rattle.case_reader.proofs.Whole.{head_stops, small, rows_stop, tail_stop, all_found}
use Rattle.case_reader.proofs.read_fields.Goals.{In_ok-head}
use Rattle.case_reader.proofs.read_fields.Goals as goal

-- the head is not refused: few tanks
few : (c : In_ok-head) → c.in_ok-head.head.n ≤ most_tanks
few c = small _ _ c.in_ok-head.ensures

pub returns-in_err-head : goal.returns-in_err-head
returns-in_err-head c =
    let r = err_from_is_err_and c.from_residual.result c.from_residual.ensures.1 in
    rw (r.1, r.2) (head_stops _ _ c.in_err-head.ensures _ _)

pub read_rows-requires : goal.read_rows-requires
read_rows-requires c = few (goal.at.read_rows-requires c).In_ok-head

pub returns-in_err-read_rows : goal.returns-in_err-read_rows
returns-in_err-read_rows c =
    let r = err_from_is_err_and c.from_residual-in_err-read_rows.result c.from_residual-in_err-read_rows.ensures.1 in
    rw (r.1, r.2) (rows_stop _ _ c.in_ok-head.ensures _ _ _ c.in_err-read_rows.ensures.found)

pub read_tail-requires : goal.read_tail-requires
read_tail-requires c =
    let f = few (goal.at.read_tail-requires c).In_ok-head in
    record { small = f; room = omega (arith, f) }

pub returns-in_err-read_tail : goal.returns-in_err-read_tail
returns-in_err-read_tail c =
    let r = err_from_is_err_and c.from_residual-in_err-read_tail.result c.from_residual-in_err-read_tail.ensures.1 in
    let tail = rw c.in_ok-read_rows.ensures.trial at c.in_err-read_tail.ensures in
    rw (r.1, r.2) (tail_stop _ _ c.in_ok-head.ensures _ _ c.in_ok-read_rows.ensures.found _ tail)

pub returns : goal.returns
returns c =
    let tail = rw c.in_ok-read_rows.ensures.trial at c.in_ok-read_tail.ensures in
    all_found _ _ c.in_ok-head.ensures _ _ c.in_ok-read_rows.ensures.found tail
