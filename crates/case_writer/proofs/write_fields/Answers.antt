-- `case_writer::write_fields` meets its contract: head, rows, trial and end are the encoding, which fits the buffer.
-- Assumes nothing.
use Prim.Native.Nat.{◌+◌}
use mathlib.Core.List.{[], append_assoc}
use native.Mathlib.Omega.{arith}
use Rattle.buffer.specs.Buffer.{joined}
use Rattle.buffer.specs.WroteLaws.{wrote_front, wrote_more}
use Rattle.fields.specs.Field.{field, end_tag, end_size, end_field}
use Rattle.fields.proofs.FieldLaws.{length_field, field_stored}
use Rattle.casefile.specs.Case.{Case}
use Rattle.casefile.proofs.CaseLaws.{Good, good, encode_is, length_rows_in}
use Rattle.casefile.specs.Layout.{head_tag, head_value, row_field, rows_in, trial_bytes}
use Rattle.casefile.proofs.TailLaws.{length_trial}
use Rattle.case_writer.specs.Given.{given}
use Rattle.case_writer.proofs.write_fields.Goals as goal

pub returns : goal.returns
returns c =
    let case : Case = given c.args.case in
    let fine : Good case = good case c.requires.accepted in
    let head = c.args.case.head in
    let out = c.args.out.now in
    let h = c.write_header in
    let at = c.tail_places-tail.result in
    let q = c.tail_places-tail.ensures in
    let v = head_value head.n head.exponent head.rounds in
    let w0 = wrote_front (field head_tag v) out (field_stored head_tag v out h.new.out (omega (arith, h.auto)) h.ensures) (length_field head_tag v) in
    let w1 = wrote_more (joined row_field (rows_in case)) at.trial w0 c.write_rows.ensures (omega (arith, q, length_rows_in case fine)) in
    let w2 = wrote_more (trial_bytes head.rounds case.Y) at.end w1 c.write_trial.ensures (omega (arith, q, length_trial head.rounds head.n case.Y c.requires.count)) in
    let w3 = wrote_more end_field (at.end + end_size) w2 c.write_end.ensures (omega (arith, length_field end_tag [])) in
    rw (encode_is case) (simp append_assoc at w3)
