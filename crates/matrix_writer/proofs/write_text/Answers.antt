-- `matrix_writer::write_text` meets its contract: the first line, the size line and the entries, one after another.
-- Assumes nothing.
use Rattle.std.proofs.Common.{rules, arith}
use Rattle.casefile.proofs.RowsLaws.{square_fits}
use Rattle.decimal.proofs.WritingLaws.{room_left, writes_append, wrote_back}
use Rattle.matrixfile.specs.Text.{matrix_text}
use Rattle.matrixfile.specs.TextLaws.{matrix_fine}
use Rattle.matrix_writer.proofs.write_text.Goals as goal

pub overflow_cast-digit : goal.overflow_cast-digit
overflow_cast-digit c = omega (arith, (matrix_fine _ _ c.requires.0).small)

pub overflow_add-digit : goal.overflow_add-digit
overflow_add-digit c = omega (arith, (matrix_fine _ _ c.requires.0).small)

pub bytes-requires-2 : goal.bytes-requires-2
bytes-requires-2 c =
    let entries = room_left 452 c.bytes.ensures c.requires.1 in
    record { room = record { room = omega (arith, entries) } }

pub write_entries-requires : goal.write_entries-requires
write_entries-requires c =
    let f = matrix_fine _ _ c.requires.0 in
    let entries = room_left 448 c.bytes-2.ensures (room_left 452 c.bytes.ensures c.requires.1) in
    (c.requires.0, omega (arith, square_fits _ f.small, f.entries.count, entries))

pub returns : goal.returns
unfolding matrix_text
returns c =
    let size_room = room_left 452 c.bytes.ensures c.requires.1 in
    let w = writes_append (omega arith) c.bytes.ensures (writes_append (omega (arith, size_room)) c.bytes-2.ensures c.write_entries.ensures) in
    wrote_back w (search (rules, w.same))
