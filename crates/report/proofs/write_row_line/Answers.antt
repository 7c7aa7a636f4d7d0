-- `report::write_row_line` meets its contract: five texts, one after another.
-- Assumes nothing.
use Rattle.std.proofs.Common.{w64}
use mir.Facts.{to_z-of_z}
use Rattle.decimal.proofs.WritingLaws.{piece_room, piece_written}
use Rattle.report.specs.Text.{row_line}
use Rattle.report.proofs.Lines.{line_written, row_pieces}
use Rattle.report.proofs.write_row_line.Goals as goal

pub write_labelled-requires : goal.write_labelled-requires
write_labelled-requires c =
    let l = row_pieces c.args.to.now c.args.row c.args.residual c.args.reach c.ranges.residual c.ranges.reach c.requires in
    piece_room l.begun

pub bytes-requires : goal.bytes-requires
bytes-requires c =
    let l = row_pieces c.args.to.now c.args.row c.args.residual c.args.reach c.ranges.residual c.ranges.reach c.requires in
    piece_room (piece_written l.begun c.write_labelled.ensures)

pub signed-requires : goal.signed-requires
signed-requires c =
    let l = row_pieces c.args.to.now c.args.row c.args.residual c.args.reach c.ranges.residual c.ranges.reach c.requires in
    rw (to_z-of_z {w = w64} c.ranges.residual) (piece_room (piece_written (piece_written l.begun c.write_labelled.ensures) c.bytes.ensures))

pub write_labelled-requires-2 : goal.write_labelled-requires-2
write_labelled-requires-2 c =
    let l = row_pieces c.args.to.now c.args.row c.args.residual c.args.reach c.ranges.residual c.ranges.reach c.requires in
    let residual = rw (to_z-of_z {w = w64} c.ranges.residual) at c.signed.ensures in
    piece_room (piece_written (piece_written (piece_written l.begun c.write_labelled.ensures) c.bytes.ensures) residual)

pub bytes-requires-2 : goal.bytes-requires-2
bytes-requires-2 c =
    let l = row_pieces c.args.to.now c.args.row c.args.residual c.args.reach c.ranges.residual c.ranges.reach c.requires in
    let residual = rw (to_z-of_z {w = w64} c.ranges.residual) at c.signed.ensures in
    piece_room (piece_written (piece_written (piece_written (piece_written l.begun c.write_labelled.ensures) c.bytes.ensures) residual) c.write_labelled-2.ensures)

pub returns : goal.returns
unfolding row_line
returns c =
    let l = row_pieces c.args.to.now c.args.row c.args.residual c.args.reach c.ranges.residual c.ranges.reach c.requires in
    let residual = rw (to_z-of_z {w = w64} c.ranges.residual) at c.signed.ensures in
    let behind = piece_written (piece_written (piece_written (piece_written l.begun c.write_labelled.ensures) c.bytes.ensures) residual) c.write_labelled-2.ensures in
    line_written l (piece_written behind c.bytes-2.ensures)
