-- `report::write_answer_line` meets its contract: four texts, one after another.
-- Assumes nothing.
use Rattle.std.proofs.Common.{w32, w64}
use mir.Facts.{to_z-of_z, sfits_widen}
use Rattle.decimal.proofs.WritingLaws.{piece_room, piece_written}
use Rattle.report.specs.Text.{answer_line}
use Rattle.report.proofs.Lines.{line_written, answer_pieces}
use Rattle.report.proofs.write_answer_line.Goals as goal

pub write_labelled-requires : goal.write_labelled-requires
write_labelled-requires c =
    let l = answer_pieces c.args.to.now c.args.e c.args.tank c.args.figure c.ranges.figure c.requires in
    piece_room l.begun

pub bytes-requires : goal.bytes-requires
bytes-requires c =
    let l = answer_pieces c.args.to.now c.args.e c.args.tank c.args.figure c.ranges.figure c.requires in
    piece_room (piece_written l.begun c.write_labelled.ensures)

pub fixed_point-requires : goal.fixed_point-requires
fixed_point-requires c =
    let l = answer_pieces c.args.to.now c.args.e c.args.tank c.args.figure c.ranges.figure c.requires in
    rw (to_z-of_z {w = w32} c.ranges.figure, to_z-of_z {w = w64} (sfits_widen {w = w32} tt c.ranges.figure))
    (c.requires.0, piece_room (piece_written (piece_written l.begun c.write_labelled.ensures) c.bytes.ensures))

pub bytes-requires-2 : goal.bytes-requires-2
bytes-requires-2 c =
    let l = answer_pieces c.args.to.now c.args.e c.args.tank c.args.figure c.ranges.figure c.requires in
    let figure = rw (to_z-of_z {w = w32} c.ranges.figure, to_z-of_z {w = w64} (sfits_widen {w = w32} tt c.ranges.figure)) at c.fixed_point.ensures in
    piece_room (piece_written (piece_written (piece_written l.begun c.write_labelled.ensures) c.bytes.ensures) figure)

pub returns : goal.returns
unfolding answer_line
returns c =
    let l = answer_pieces c.args.to.now c.args.e c.args.tank c.args.figure c.ranges.figure c.requires in
    let figure = rw (to_z-of_z {w = w32} c.ranges.figure, to_z-of_z {w = w64} (sfits_widen {w = w32} tt c.ranges.figure)) at c.fixed_point.ensures in
    line_written l (piece_written (piece_written (piece_written (piece_written l.begun c.write_labelled.ensures) c.bytes.ensures) figure) c.bytes-2.ensures)
