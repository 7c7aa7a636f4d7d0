-- `report::write_verdict_line` meets its contract: three texts, one after another.
-- Assumes nothing.
use Rattle.decimal.proofs.WritingLaws.{piece_room, piece_written}
use Rattle.report.specs.Text.{verdict_line}
use Rattle.report.proofs.Lines.{line_written, verdict_pieces}
use Rattle.report.proofs.write_verdict_line.Goals as goal

pub write_either-requires : goal.write_either-requires
write_either-requires c =
    let l = verdict_pieces c.args.to.now c.args.met c.args.row c.args.rounds c.ranges.row c.ranges.rounds c.requires in
    piece_room l.begun

pub write_labelled-requires : goal.write_labelled-requires
write_labelled-requires c =
    let l = verdict_pieces c.args.to.now c.args.met c.args.row c.args.rounds c.ranges.row c.ranges.rounds c.requires in
    piece_room (piece_written l.begun c.write_either.ensures)

pub bytes-requires : goal.bytes-requires
bytes-requires c =
    let l = verdict_pieces c.args.to.now c.args.met c.args.row c.args.rounds c.ranges.row c.ranges.rounds c.requires in
    piece_room (piece_written (piece_written l.begun c.write_either.ensures) c.write_labelled.ensures)

pub returns : goal.returns
unfolding verdict_line
returns c =
    let l = verdict_pieces c.args.to.now c.args.met c.args.row c.args.rounds c.ranges.row c.ranges.rounds c.requires in
    line_written l (piece_written (piece_written (piece_written l.begun c.write_either.ensures) c.write_labelled.ensures) c.bytes.ensures)
