-- `report::write_factor_line` meets its contract: two texts, one after another.
-- Assumes nothing.
use Rattle.decimal.proofs.WritingLaws.{piece_room, piece_written}
use Rattle.report.specs.Text.{factor_line}
use Rattle.report.proofs.Lines.{line_written, factor_pieces}
use Rattle.report.proofs.write_factor_line.Goals as goal

pub write_either-requires : goal.write_either-requires
write_either-requires c =
    let l = factor_pieces c.args.to.now c.args.none c.args.row c.ranges.row c.requires in
    piece_room l.begun

pub bytes-requires : goal.bytes-requires
bytes-requires c =
    let l = factor_pieces c.args.to.now c.args.none c.args.row c.ranges.row c.requires in
    piece_room (piece_written l.begun c.write_either.ensures)

pub returns : goal.returns
unfolding factor_line
returns c =
    let l = factor_pieces c.args.to.now c.args.none c.args.row c.ranges.row c.requires in
    line_written l (piece_written (piece_written l.begun c.write_either.ensures) c.bytes.ensures)
