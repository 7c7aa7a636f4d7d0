-- `report::render_refusal` meets its contract: two texts, one after another.
-- Assumes nothing.
use Rattle.std.proofs.Common.{rules}
use Rattle.decimal.proofs.WritingLaws.{piece_room, piece_written, wrote_back}
use Rattle.report.specs.Text.{refusal_text}
use Rattle.report.proofs.Lines.{refusal_pieces}
use Rattle.report.proofs.render_refusal.Goals as goal

pub write_labelled-requires : goal.write_labelled-requires
write_labelled-requires c = piece_room (refusal_pieces _ c.args.number c.requires)

pub bytes-requires : goal.bytes-requires
bytes-requires c = piece_room (piece_written (refusal_pieces _ c.args.number c.requires) c.write_labelled.ensures)

pub returns : goal.returns
unfolding refusal_text
returns c =
    let w = (piece_written (piece_written (refusal_pieces _ c.args.number c.requires) c.write_labelled.ensures) c.bytes.ensures).wrote in
    wrote_back w (search (rules, w.same))
