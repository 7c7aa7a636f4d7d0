-- `matrix_writer::write_entry` meets its contract: the figure, then the line feed.
-- Assumes nothing.
use Rattle.std.proofs.Common.{w16, w64}
use mir.Facts.{to_z-of_z, sfits_widen}
use Rattle.decimal.proofs.WritingLaws.{has_room_front, has_room_next, writes_then}
use Rattle.decimal.specs.Decimal.{line_feed}
use Rattle.matrixfile.specs.Text.{entry_line}
use Rattle.matrix_writer.proofs.write_entry.Goals as goal

pub signed-requires : goal.signed-requires
unfolding entry_line
signed-requires c =
    rw (to_z-of_z {w = w16} c.ranges.entry, to_z-of_z {w = w64} (sfits_widen {w = w16} tt c.ranges.entry)) (has_room_front line_feed c.requires)

pub bytes-requires : goal.bytes-requires
unfolding entry_line
bytes-requires c =
    let figure = rw (to_z-of_z {w = w16} c.ranges.entry, to_z-of_z {w = w64} (sfits_widen {w = w16} tt c.ranges.entry)) at c.signed.ensures in
    has_room_next c.requires figure

pub returns : goal.returns
unfolding entry_line
returns c =
    let figure = rw (to_z-of_z {w = w16} c.ranges.entry, to_z-of_z {w = w64} (sfits_widen {w = w16} tt c.ranges.entry)) at c.signed.ensures in
    writes_then c.requires figure c.bytes.ensures
