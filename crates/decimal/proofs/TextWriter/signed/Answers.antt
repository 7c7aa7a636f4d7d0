-- `decimal::TextWriter::signed` meets its contract: the sign, then the digits. Assumes nothing.
use Rattle.std.proofs.Common.{w64}
use mir.Facts.{to_z-of_z}
use Rattle.decimal.specs.Decimal.{signed_decimal}
use Rattle.decimal.proofs.WritingLaws.{has_room_front, has_room_next, writes_then}
use Rattle.decimal.proofs.TextWriter.signed.Goals as goal

pub minus-requires : goal.minus-requires
unfolding signed_decimal
minus-requires c = rw (to_z-of_z {w = w64} c.ranges.x) (has_room_front _ c.requires)

pub unsigned-requires : goal.unsigned-requires
unfolding signed_decimal
unsigned-requires c =
    let sign = rw (to_z-of_z {w = w64} c.ranges.x) at c.minus.ensures in
    rw (c.magnitude.ensures, to_z-of_z {w = w64} c.ranges.x) (has_room_next c.requires sign)

pub returns : goal.returns
unfolding signed_decimal
returns c =
    let sign = rw (to_z-of_z {w = w64} c.ranges.x) at c.minus.ensures in
    writes_then c.requires sign (rw (c.magnitude.ensures, to_z-of_z {w = w64} c.ranges.x) at c.unsigned.ensures)
