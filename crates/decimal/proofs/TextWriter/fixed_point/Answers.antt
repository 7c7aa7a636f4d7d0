-- `decimal::TextWriter::fixed_point` meets its contract: the sign, the whole part, and what follows the point. Assumes nothing.
use Rattle.std.proofs.Common.{lit≤, w64}
use Rattle.std.proofs.Math.Nat.{one-le-pow}
use mir.Facts.{to_z-of_z}
use Rattle.decimal.specs.Decimal.{fixed_point}
use Rattle.decimal.proofs.WritingLaws.{has_room_front, has_room_next, writes_then}
use Rattle.decimal.proofs.TextWriter.fixed_point.Goals as goal

pub minus-requires : goal.minus-requires
unfolding fixed_point
minus-requires c = rw (to_z-of_z {w = w64} c.ranges.x) (has_room_front _ c.requires.1)

pub nonzero_div-size : goal.nonzero_div-size
nonzero_div-size c = rw c.power_of_ten-unit.ensures (one-le-pow c.args.e 10 (lit≤ tt))

pub nonzero_rem-size : goal.nonzero_rem-size
nonzero_rem-size c = rw c.power_of_ten-unit.ensures (one-le-pow c.args.e 10 (lit≤ tt))

pub unsigned-requires : goal.unsigned-requires
unfolding fixed_point
unsigned-requires c =
    let sign = rw (to_z-of_z {w = w64} c.ranges.x) at c.minus.ensures in
    rw (c.magnitude-size.ensures, c.power_of_ten-unit.ensures, to_z-of_z {w = w64} c.ranges.x) (has_room_front _ (has_room_next c.requires.1 sign))

pub fraction-requires : goal.fraction-requires
unfolding fixed_point
fraction-requires c =
    let sign = rw (to_z-of_z {w = w64} c.ranges.x) at c.minus.ensures in
    let whole = rw (c.magnitude-size.ensures, c.power_of_ten-unit.ensures, to_z-of_z {w = w64} c.ranges.x) at c.unsigned.ensures in
    rw (c.magnitude-size.ensures, c.power_of_ten-unit.ensures, to_z-of_z {w = w64} c.ranges.x) (has_room_next (has_room_next c.requires.1 sign) whole)

pub returns : goal.returns
unfolding fixed_point
returns c =
    let sign = rw (to_z-of_z {w = w64} c.ranges.x) at c.minus.ensures in
    let whole = rw (c.magnitude-size.ensures, c.power_of_ten-unit.ensures, to_z-of_z {w = w64} c.ranges.x) at c.unsigned.ensures in
    let behind = rw (c.magnitude-size.ensures, c.power_of_ten-unit.ensures, to_z-of_z {w = w64} c.ranges.x) at c.fraction.ensures in
    writes_then c.requires.1 sign (writes_then (has_room_next c.requires.1 sign) whole behind)
