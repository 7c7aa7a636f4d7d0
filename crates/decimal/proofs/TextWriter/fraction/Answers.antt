-- `decimal::TextWriter::fraction` meets its contract: the point, then the digits behind it. Assumes nothing.
use Rattle.std.proofs.Common.{[], ◌∷◌, ◌++◌}
use Rattle.decimal.specs.Decimal.{last_digits}
use Rattle.decimal.specs.Writing.{HasRoom}
use Rattle.decimal.proofs.DigitLaws.{fraction_some}
use Rattle.decimal.proofs.WritingLaws.{has_room_next, writes_then}
use Rattle.decimal.proofs.TextWriter.fraction.Goals as goal

pub last_digits-requires : goal.last_digits-requires
last_digits-requires c =
    let room : HasRoom ((46 ∷ []) ++ last_digits c.args.e c.args.x) c.args.self.now = rw (fraction_some c.args.e c.args.x c.if-e-ne0.true) at c.requires in
    has_room_next room c.bytes.ensures

pub returns-then-e-ne0 : goal.returns-then-e-ne0
returns-then-e-ne0 c =
    let room : HasRoom ((46 ∷ []) ++ last_digits c.args.e c.args.x) c.args.self.now = rw (fraction_some c.args.e c.args.x c.if-e-ne0.true) at c.requires in
    rw (fraction_some c.args.e c.args.x c.if-e-ne0.true) (writes_then room c.bytes.ensures c.last_digits.ensures)
