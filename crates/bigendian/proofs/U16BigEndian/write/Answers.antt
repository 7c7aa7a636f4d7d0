-- `u16::write` meets its contract: the library's 2 bytes of the number are the definitions'.
-- Assumes nothing.
use Rattle.std.proofs.Common.{◌∙◌}
use Rattle.bigendian.specs.NumberLaws.{length_bytes}
use Rattle.bigendian.proofs.ByteLaws.{written_2}
use Rattle.bigendian.proofs.U16BigEndian.write.Goals as goal

pub returns : goal.returns
returns c =
    let bytes = c.copy_from_slice.ensures.after ∙ c.to_be_bytes.ensures ∙ written_2 c.args.self c.ranges.self.fits in
    rw (bytes, length_bytes 2 c.args.self)
