-- `u64::write` meets its contract: the library's 8 bytes of the number are the definitions'.
-- Assumes nothing.
use Rattle.std.proofs.Common.{◌∙◌}
use Rattle.bigendian.specs.NumberLaws.{length_bytes}
use Rattle.bigendian.proofs.ByteLaws.{written_8}
use Rattle.bigendian.proofs.U64BigEndian.write.Goals as goal

pub returns : goal.returns
returns c =
    let bytes = c.copy_from_slice.ensures.after ∙ c.to_be_bytes.ensures ∙ written_8 c.args.self c.ranges.self.fits in
    rw (bytes, length_bytes 8 c.args.self)
