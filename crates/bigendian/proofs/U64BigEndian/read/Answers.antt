-- `u64::read` meets its contract: the library's number of the 8 bytes is the definitions'.
-- Assumes nothing.
use Rattle.std.proofs.Common.{◌∙◌}
use Rattle.bigendian.proofs.ByteLaws.{read_8}
use Rattle.bigendian.proofs.U64BigEndian.read.Goals as goal

pub returns : goal.returns
returns c = c.from_be_bytes.ensures ∙ read_8 c.args.s.now c.args.at c.requires
