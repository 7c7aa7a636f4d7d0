-- `u16::read` meets its contract: the library's number of the 2 bytes is the definitions'.
-- Assumes nothing.
use Rattle.std.proofs.Common.{◌∙◌}
use Rattle.bigendian.proofs.ByteLaws.{read_2}
use Rattle.bigendian.proofs.U16BigEndian.read.Goals as goal

pub returns : goal.returns
returns c = c.from_be_bytes.ensures ∙ read_2 c.args.s.now c.args.at c.requires
