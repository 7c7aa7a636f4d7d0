-- `fields::write_end` meets its contract: a field without value is its header.
-- Assumes nothing.
use borrow.Author.Rules.{rules}
use Rattle.bigendian.specs.Number.{be_bytes}
use Rattle.fields.specs.Field.{field}
use Rattle.fields.proofs.write_end.Goals as goal

pub returns : goal.returns
unfolding field be_bytes
returns c = c.write_header.ensures
