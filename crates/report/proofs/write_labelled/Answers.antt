-- `report::write_labelled` meets its contract: the word, then the number.
-- Assumes nothing.
use Rattle.decimal.proofs.WritingLaws.{writes_then}
use Rattle.report.proofs.write_labelled.Goals as goal

pub returns : goal.returns
returns c = writes_then c.requires c.bytes.ensures c.unsigned.ensures
