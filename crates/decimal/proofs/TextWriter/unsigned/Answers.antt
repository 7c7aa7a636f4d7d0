-- `decimal::TextWriter::unsigned` meets its contract: a number's digits are its last ones, as many as there are. Assumes nothing.
use Rattle.decimal.proofs.DigitLaws.{digits_last}
use Rattle.decimal.proofs.TextWriter.unsigned.Goals as goal

pub last_digits-requires : goal.last_digits-requires
last_digits-requires c = rw (c.digit_count.ensures, ← (digits_last c.args.x)) c.requires

pub returns : goal.returns
returns c = rw (c.digit_count.ensures, ← (digits_last c.args.x)) at c.last_digits.ensures
