use Rattle.decimal.proofs.DigitsReadLaws.{ReadingDigits}
use Rattle.decimal.proofs.read_digits.Given as goal

abbrev pub invariant-loop-count : goal.invariant-loop-count
invariant-loop-count l = ReadingDigits l.most l.text l.count l.value
