-- `decimal::fill_digits` meets its contract. Assumes nothing.
use Rattle.std.proofs.Common.{◌-◌, arith}
use Rattle.decimal.proofs.DigitLaws.{filling_turn, filling_ended}
use Rattle.decimal.proofs.fill_digits.Goals as goal

pub loop-i-preserved : goal.loop-i-preserved
loop-i-preserved c = filling_turn (c.loop-i.i - 1) (omega arith) c.loop-i.invariant

pub returns : goal.returns
returns c = filling_ended c.loop-i-test.false c.loop-i.invariant
