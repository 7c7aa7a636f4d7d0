-- `decimal::digit_count` meets its contract. Assumes nothing.
use Rattle.decimal.proofs.DigitLaws.{digits_counted}
use Rattle.decimal.proofs.digit_count.Goals as goal

pub returns : goal.returns
returns c =
    let e = c.ilog10.ensures in
    digits_counted c.ilog10.result c.args.x (rw c.max.ensures at e.power_le) (rw c.max.ensures at e.next_power_gt)
