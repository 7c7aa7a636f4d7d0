-- What signed code leaves of a negated number: `-x` is `pos 0 -ℤ x`. Assumes nothing.
use Rattle.std.specs.Prelude.{ℕ, ◌-◌, ◌^◌, ◌≤◌, ◌<◌, pos, neg_ℤ, ◌-ℤ◌, ◌≡◌}
use Rattle.std.specs.Int.{Width}
use mir.Val.{SFits, hbits}
use Rattle.std.proofs.Common.{arith}
use Rattle.integers.specs.Diff.{sub_parts, neg_parts}
use Rattle.integers.specs.Order.{ints}
use Rattle.integers.specs.Ring.{zero_sub_ℤ}
use Rattle.integers.specs.Size.{sfits_neg_ℤ}

-- the least number of a width is reached without forming its size: minus one less, less one
pub minus_less : (m : ℕ) → 0 < m → pos 0 -ℤ pos (m - 1) -ℤ pos 1 ≡ neg_ℤ (pos m)
minus_less m h =
    omega (arith, ints, sub_parts (pos 0) (pos (m - 1)), sub_parts (pos 0 -ℤ pos (m - 1)) (pos 1), neg_parts (pos m))

pub minus_fits : {w : Width} (m : ℕ) → m ≤ 2 ^ hbits w → SFits w (pos 0 -ℤ pos m)
minus_fits m h = rw (zero_sub_ℤ (pos m)) (sfits_neg_ℤ m h)
