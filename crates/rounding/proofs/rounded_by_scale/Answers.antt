-- `rounding::rounded_by_scale` meets its contract: the shift is the floor quotient, and the masks are the remainder and the last bit, on both
-- sides of zero. Assumes nothing.
use Prim.Native.Nat.{◌+◌, ◌/◌, ◌<◌, ◌^◌}
use lib.Bits.{bit_and, and_mask}
use lib.IntN.{ℤ, pos, negsuc, nat_abs, ◌+ℤ◌}
use lib.Signed.{shr_z, mag_shr}
use mathlib.Core.Path.{◌≡◌, sym, ap, ◌∙◌}
use mir.Facts.{to_z-of_z, to_z_pos}
use mir.Syntax.{w64}
use mir.Val.{SFits, to_z, of_z}
use native.Mathlib.Nat.{lt_of_le_of_lt}
use native.Mathlib.Omega.{arith}
use Rattle.integers.specs.Signed.{read}
use Rattle.integers.specs.Size.{sfits_size, size_sfits}
use Rattle.rounding.specs.Half.{last_bit_of, floor_by_scale, remainder_by_scale, half_by_scale}
use Rattle.rounding.proofs.Laws.{rnd_le, rnd_scale_parts}
use Rattle.rounding.specs.Round.{rnd}
use Rattle.rounding.specs.Scale.{multiplier_scale}
use Rattle.rounding.proofs.rounded_by_scale.Goals as goal

masked : (p : ℤ) → SFits w64 p → bit_and (of_z w64 p) 16383 ≡ remainder_by_scale p
masked (pos a) h = and_mask a 14
masked (negsuc a) h = and_mask (of_z w64 (negsuc a)) 14 ∙ omega (arith, h.sfits)

remainder_lt : (p : ℤ) → remainder_by_scale p < multiplier_scale
remainder_lt (pos a) = omega arith
remainder_lt (negsuc a) = omega arith

-- the code's terms, of a number that fits and its quotient's last bit
module _ (p : ℤ) (h : SFits w64 p) where
  abbrev quotient' : ℤ
  quotient' = read (shr_z (read p) multiplier_scale)

  abbrev sum' : ℤ → ℤ
  sum' bit = read (to_z w64 (bit_and (of_z w64 p) 16383) +ℤ pos 8191) +ℤ read bit

  abbrev result' : ℤ → ℤ
  result' bit = quotient' +ℤ read (shr_z (read (sum' bit)) multiplier_scale)

  quotient_fits : SFits w64 (floor_by_scale p)
  quotient_fits = record { sfits = lt_of_le_of_lt (mag_shr p multiplier_scale) h.sfits }

  quotient_is : quotient' ≡ floor_by_scale p
  quotient_is = rw (to_z-of_z h) (to_z-of_z quotient_fits)

  remainder_is : to_z w64 (bit_and (of_z w64 p) 16383) ≡ pos (remainder_by_scale p)
  remainder_is = ap (to_z w64) (masked p h) ∙ to_z_pos w64 (omega (arith, remainder_lt p))

  first_fits : SFits w64 (pos (remainder_by_scale p + 8191))
  first_fits = record { sfits = omega (arith, remainder_lt p) }

  bit_fits : SFits w64 (pos (last_bit_of (nat_abs (floor_by_scale p))))
  bit_fits = record { sfits = omega arith }

  sum_lt : remainder_by_scale p + half_by_scale p < 2 ^ 15
  sum_lt = omega (arith, remainder_lt p)

  sum_fits : SFits w64 (pos (remainder_by_scale p + half_by_scale p))
  sum_fits = record { sfits = omega (arith, sum_lt) }

  carry_fits : SFits w64 (pos ((remainder_by_scale p + half_by_scale p) / multiplier_scale))
  carry_fits = record { sfits = omega (arith, sum_lt) }

  result_fits : SFits w64 (rnd p (pos multiplier_scale))
  result_fits = sfits_size (omega (arith, rnd_le p (pos multiplier_scale) (2 ^ 49) (omega (arith, size_sfits h))))

  module _ {bit : ℤ} (e : bit ≡ pos (last_bit_of (nat_abs quotient'))) where
    bit_is : bit ≡ pos (last_bit_of (nat_abs (floor_by_scale p)))
    bit_is = e ∙ ap (λ (z : ℤ). pos (last_bit_of (nat_abs z))) quotient_is

    sum_is : sum' bit ≡ pos (remainder_by_scale p + half_by_scale p)
    sum_is = rw (remainder_is, bit_is, to_z-of_z first_fits, to_z-of_z bit_fits) (ap pos (omega arith))

    result_is : result' bit ≡ rnd p (pos multiplier_scale)
    result_is = rw (sum_is, quotient_is, to_z-of_z sum_fits, to_z-of_z carry_fits) (sym (rnd_scale_parts p))

pub returns : goal.returns
returns c = let p = c.args.p in ap read (result_is p c.ranges.p c.last_bit.ensures) ∙ to_z-of_z (result_fits p c.ranges.p)
