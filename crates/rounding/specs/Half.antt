-- Definitions only.
-- The rule for halves: "rnd takes a half to the even neighbour everywhere" (document 02, "Five"). It stands here alone, on magnitudes.
use Rattle.std.specs.Prelude.{ℕ, ◌+◌, ◌-◌, ◌/◌, ◌%◌, ltb, ℤ, pos, negsuc, nat_abs, ◌+ℤ◌, Bool}
use Rattle.std.specs.Int.Signed.{shr_z}
use Rattle.rounding.specs.Scale.{multiplier_scale}

-- the last binary digit: 1 of an odd number, 0 of an even one
abbrev pub last_bit_of : ℕ → ℕ
last_bit_of a = a % 2

-- whether a magnitude with this whole quotient, remainder and divisor goes up to the next whole number: the remainder is more than what is left
-- of the divisor, or as much and the quotient is odd
unfoldable pub is_rounded_up : ℕ → ℕ → ℕ → Bool
is_rounded_up quotient remainder divisor = ltb (divisor - remainder) (remainder + last_bit_of quotient)

-- ---- by the multipliers' scale, on both sides of zero

-- the whole number at or next below p / 16,384, which a shift gives
abbrev pub floor_by_scale : ℤ → ℤ
floor_by_scale p = shr_z p multiplier_scale

-- what is left of p above that multiple of the scale
abbrev pub remainder_by_scale : ℤ → ℕ
remainder_by_scale (pos a) = a % multiplier_scale
remainder_by_scale (negsuc a) = multiplier_scale - 1 - a % multiplier_scale

-- 8,191 and the last bit of the floor quotient: with this added to p, the floor quotient is the rounded one
abbrev pub half_by_scale : ℤ → ℕ
half_by_scale p = multiplier_scale / 2 - 1 + last_bit_of (nat_abs (floor_by_scale p))

abbrev pub with_half : ℤ → ℤ
with_half p = p +ℤ pos (half_by_scale p)
