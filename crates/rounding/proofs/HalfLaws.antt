-- Laws of the rule for halves. No other file unfolds the rule, but for its code's proof and for examples that compute: the laws of a nearest whole number rest on `up_half` and
-- `stays_half`, those of the scale on `carries_above` and `carries_below`, those of a half on `half_even`. Assumes nothing.
use Rattle.std.specs.Prelude.{ℕ, suc, ◌+◌, ◌*◌, ◌-◌, ◌/◌, ◌%◌, ◌≤◌, ◌<◌, pos, negsuc, Bool, true, false, cond, ◌≡◌, refl}
use Rattle.std.proofs.Common.{ltb-true, ltb-false, arith}
use Rattle.std.proofs.Math.Decide.{dec_lt}
use Rattle.rounding.specs.Half.{last_bit_of, is_rounded_up, half_by_scale}
use Rattle.rounding.specs.Scale.{multiplier_scale}

goes_up : (q r b : ℕ) → is_rounded_up q r b ≡ true → b - r < r + last_bit_of q
unfolding is_rounded_up
goes_up q r b e = ltb-true (b - r) (r + last_bit_of q) e

stays : (q r b : ℕ) → is_rounded_up q r b ≡ false → r + last_bit_of q ≤ b - r
unfolding is_rounded_up
stays q r b e = ltb-false (b - r) (r + last_bit_of q) e

-- "a half to the even neighbour": the quotient or the next number, whichever is even
pub half_even : (q r b : ℕ) → 2 * r ≡ b → (q + cond (is_rounded_up q r b) 1 0) % 2 ≡ 0
half_even q r b e = go (is_rounded_up q r b) refl
  where
    go : (up : Bool) → is_rounded_up q r b ≡ up → (q + cond up 1 0) % 2 ≡ 0
    go true t = omega (arith, goes_up q r b t)
    go false t = omega (arith, stays q r b t)

-- ---- what every rule for halves has

-- what goes up has at least a half
pub up_half : (q r b : ℕ) → is_rounded_up q r b ≡ true → b ≤ 2 * r
up_half q r b e = omega (arith, goes_up q r b e)

-- what stays has at most a half
pub stays_half : (q r b : ℕ) → is_rounded_up q r b ≡ false → 2 * r ≤ b
stays_half q r b e = omega (arith, stays q r b e)

-- ---- by the multipliers' scale

-- the test, of a magnitude with this whole quotient and remainder
scale_up : (q r : ℕ) → is_rounded_up q r multiplier_scale ≡ true → multiplier_scale / 2 < r + last_bit_of q
scale_up q r e = omega (arith, goes_up q r multiplier_scale e)

scale_stays : (q r : ℕ) → is_rounded_up q r multiplier_scale ≡ false → r + last_bit_of q ≤ multiplier_scale / 2
scale_stays q r e = omega (arith, stays q r multiplier_scale e)

-- what the rule adds to the whole quotient of a magnitude
abbrev pub carry_by_scale : ℕ → ℕ
carry_by_scale a = cond (is_rounded_up (a / multiplier_scale) (a % multiplier_scale) multiplier_scale) 1 0

pub carries_above : (a : ℕ) → (a + half_by_scale (pos a)) / multiplier_scale ≡ a / multiplier_scale + carry_by_scale a
carries_above a = go (is_rounded_up (a / multiplier_scale) (a % multiplier_scale) multiplier_scale) refl
  where
    go : (up : Bool) → is_rounded_up (a / multiplier_scale) (a % multiplier_scale) multiplier_scale ≡ up
        → (a + half_by_scale (pos a)) / multiplier_scale ≡ a / multiplier_scale + cond up 1 0
    go true e = omega (arith, scale_up (a / multiplier_scale) (a % multiplier_scale) e)
    go false e = omega (arith, scale_stays (a / multiplier_scale) (a % multiplier_scale) e)

-- below zero the magnitude falls by what is added, and the floor quotient is the next magnitude up
pub carries_below : (a : ℕ) → suc a / multiplier_scale + carry_by_scale (suc a) ≡ (suc a + (multiplier_scale - 1) - half_by_scale (negsuc a)) / multiplier_scale
carries_below a =
    go (is_rounded_up (suc a / multiplier_scale) (suc a % multiplier_scale) multiplier_scale) refl (dec_lt (suc (a % multiplier_scale)) multiplier_scale)
  where
    -- a / 16,384 is suc a / 16,384, or one less where suc a is a multiple
    go : (up : Bool) → is_rounded_up (suc a / multiplier_scale) (suc a % multiplier_scale) multiplier_scale ≡ up
        → Dec (suc (a % multiplier_scale) < multiplier_scale)
        → suc a / multiplier_scale + cond up 1 0 ≡ (suc a + (multiplier_scale - 1) - half_by_scale (negsuc a)) / multiplier_scale
    go true e (yes l) =
        let same : suc a / multiplier_scale ≡ a / multiplier_scale = omega arith in
        let other : last_bit_of (suc (a / multiplier_scale)) + last_bit_of (suc a / multiplier_scale) ≡ 1 = omega arith in
        omega (arith, scale_up (suc a / multiplier_scale) (suc a % multiplier_scale) e)
    go false e (yes l) =
        let same : suc a / multiplier_scale ≡ a / multiplier_scale = omega arith in
        let other : last_bit_of (suc (a / multiplier_scale)) + last_bit_of (suc a / multiplier_scale) ≡ 1 = omega arith in
        omega (arith, scale_stays (suc a / multiplier_scale) (suc a % multiplier_scale) e)
    go true e (no l) = absurd (omega (arith, scale_up (suc a / multiplier_scale) (suc a % multiplier_scale) e))
    go false e (no l) =
        let next : suc a / multiplier_scale ≡ suc (a / multiplier_scale) = omega arith in
        omega arith
