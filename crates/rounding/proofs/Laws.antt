-- What a caller may use of `rnd`. All of it rests on the laws beside the rule for halves, and none of it on the rule but `near_even`, `rnd_half`,
-- `rnd_mono`, `rnd_scale` and `rnd_scale_parts`. Assumes nothing.
use Rattle.std.specs.Prelude.{ℕ, zero, suc, ◌+◌, ◌*◌, ◌-◌, ◌/◌, ◌%◌, ◌^◌, ◌<◌, ◌≤◌, T, ltb, ℤ, pos, negsuc, neg_ℤ, nat_abs, ◌+ℤ◌, ◌-ℤ◌, ◌*ℤ◌, Bool, true, false, cond, ◌≡◌, refl}
use Rattle.std.proofs.Common.{ltb-true, ltb-false, sym, ap, subst, ◌∙◌, le_antisymm, mul-le-mul_left, mul-pos, div-add-mod', mod-lt, arith}
use mathlib.Core.Bool.{beq}
use Rattle.std.proofs.Math.Dec.{leb-suc-zero}
use Rattle.std.proofs.Math.IntN.{*ℤ-zero, neg_ℤ-neg_ℤ}
use Rattle.std.specs.Int.Signed.{lt_z}
use Rattle.std.proofs.Math.Decide.{dec_lt}
use Rattle.std.proofs.Math.Nat.{le_of_mul-le-mul_left}
use Rattle.integers.specs.Diff.{add_parts, neg_parts}
use Rattle.integers.specs.Order.{ints}
use Rattle.integers.specs.Ring.{neg_ℤ-*ℤ, *ℤ-neg_ℤ, neg_ℤ-*ℤ-neg_ℤ}
use Rattle.integers.specs.Sign.{turned}
use Rattle.integers.specs.Size.{nat_abs_neg_ℤ, turned_near, sfits_size}
use Rattle.rounding.specs.Half.{is_rounded_up, floor_by_scale, remainder_by_scale, half_by_scale, with_half}
use Rattle.rounding.proofs.HalfLaws.{half_even, up_half, stays_half, carries_above, carries_below}
use Rattle.rounding.specs.Round.{near, rnd, Defined}
use Rattle.rounding.specs.Scale.{multiplier_scale}
use Rattle.rounding.specs.TiesToEven.{Even}

-- ---- of naturals: within half of the divisor

-- with the quotient d and the remainder r of a by b
near_by_half : (a b d r : ℕ) (up : Bool) → d * b + r ≡ a → r < b → (up ≡ true → b ≤ 2 * r) → (up ≡ false → 2 * r ≤ b)
    → (2 * (b * (d + cond up 1 0)) ≤ 2 * a + b) × (2 * a ≤ 2 * (b * (d + cond up 1 0)) + b)
near_by_half a b d r true e l h k = let i = h refl in (omega arith, omega arith)
near_by_half a b d r false e l h k = let i = k refl in (omega arith, omega arith)

near_within : (a b : ℕ) → 0 < b → (2 * (b * near a b) ≤ 2 * a + b) × (2 * a ≤ 2 * (b * near a b) + b)
unfolding near
near_within a zero h = absurd (omega arith)
near_within a (suc b) h =
    near_by_half a (suc b) (a / suc b) (a % suc b) (is_rounded_up (a / suc b) (a % suc b) (suc b)) (div-add-mod' a (suc b)) (mod-lt a h)
    (up_half (a / suc b) (a % suc b) (suc b)) (stays_half (a / suc b) (a % suc b) (suc b))

near_le : (a b m : ℕ) → a ≤ m * b → near a b ≤ m
unfolding near
near_le a zero m h = omega arith
near_le a (suc b) m h = go (dec_lt m (near a (suc b)))
  where
    go : Dec (m < near a (suc b)) → near a (suc b) ≤ m
    go (yes p) = absurd (omega (arith, mul-le-mul_left (suc b) p, near_within a (suc b) (omega arith)))
    go (no p) = omega arith

near_zero : (b : ℕ) → near 0 b ≡ 0
near_zero b = omega (arith, near_le 0 b 0 (omega arith))

near_mul : (m b : ℕ) → 0 < b → near (m * b) b ≡ m
near_mul m b h = le_antisymm (near_le (m * b) b m (omega arith)) (go (dec_lt (near (m * b) b) m))
  where
    go : Dec (near (m * b) b < m) → m ≤ near (m * b) b
    go (yes p) = absurd (omega (arith, mul-le-mul_left b p, near_within (m * b) b h))
    go (no p) = omega arith

-- ---- of integers: magnitude and signs

pub abs_rnd : (p q : ℤ) → nat_abs (rnd p q) ≡ near (nat_abs p) (nat_abs q)
unfolding rnd
abs_rnd (pos a) (pos b) = refl
abs_rnd (pos a) (negsuc b) = nat_abs_neg_ℤ (pos (near a (suc b)))
abs_rnd (negsuc a) (pos b) = nat_abs_neg_ℤ (pos (near (suc a) b))
abs_rnd (negsuc a) (negsuc b) = refl

pub rnd_zero : (q : ℤ) → rnd (pos 0) q ≡ pos 0
unfolding rnd
rnd_zero (pos b) = ap pos (near_zero b)
rnd_zero (negsuc b) = ap (λ (n : ℕ). neg_ℤ (pos n)) (near_zero (suc b))

pub near_none : (a : ℕ) → near a 0 ≡ 0
unfolding near
near_none a = refl

-- odd in p, and odd in q
pub rnd_neg : (p q : ℤ) → rnd (neg_ℤ p) q ≡ neg_ℤ (rnd p q)
unfolding rnd
rnd_neg (pos zero) q = rnd_zero q ∙ sym (ap neg_ℤ (rnd_zero q))
rnd_neg (pos (suc a)) (pos b) = refl
rnd_neg (pos (suc a)) (negsuc b) = sym (neg_ℤ-neg_ℤ (pos (near (suc a) (suc b))))
rnd_neg (negsuc a) (pos b) = sym (neg_ℤ-neg_ℤ (pos (near (suc a) b)))
rnd_neg (negsuc a) (negsuc b) = refl

pub rnd_by_neg : (p q : ℤ) → rnd p (neg_ℤ q) ≡ neg_ℤ (rnd p q)
unfolding rnd
rnd_by_neg (pos a) (pos zero) = ap pos (near_none a) ∙ sym (ap (λ (n : ℕ). neg_ℤ (pos n)) (near_none a))
rnd_by_neg (pos a) (pos (suc b)) = refl
rnd_by_neg (pos a) (negsuc b) = sym (neg_ℤ-neg_ℤ (pos (near a (suc b))))
rnd_by_neg (negsuc a) (pos zero) =
    ap (λ (n : ℕ). neg_ℤ (pos n)) (near_none (suc a)) ∙ sym (ap (λ (n : ℕ). neg_ℤ (neg_ℤ (pos n))) (near_none (suc a)))
rnd_by_neg (negsuc a) (pos (suc b)) = sym (neg_ℤ-neg_ℤ (pos (near (suc a) (suc b))))
rnd_by_neg (negsuc a) (negsuc b) = refl

-- ---- "a half to the even neighbour"

near_half : (a b : ℕ) → 0 < b → 2 * (a % b) ≡ b → near a b % 2 ≡ 0
unfolding near
near_half a zero h e = absurd (omega arith)
near_half a (suc b) h e = half_even (a / suc b) (a % suc b) (suc b) e

-- where b × near a b is half of b away from a, a / b is a half
pub near_even : (a b : ℕ) → 0 < b → 2 * (b * near a b - a + (a - b * near a b)) ≡ b → near a b % 2 ≡ 0
unfolding near
near_even a zero h e = absurd (omega arith)
near_even a (suc b) h e =
    near_half a (suc b) h (go (is_rounded_up (a / suc b) (a % suc b) (suc b)) (a / suc b) (a % suc b) (div-add-mod' a (suc b)) (mod-lt a h) e)
  where
    go : (up : Bool) (d r : ℕ) → d * suc b + r ≡ a → r < suc b
        → 2 * (suc b * (d + cond up 1 0) - a + (a - suc b * (d + cond up 1 0))) ≡ suc b → 2 * r ≡ suc b
    go true d r f l k = omega arith
    go false d r f l k = omega arith

-- where q is not 0 and p / q is a half, on either side of zero, the result is even
pub rnd_half : (p q : ℤ) → 0 < nat_abs q → 2 * (nat_abs p % nat_abs q) ≡ nat_abs q → Even (rnd p q)
rnd_half p q h e = rw (abs_rnd p q) (near_half (nat_abs p) (nat_abs q) h e)

-- ---- the laws of a nearest whole number

-- no larger than any whole bound on the quotient
pub rnd_le : (p q : ℤ) (m : ℕ) → nat_abs p ≤ m * nat_abs q → nat_abs (rnd p q) ≤ m
rnd_le p q m h = rw (abs_rnd p q) (near_le (nat_abs p) (nat_abs q) m h)

near_mono : (a b c d : ℕ) → 0 < b → 0 < d → a * d ≤ c * b → near a b ≤ near c d
near_mono a b c d hb hd h = go (dec_lt (near c d) (near a b))
  where
    go : Dec (near c d < near a b) → near a b ≤ near c d
    go (yes l) =
        let u = near_within a b hb in
        let v = near_within c d hd in
        let p = mul-le-mul_left d u.0 in
        let q = mul-le-mul_left b v.1 in
        let r = mul-le-mul_left (b * d) l in
        let first : 2 * a + b ≤ 2 * (b * near a b) = le_of_mul-le-mul_left {k = d} (omega (arith, p, q, r)) hd in
        let second : 2 * (d * near c d) + d ≤ 2 * c = le_of_mul-le-mul_left {k = b} (omega (arith, p, q, r)) hb in
        let next : near a b ≤ suc (near c d) = le_of_mul-le-mul_left {k = b * d} (omega (arith, p, q, r)) (mul-pos hb hd) in
        absurd (omega (arith, near_even a b hb (omega (arith, u.0)), near_even c d hd (omega (arith, v.1))))
    go (no l) = omega arith

-- monotone in size: a larger quotient has no smaller result
pub rnd_mono : (p q r s : ℤ) → 0 < nat_abs q → 0 < nat_abs s → nat_abs p * nat_abs s ≤ nat_abs r * nat_abs q → nat_abs (rnd p q) ≤ nat_abs (rnd r s)
rnd_mono p q r s h k l = rw (abs_rnd p q, abs_rnd r s) (near_mono (nat_abs p) (nat_abs q) (nat_abs r) (nat_abs s) h k l)

pub mul_rnd : (p q : ℤ) → q *ℤ rnd p q ≡ turned p (pos (nat_abs q * near (nat_abs p) (nat_abs q)))
unfolding rnd
mul_rnd (pos zero) q = ap (λ (x : ℤ). q *ℤ x) (rnd_zero q) ∙ *ℤ-zero q
mul_rnd (pos (suc a)) (pos b) = refl
mul_rnd (pos (suc a)) (negsuc b) = neg_ℤ-*ℤ-neg_ℤ (pos (suc b)) (pos (near (suc a) (suc b)))
mul_rnd (negsuc a) (pos b) = *ℤ-neg_ℤ (pos b) (pos (near (suc a) b))
mul_rnd (negsuc a) (negsuc b) = refl

-- q rnd(p/q) is within half of q from p
pub rnd_near : (p q : ℤ) → 0 < nat_abs q → 2 * nat_abs (q *ℤ rnd p q -ℤ p) ≤ nat_abs q
rnd_near p q h =
    let w = near_within (nat_abs p) (nat_abs q) h in
    rw (mul_rnd p q) (turned_near p (nat_abs q * near (nat_abs p) (nat_abs q)) (nat_abs q) w.0 w.1)

exact_pos : (m : ℕ) (q : ℤ) → 0 < nat_abs q → rnd (pos m *ℤ q) q ≡ pos m
unfolding rnd
exact_pos m (pos b) h = ap pos (near_mul m b h)
exact_pos m (negsuc b) h =
    rnd_neg (pos (m * suc b)) (negsuc b)
    ∙ neg_ℤ-neg_ℤ (pos (near (m * suc b) (suc b)))
    ∙ ap pos (near_mul m (suc b) h)

-- exact at a multiple
pub rnd_mul : (m q : ℤ) → 0 < nat_abs q → rnd (m *ℤ q) q ≡ m
rnd_mul (pos m) q h = exact_pos m q h
rnd_mul (negsuc m) q h =
    ap (λ t. rnd t q) (neg_ℤ-*ℤ (pos (suc m)) q) ∙ rnd_neg (pos (suc m) *ℤ q) q ∙ ap neg_ℤ (exact_pos (suc m) q h)

-- ---- for code

pub near_by : (a b : ℕ) → 0 < b → near a b ≡ a / b + cond (is_rounded_up (a / b) (a % b) b) 1 0
unfolding near
near_by a zero h = absurd (omega arith)
near_by a (suc b) h = refl

-- by the tests of the signs
pub rnd_signs : (p q : ℤ) → rnd p q ≡ cond (lt_z p (pos 0))
    (cond (lt_z q (pos 0)) (pos (near (nat_abs p) (nat_abs q))) (neg_ℤ (pos (near (nat_abs p) (nat_abs q)))))
    (cond (lt_z q (pos 0)) (neg_ℤ (pos (near (nat_abs p) (nat_abs q)))) (pos (near (nat_abs p) (nat_abs q))))
unfolding rnd
rnd_signs (pos a) (pos b) = rw (leb-suc-zero a, leb-suc-zero b)
rnd_signs (pos a) (negsuc b) = rw (leb-suc-zero a)
rnd_signs (negsuc a) (pos b) = rw (leb-suc-zero b)
rnd_signs (negsuc a) (negsuc b) = refl

-- by the test whether the signs are the same
module _ (p q : ℤ) where
  pub rnd_same_sign : beq (lt_z p (pos 0)) (lt_z q (pos 0)) ≡ true → rnd p q ≡ pos (near (nat_abs p) (nat_abs q))
  rnd_same_sign e = rnd_signs p q ∙ go (lt_z p (pos 0)) (lt_z q (pos 0)) _ _ e
    where
      go : (s t : Bool) (x y : ℤ) → beq s t ≡ true → cond s (cond t x y) (cond t y x) ≡ x
      go true true x y e = refl
      go true false x y e = absurd (subst T (sym e) tt)
      go false true x y e = absurd (subst T (sym e) tt)
      go false false x y e = refl

  pub rnd_other_sign : beq (lt_z p (pos 0)) (lt_z q (pos 0)) ≡ false → rnd p q ≡ neg_ℤ (pos (near (nat_abs p) (nat_abs q)))
  rnd_other_sign e = rnd_signs p q ∙ go (lt_z p (pos 0)) (lt_z q (pos 0)) _ _ e
    where
      go : (s t : Bool) (x y : ℤ) → beq s t ≡ false → cond s (cond t x y) (cond t y x) ≡ y
      go true true x y e = absurd (subst T e tt)
      go true false x y e = refl
      go false true x y e = refl
      go false false x y e = absurd (subst T e tt)

-- a dividend that is not the least number has a quotient that fits
pub defined : (p q : ℤ) → nat_abs p < 2 ^ 63 → 0 < nat_abs q → Defined p q
defined p q h k =
    record {
      divisor = k;
      fits = sfits_size (omega (arith, rnd_le p q (nat_abs p) (omega (arith, mul-le-mul_left (nat_abs p) k))));
    }

-- ---- by the multipliers' scale

-- a floor quotient below zero, k added to a negative number
floor_below : (a k : ℕ) → k < multiplier_scale
    → floor_by_scale (negsuc a +ℤ pos k) ≡ neg_ℤ (pos ((suc a + (multiplier_scale - 1) - k) / multiplier_scale))
floor_below a k h = go (ltb k (suc a)) refl
  where
    go : (b : Bool) → ltb k (suc a) ≡ b
        → floor_by_scale (cond b (negsuc (suc a - suc k)) (pos (k - suc a))) ≡ neg_ℤ (pos ((suc a + (multiplier_scale - 1) - k) / multiplier_scale))
    go true t =
        let l : k < suc a = ltb-true k (suc a) t in
        let e : (suc a + (multiplier_scale - 1) - k) / multiplier_scale ≡ suc ((suc a - suc k) / multiplier_scale) = omega arith in
        rw e
    go false t =
        let l : suc a ≤ k = ltb-false k (suc a) t in
        let e : (suc a + (multiplier_scale - 1) - k) / multiplier_scale ≡ 0 = omega arith in
        let f : (k - suc a) / multiplier_scale ≡ 0 = omega arith in
        rw (e, f)

-- p + 8,191 + the last bit of the floor quotient, shifted, is the rule on both sides of zero
pub rnd_scale : (p : ℤ) → rnd p (pos multiplier_scale) ≡ floor_by_scale (with_half p)
unfolding rnd near
rnd_scale (pos a) = ap pos (sym (carries_above a))
rnd_scale (negsuc a) =
    ap (λ (m : ℕ). neg_ℤ (pos m)) (carries_below a) ∙ sym (floor_below a (half_by_scale (negsuc a)) (omega arith))

-- the same with the multiple of the scale set aside, which fits wherever p does
pub rnd_scale_parts : (p : ℤ) → rnd p (pos multiplier_scale) ≡ floor_by_scale p +ℤ pos ((remainder_by_scale p + half_by_scale p) / multiplier_scale)
rnd_scale_parts (pos a) = rnd_scale (pos a) ∙ ap pos (omega arith)
rnd_scale_parts (negsuc a) =
    let k = half_by_scale (negsuc a) in
    let m = (suc a + (multiplier_scale - 1) - k) / multiplier_scale in
    let t = (remainder_by_scale (negsuc a) + k) / multiplier_scale in
    let e : m + t ≡ suc (a / multiplier_scale) = omega arith in
    rnd_scale (negsuc a)
    ∙ floor_below a k (omega arith)
    ∙ omega (arith, ints, neg_parts (pos m), add_parts (negsuc (a / multiplier_scale)) (pos t))
