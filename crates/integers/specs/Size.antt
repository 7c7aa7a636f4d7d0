-- The size |z| of a whole number, `nat_abs z`: its laws, its relation to the order, and what fits a signed width.
-- The question whether a signed operation wraps, `SFits w64 (x +ℤ y)`, is answered in one of two ways.
-- By `omega`, from bounds in reach: `omega (arith, fits, nat_abs-+ℤ x y)`.
-- By computing a bound, from a bound of each variable: `let X = at_most x 1000 hx in let Y = at_most y 9 hy in sfits_by (search bounds) tt`.
-- Assumes nothing.
use Rattle.std.specs.Prelude.{ℕ, zero, suc, ◌+◌, ◌*◌, ◌^◌, ◌≤◌, ◌<◌, T, leb, ltb, ℤ, pos, negsuc, neg_ℤ, nat_abs, ◌+ℤ◌, ◌-ℤ◌, ◌*ℤ◌, true, ◌≡◌, refl}
use Rattle.std.proofs.Common.{leb-true, ltb→lt, leb→le, pow_pos, sym, ap, mul-le-mul, mul-le-mul_right, le_trans, lt_of_le_of_lt, arith}
use Rattle.std.proofs.Math.IntN.{*ℤ-zero}
use Rattle.std.specs.Int.Signed.{mag}
use Rattle.std.specs.Int.{Width}
use mir.Val.{hbits, SFits}
use Rattle.integers.specs.Diff.{one_side, abs_parts, size_parts, add_parts, neg_parts, sub_parts}
use Rattle.integers.specs.Order.{ints}
use Rattle.integers.specs.Ring.{neg_ℤ-*ℤ-neg_ℤ}
use Rattle.integers.specs.Sign.{turned}

-- ---- the laws

pub nat_abs_neg_ℤ : (x : ℤ) → nat_abs (neg_ℤ x) ≡ nat_abs x
nat_abs_neg_ℤ (pos zero) = refl
nat_abs_neg_ℤ (pos (suc n)) = refl
nat_abs_neg_ℤ (negsuc n) = refl

pub nat_abs-*ℤ : (x y : ℤ) → nat_abs (x *ℤ y) ≡ nat_abs x * nat_abs y
nat_abs-*ℤ (pos a) (pos b) = refl
nat_abs-*ℤ (pos a) (negsuc b) = nat_abs_neg_ℤ (pos (a * suc b))
nat_abs-*ℤ (negsuc a) (pos b) = nat_abs_neg_ℤ (pos (suc a * b))
nat_abs-*ℤ (negsuc a) (negsuc b) = refl

pub nat_abs-+ℤ : (x y : ℤ) → nat_abs (x +ℤ y) ≤ nat_abs x + nat_abs y
nat_abs-+ℤ x y =
    omega (arith, add_parts x y, one_side (x +ℤ y), abs_parts (x +ℤ y), abs_parts x, abs_parts y)

pub nat_abs_sub_ℤ : (x y : ℤ) → nat_abs (x -ℤ y) ≤ nat_abs x + nat_abs y
nat_abs_sub_ℤ x y = omega (arith, nat_abs-+ℤ x (neg_ℤ y), nat_abs_neg_ℤ y)

pub nat_abs_zero : (x : ℤ) → nat_abs x ≡ 0 → x ≡ pos 0
nat_abs_zero x h = omega (arith, ints, abs_parts x)

-- ---- and the order

-- a size within a multiple of 0
pub nat_abs_within_zero : (x : ℤ) (t u v : ℕ) → 0 < v → v * nat_abs x ≤ u * t → t ≡ 0 → x ≡ pos 0
nat_abs_within_zero x t u v p h e = nat_abs_zero x (omega (arith, mul-le-mul_right (nat_abs x) p, ap (λ n. u * n) e))

pub turned_size : (y x : ℤ) → nat_abs (turned y x) ≤ nat_abs x
turned_size (pos zero) x = omega arith
turned_size (pos (suc y)) x = omega arith
turned_size (negsuc y) x = omega (arith, nat_abs_neg_ℤ x)

pub turned_times : (y x : ℤ) → turned y x *ℤ y ≡ x *ℤ pos (nat_abs y)
turned_times (pos zero) x = sym (*ℤ-zero x)
turned_times (pos (suc y)) x = refl
turned_times (negsuc y) x = neg_ℤ-*ℤ-neg_ℤ x (pos (suc y))

-- a number with the sign of p is as near to p as the sizes are
pub turned_near : (p : ℤ) (x b : ℕ) → 2 * x ≤ 2 * nat_abs p + b → 2 * nat_abs p ≤ 2 * x + b → 2 * nat_abs (turned p (pos x) -ℤ p) ≤ b
turned_near (pos zero) x b h k = omega arith
turned_near (pos (suc a)) x b h k =
    omega (arith, sub_parts (pos x) (pos (suc a)), size_parts (pos x -ℤ pos (suc a)))
turned_near (negsuc a) x b h k =
    omega (arith, sub_parts (neg_ℤ (pos x)) (negsuc a), neg_parts (pos x), size_parts (neg_ℤ (pos x) -ℤ negsuc a))

-- ---- what fits a signed width

mag_le : (z : ℤ) → mag z ≤ nat_abs z
mag_le (pos n) = omega arith
mag_le (negsuc n) = omega arith

nat_abs_mag : (z : ℤ) → nat_abs z ≤ suc (mag z)
nat_abs_mag (pos n) = omega arith
nat_abs_mag (negsuc n) = omega arith

-- a size below half the width's power fits
pub sfits_size : {w : Width} {z : ℤ} → nat_abs z < 2 ^ hbits w → SFits w z
sfits_size {w} {z} h = record { sfits = lt_of_le_of_lt (mag_le z) h }

-- also one that passed the test of a limit
pub sfits_leb : {w : Width} (limit : ℕ) → limit < 2 ^ hbits w → (z : ℤ) → leb (nat_abs z) limit ≡ true → SFits w z
sfits_leb limit h z e = let k : nat_abs z ≤ limit = leb-true (nat_abs z) limit e in sfits_size (omega arith)

-- and what fits has at most that size
pub size_sfits : {w : Width} {z : ℤ} → SFits w z → nat_abs z ≤ 2 ^ hbits w
size_sfits {w} {z} h = le_trans (nat_abs_mag z) h.sfits

-- a number below zero may have that size itself
pub sfits_neg_ℤ : {w : Width} (m : ℕ) → m ≤ 2 ^ hbits w → SFits w (neg_ℤ (pos m))
sfits_neg_ℤ {w} zero h = record { sfits = pow_pos (hbits w) }
sfits_neg_ℤ (suc m) h = record { sfits = h }

pub size_neg_ℤ : {w : Width} (m : ℕ) → SFits w (neg_ℤ (pos m)) → m ≤ 2 ^ hbits w
size_neg_ℤ {w} m f = omega (arith, size_sfits f, nat_abs_neg_ℤ (pos m))

-- the rules for `omega`
pub ruleset fits = (sfits_size, size_sfits)

-- ---- a bound computed along a term

pub record Bound (z : ℤ) : Type 0 where
  pub b : ℕ
  pub ok : nat_abs z ≤ b

abbrev pub at_most : (z : ℤ) (b : ℕ) → nat_abs z ≤ b → Bound z
at_most z b h = record { b = b; ok = h }

pub sum_ok : (x y : ℤ) (a b : ℕ) → nat_abs x ≤ a → nat_abs y ≤ b → nat_abs (x +ℤ y) ≤ a + b
sum_ok x y a b h k = omega (arith, nat_abs-+ℤ x y)

pub neg_ok : (x : ℤ) (a : ℕ) → nat_abs x ≤ a → nat_abs (neg_ℤ x) ≤ a
neg_ok x a h = omega (arith, nat_abs_neg_ℤ x)

pub product_ok : (x y : ℤ) (a b : ℕ) → nat_abs x ≤ a → nat_abs y ≤ b → nat_abs (x *ℤ y) ≤ a * b
product_ok x y a b h k = omega (arith, nat_abs-*ℤ x y, mul-le-mul h k)

abbrev pub b_add : {x y : ℤ} → Bound x → Bound y → Bound (x +ℤ y)
b_add {x} {y} s t = record { b = s.b + t.b; ok = sum_ok x y s.b t.b s.ok t.ok }

abbrev pub b_mul : {x y : ℤ} → Bound x → Bound y → Bound (x *ℤ y)
b_mul {x} {y} s t = record { b = s.b * t.b; ok = product_ok x y s.b t.b s.ok t.ok }

abbrev pub b_neg : {x : ℤ} → Bound x → Bound (neg_ℤ x)
b_neg {x} s = record { b = s.b; ok = neg_ok x s.b s.ok }

abbrev pub b_pos : (n : ℕ) → Bound (pos n)
b_pos n = record { b = n; ok = omega arith }

abbrev pub b_negsuc : (n : ℕ) → Bound (negsuc n)
b_negsuc n = record { b = suc n; ok = omega arith }

pub ruleset bounds = (b_add, b_mul, b_neg, b_pos, b_negsuc)

-- the computed bound is small enough, by computation: `tt`
pub sfits_by : {w : Width} {z : ℤ} (s : Bound z) → T (ltb s.b (2 ^ hbits w)) → SFits w z
sfits_by {w} {z} s t = sfits_size (lt_of_le_of_lt s.ok (ltb→lt s.b (2 ^ hbits w) t))

pub size_by : (z : ℤ) {n : ℕ} (s : Bound z) → T (leb s.b n) → nat_abs z ≤ n
size_by z {n} s t = le_trans s.ok (leb→le s.b n t)
