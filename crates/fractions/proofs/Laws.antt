-- Laws of the order of fractions: it is total and transitive, agrees with the cross products of proper fractions, and goes by whole quotients and
-- then by the remainders turned over. Assumes nothing.
use Prim.Native.Nat.compare
use Rattle.std.specs.Prelude.{ℕ, zero, suc, ◌+◌, ◌*◌, ◌/◌, ◌%◌, ◌<◌, ◌≤◌, ◌⊎◌, ◌↔◌, ◌≡◌, refl}
use Rattle.std.proofs.Common.{inl, inr, sym, ap₂, ◌∙◌, zero-add, suc-add, le_of_suc-le-suc, div-add-mod', mod-lt, mul-le-mul_right, mul-pos}
use Rattle.std.proofs.Math.Path.{ap}
use Rattle.std.proofs.Math.Decide.{dec_lt, dec_le}
use Rattle.std.proofs.Math.Nat.{le_of_mul-le-mul_left}
use native.Mathlib.Omega.{arith}
use Rattle.fractions.specs.Fraction.{◌over◌, Fraction, ordered_denominator, base, ◌≼◌, ◌≺◌, order_named, order_of_numbers, order}
use Rattle.std.specs.declared.cmp.Ordering.TheVariants.{Less, Equal, Greater}

-- ---- the order of two naturals

ordered_lt : (x y : ℕ) → x < y → order_of_numbers x y ≡ Less
unfolding order_of_numbers
ordered_lt zero zero h = absurd (omega arith)
ordered_lt zero (suc y) h = ap order_named (compare.zero-suc y)
ordered_lt (suc x) zero h = absurd (omega arith)
ordered_lt (suc x) (suc y) h = ap order_named (compare.suc-suc x y) ∙ ordered_lt x y (le_of_suc-le-suc h)

ordered_same : (n : ℕ) → order_of_numbers n n ≡ Equal
unfolding order_of_numbers
ordered_same zero = ap order_named compare.zero-zero
ordered_same (suc n) = ap order_named (compare.suc-suc n n) ∙ ordered_same n

ordered_eq : (x y : ℕ) → x ≡ y → order_of_numbers x y ≡ Equal
ordered_eq x y e = ap (λ (n : ℕ). order_of_numbers x n) (sym e) ∙ ordered_same x

ordered_gt : (x y : ℕ) → y < x → order_of_numbers x y ≡ Greater
unfolding order_of_numbers
ordered_gt zero zero h = absurd (omega arith)
ordered_gt zero (suc y) h = absurd (omega arith)
ordered_gt (suc x) zero h = ap order_named (compare.suc-zero x)
ordered_gt (suc x) (suc y) h = ap order_named (compare.suc-suc x y) ∙ ordered_gt x y (le_of_suc-le-suc h)

ordered_shift : (k x y : ℕ) → order_of_numbers (k + x) (k + y) ≡ order_of_numbers x y
unfolding order_of_numbers
ordered_shift zero x y = ap₂ order_of_numbers (zero-add x) (zero-add y)
ordered_shift (suc k) x y =
    ap₂ order_of_numbers (suc-add k x) (suc-add k y) ∙ ap order_named (compare.suc-suc (k + x) (k + y)) ∙ ordered_shift k x y

-- ---- the three outcomes, each from its cross products and back

module _ (f g : Fraction) where
  pub order_less : f ≺ g → order f g ≡ Less
  unfolding order
  order_less h = ordered_lt (f.num * base g) (g.num * base f) h

  pub order_equal : f.num * base g ≡ g.num * base f → order f g ≡ Equal
  unfolding order
  order_equal h = ordered_eq (f.num * base g) (g.num * base f) h

  pub order_greater : g ≺ f → order f g ≡ Greater
  unfolding order
  order_greater h = ordered_gt (f.num * base g) (g.num * base f) h

  pub greater_than : order f g ≡ Greater → g ≺ f
  greater_than e = go (dec_lt (g.num * base f) (f.num * base g)) (dec_lt (f.num * base g) (g.num * base f))
    where
      go : Dec (g ≺ f) → Dec (f ≺ g) → g ≺ f
      go (yes h) d = h
      go (no h) (yes l) = let z : ◌≡◌ {A = ℕ} 0 1 = cc (order_less l, e) in absurd (omega arith)
      go (no h) (no l) = let z : ◌≡◌ {A = ℕ} 0 1 = cc (order_equal (omega arith), e) in absurd (omega arith)

  -- total
  pub ≼-total : (f ≼ g) ⊎ (g ≺ f)
  ≼-total = go (dec_le (f.num * base g) (g.num * base f))
    where
      go : Dec (f ≼ g) → (f ≼ g) ⊎ (g ≺ f)
      go (yes h) = inl h
      go (no h) = inr (omega arith)

pub ≼_refl : (f : Fraction) → f ≼ f
≼_refl f = omega arith

-- ---- a fraction whose denominator reads as 0 has a numerator

numerator : (a b : ℕ) → ordered_denominator a b ≡ 0 → 0 < a
numerator zero zero e = absurd (omega arith)
numerator zero (suc b) e = absurd (omega arith)
numerator (suc a) b e = omega arith

pub numerator_base : (a b : ℕ) → 0 < a → ordered_denominator a b ≡ b
numerator_base zero b h = absurd (omega arith)
numerator_base (suc a) b h = refl

pub proper_base : (a b : ℕ) → 0 < b → ordered_denominator a b ≡ b
proper_base a zero h = absurd (omega arith)
proper_base zero (suc b) h = refl
proper_base (suc a) (suc b) h = refl

-- anything but 0 over 0 is above every fraction with a factor, and equal to its like
pub over_zero_above : (a c d : ℕ) → 0 < a → 0 < ordered_denominator c d → (c over d) ≺ (a over 0)
over_zero_above a c d h l = rw (numerator_base a 0 h) (omega (arith, mul-pos {m = a} {n = ordered_denominator c d} h l))

pub over_zero_alike : (a c : ℕ) → 0 < a → 0 < c → order (a over 0) (c over 0) ≡ Equal
over_zero_alike a c h l = order_equal (a over 0) (c over 0) (rw (numerator_base a 0 h, numerator_base c 0 l) (omega arith))

-- against u / v, whose denominator is not read anew: v a ≤ u b, from and to the order
pub cross_from_base : (a b u v : ℕ) → a * v ≤ u * ordered_denominator a b → v * a ≤ u * b
cross_from_base zero zero u v h = omega arith
cross_from_base zero (suc b) u v h = omega arith
cross_from_base (suc a) b u v h = omega arith

pub cross_to_base : (a b u v : ℕ) → v * a ≤ u * b → a * v ≤ u * ordered_denominator a b
cross_to_base zero zero u v h = omega arith
cross_to_base zero (suc b) u v h = omega arith
cross_to_base (suc a) b u v h = omega arith

-- transitive
module _ (f g h : Fraction) where
  pub ≼_trans : f ≼ g → g ≼ h → f ≼ h
  ≼_trans p q = go (base g) refl
    where
      -- above g, which is above every fraction, stand only such
      top : base g ≡ 0 → base h ≡ 0
      top e = none (base h) (omega (arith, ap (λ t. h.num * t) e))
        where
          none : (m : ℕ) → g.num * m ≤ 0 → m ≡ 0
          none zero l = refl
          none (suc m) l = absurd (omega (arith, mul-pos {m = g.num} {n = suc m} (numerator g.num g.den e) (omega arith)))

      go : (m : ℕ) → base g ≡ m → f ≼ h
      go zero e = omega (arith, ap (λ t. f.num * t) (top e))
      go (suc m) e =
          le_of_mul-le-mul_left {k = base g}
          (omega (arith, mul-le-mul_right (base h) p, mul-le-mul_right (base f) q)) (omega arith)

-- what is not at most is above, so the strict order goes along
module _ (f g h : Fraction) where
  pub ≼-≺-trans : f ≼ g → g ≺ h → f ≺ h
  ≼-≺-trans p q = go (≼-total h f)
    where
      go : (h ≼ f) ⊎ (f ≺ h) → f ≺ h
      go (inl k) = absurd (omega (arith, ≼_trans h f g k p))
      go (inr k) = k

  pub ≺-≼-trans : f ≺ g → g ≼ h → f ≺ h
  ≺-≼-trans p q = go (≼-total h f)
    where
      go : (h ≼ f) ⊎ (f ≺ h) → f ≺ h
      go (inl k) = absurd (omega (arith, ≼_trans g h f q k))
      go (inr k) = k

-- on proper fractions s / t and u / v the order is that of document 01: u / v is at least as large exactly if u × t is at least s × v
pub proper_order : (s t u v : ℕ) → 0 < t → 0 < v → ((s over t) ≼ (u over v)) ↔ (s * v ≤ u * t)
proper_order s t u v ht hv =
    (λ h. rw (proper_base s t ht, proper_base u v hv) at h, λ h. rw (proper_base s t ht, proper_base u v hv) h)

-- ---- by quotients and remainders

-- a / b against c / d, with b and d not 0
module _ (a b c d : ℕ) (hb : 0 < b) (hd : 0 < d) where
  pub by_quotient : a / b < c / d → (a over b) ≺ (c over d)
  by_quotient h =
      let k = a / b in
      let l = c / d in
      let h₁ : suc a ≤ suc k * b = omega (arith, div-add-mod' a b, mod-lt a hb) in
      let h₂ : l * d ≤ c = omega (arith, div-add-mod' c d) in
      rw (proper_base a b hb, proper_base c d hd)
      (omega (arith, mul-le-mul_right d h₁, mul-le-mul_right b h₂, mul-le-mul_right (b * d) h))

  -- the whole parts are equal: the remainders turned over decide
  pub by_remainder : a / b ≡ c / d → order (a over b) (c over d) ≡ order (d over (c % d)) (b over (a % b))
  unfolding order
  by_remainder e =
      rw (proper_base a b hb, proper_base c d hd, numerator_base d (c % d) hd, numerator_base b (a % b) hb)
      (ap₂ order_of_numbers left right ∙ ordered_shift ((a / b) * (b * d)) (d * (a % b)) (b * (c % d)))
    where
      left : a * d ≡ (a / b) * (b * d) + d * (a % b)
      left = let q = ap (λ (n : ℕ). n * d) (div-add-mod' a b) in omega arith

      right : c * b ≡ (a / b) * (b * d) + b * (c % d)
      right =
          let q = ap (λ (n : ℕ). n * b) (div-add-mod' c d) in
          let r = ap (λ (n : ℕ). n * (b * d)) e in
          omega arith
