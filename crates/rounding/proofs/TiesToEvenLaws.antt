-- `rnd` is IEEE 754's default rule: it meets the rule's words, and for q not 0 no other whole number does. Assumes nothing.
use Rattle.std.specs.Prelude.{ℕ, zero, suc, ◌+◌, ◌*◌, ◌-◌, ◌%◌, ◌<◌, ◌≤◌, ℤ, pos, negsuc, neg_ℤ, nat_abs, ◌-ℤ◌, ◌*ℤ◌, [], ◌∷◌, ◌≡◌, refl}
use Rattle.std.proofs.Common.{ap, le_antisymm, mul-le-mul_left, arith}
use Rattle.integers.specs.Diff.{ring, quote, vars, sub_parts, size_parts, neg_parts}
use Rattle.integers.specs.Order.{ints}
use Rattle.integers.specs.Size.{nat_abs-*ℤ, nat_abs_sub_ℤ, nat_abs_zero}
use Rattle.integers.specs.Sign.{turned}
use Rattle.rounding.proofs.Laws.{abs_rnd, near_none, rnd_near, mul_rnd, near_even}
use Rattle.rounding.specs.Round.{near, rnd}
use Rattle.rounding.specs.TiesToEven.{Even, distance, TiesToEven}

-- two whole numbers are at most as far apart as their distances from p / q together
apart : (p q y z : ℤ) → nat_abs q * nat_abs (y -ℤ z) ≤ distance p q y + distance p q z
apart p q y z =
    let w = vars (p ∷ q ∷ y ∷ z ∷ []) in
    let e : q *ℤ (y -ℤ z) ≡ q *ℤ y -ℤ p -ℤ (q *ℤ z -ℤ p) = ring (search quote) (omega arith) in
    let f : nat_abs (q *ℤ (y -ℤ z)) ≡ nat_abs (q *ℤ y -ℤ p -ℤ (q *ℤ z -ℤ p)) = ap nat_abs e in
    omega (arith, f, nat_abs-*ℤ q (y -ℤ z), nat_abs_sub_ℤ (q *ℤ y -ℤ p) (q *ℤ z -ℤ p))

equal : (y z : ℤ) → nat_abs (y -ℤ z) ≡ 0 → y ≡ z
equal y z e = omega (arith, ints, nat_abs_zero (y -ℤ z) e, sub_parts y z)

-- another whole number is at least half of the divisor away
other_distance : (p q y : ℤ) (k : ℕ) → 0 < nat_abs q → nat_abs (y -ℤ rnd p q) ≡ suc k → nat_abs q ≤ 2 * distance p q y
other_distance p q y k h e =
    let one : 1 ≤ nat_abs (y -ℤ rnd p q) = omega arith in
    omega (arith, apart p q y (rnd p q), rnd_near p q h, mul-le-mul_left (nat_abs q) one)

rnd_nearest : (p q : ℤ) → 0 < nat_abs q → (y : ℤ) → distance p q (rnd p q) ≤ distance p q y
rnd_nearest p q h y = go (nat_abs (y -ℤ rnd p q)) refl
  where
    go : (k : ℕ) → nat_abs (y -ℤ rnd p q) ≡ k → distance p q (rnd p q) ≤ distance p q y
    go zero e = rw (equal y (rnd p q) e) (omega arith)
    go (suc k) e = omega (arith, other_distance p q y k h e, rnd_near p q h)

-- the distance of a number with the sign of p is that of the sizes
turned_distance : (p : ℤ) (x : ℕ) → 0 < nat_abs (turned p (pos x) -ℤ p) → nat_abs (turned p (pos x) -ℤ p) ≡ x - nat_abs p + (nat_abs p - x)
turned_distance (pos zero) x h = absurd (omega arith)
turned_distance (pos (suc a)) x h = omega (arith, sub_parts (pos x) (pos (suc a)), size_parts (pos x -ℤ pos (suc a)))
turned_distance (negsuc a) x h =
    omega (arith, sub_parts (neg_ℤ (pos x)) (negsuc a), neg_parts (pos x), size_parts (neg_ℤ (pos x) -ℤ negsuc a))

-- what is half of the divisor away is even
half_distance : (p q : ℤ) → 0 < nat_abs q → 2 * distance p q (rnd p q) ≡ nat_abs q → Even (rnd p q)
half_distance p q h e =
    let x = nat_abs q * near (nat_abs p) (nat_abs q) in
    let d : distance p q (rnd p q) ≡ nat_abs (turned p (pos x) -ℤ p) = ap (λ (t : ℤ). nat_abs (t -ℤ p)) (mul_rnd p q) in
    let f = turned_distance p x (omega arith) in
    rw (abs_rnd p q) (near_even (nat_abs p) (nat_abs q) h (omega (arith, d, f)))

-- the difference of even numbers is not 1
even_apart : (y z : ℤ) → Even y → Even z → nat_abs (y -ℤ z) % 2 ≡ 0
even_apart y z h k = omega (arith, sub_parts y z, size_parts (y -ℤ z), size_parts y, size_parts z)

quotient_ties_to_even : (p q : ℤ) → 0 < nat_abs q → TiesToEven p q (rnd p q)
quotient_ties_to_even p q h = record { nearest = rnd_nearest p q h; even_of_two = λ y o e. go y o e (nat_abs (y -ℤ rnd p q)) refl }
  where
    go : (y : ℤ) → (y ≡ rnd p q → ⊥) → distance p q y ≡ distance p q (rnd p q) → (k : ℕ) → nat_abs (y -ℤ rnd p q) ≡ k → Even (rnd p q)
    go y o e zero f = absurd (o (equal y (rnd p q) f))
    go y o e (suc k) f = half_distance p q h (omega (arith, other_distance p q y k h f, rnd_near p q h, e))

-- by 0 every whole number is as near, and the result is 0
by_zero : (p z : ℤ) → distance p (pos 0) z ≡ nat_abs p
by_zero p z =
    omega (
      arith,
      nat_abs-*ℤ (pos 0) z,
      sub_parts (pos 0 *ℤ z) p,
      size_parts (pos 0 *ℤ z -ℤ p),
      size_parts (pos 0 *ℤ z),
      size_parts p,
    )

-- IEEE 754's default: `rnd` is the nearest whole number, and of two equally near ones the even one
pub rnd_ties_to_even : (p q : ℤ) → TiesToEven p q (rnd p q)
rnd_ties_to_even p (pos zero) =
    record {
      nearest = λ y. omega (arith, by_zero p y, by_zero p (rnd p (pos 0)));
      even_of_two = λ y o e. omega (arith, abs_rnd p (pos 0), near_none (nat_abs p));
    }
rnd_ties_to_even p (pos (suc b)) = quotient_ties_to_even p (pos (suc b)) (omega arith)
rnd_ties_to_even p (negsuc b) = quotient_ties_to_even p (negsuc b) (omega arith)

-- and no other whole number meets the rule's words, where there is a quotient
pub ties_to_even_unique : (p q z : ℤ) → 0 < nat_abs q → TiesToEven p q z → z ≡ rnd p q
ties_to_even_unique p q z h t = go (nat_abs (z -ℤ rnd p q)) refl
  where
    go : (k : ℕ) → nat_abs (z -ℤ rnd p q) ≡ k → z ≡ rnd p q
    go zero e = equal z (rnd p q) e
    go (suc k) e =
        let d : distance p q (rnd p q) ≡ distance p q z = le_antisymm (rnd_nearest p q h z) (t.nearest (rnd p q)) in
        let y = half_distance p q h (omega (arith, other_distance p q z k h e, rnd_near p q h, d)) in
        let o : rnd p q ≡ z → ⊥ = λ f. omega (arith, ints, f, e, sub_parts z (rnd p q), size_parts (z -ℤ rnd p q)) in
        let v = t.even_of_two (rnd p q) o d in
        let two : 2 ≤ nat_abs (z -ℤ rnd p q) = omega (arith, even_apart z (rnd p q) v y) in
        absurd (omega (arith, apart p q z (rnd p q), rnd_near p q h, d, mul-le-mul_left (nat_abs q) two))
