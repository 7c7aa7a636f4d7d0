-- Laws of the first of the best, whatever is better: one fraction more, that it is the first of the best, and that it looks at no other fraction.
-- Assumes nothing.
use Prim.Native.Nat.{ℕ, zero, suc, ◌+◌, ◌<◌, ◌≤◌}
use Rattle.std.specs.Prelude.{Bool, ◌≡◌}
use Rattle.std.proofs.Math.Bool.{true, false, cond}
use Rattle.std.proofs.Math.Path.{refl}
use Rattle.std.proofs.Common.{ap, ◌∙◌, add-one}
use Rattle.std.proofs.Math.Decide.{ℕ_discrete}
use native.Mathlib.Omega.{arith}
use Rattle.fractions.specs.First.{first_best, First}
use Rattle.fractions.specs.Fraction.{Fraction}

module _ (better : Fraction → Fraction → Bool) where
  -- ---- a loop's turn

  module _ (g : ℕ → Fraction) where
    pub first_none : first_best better g 0 ≡ 0
    unfolding first_best
    first_none = refl

    pub first_suc : (k : ℕ) → first_best better g (suc k) ≡ cond (better (g k) (g (first_best better g k))) k (first_best better g k)
    unfolding first_best
    first_suc k = refl

    pub first_next : (k : ℕ) → first_best better g (k + 1) ≡ cond (better (g k) (g (first_best better g k))) k (first_best better g k)
    first_next k = ap (first_best better g) (add-one k) ∙ first_suc k

    -- a place of the list, or 0 where there is none
    pub first_below : (k m : ℕ) → k ≤ m → 0 < m → first_best better g k < m
    unfolding first_best
    first_below zero m h l = l
    first_below (suc k) m h l = go (better (g k) (g (first_best better g k))) (first_below k m (omega arith) l)
      where
        go : (t : Bool) → first_best better g k < m → cond t k (first_best better g k) < m
        go true p = omega arith
        go false p = p

    pub first_one : first_best better g 1 ≡ 0
    first_one = omega (arith, first_below 1 1 (omega arith) (omega arith))

  -- it looks at the first k fractions only
  pub first_cong : (g h : ℕ → Fraction) (k : ℕ) → ((i : ℕ) → i < k → g i ≡ h i) → first_best better g k ≡ first_best better h k
  unfolding first_best
  first_cong g h zero e = refl
  first_cong g h (suc k) e =
      let r = first_cong g h k (λ i l. e i (omega arith)) in
      let b : first_best better h k < suc k = first_below h k (suc k) (omega arith) (omega arith) in
      rw (r, e k (omega arith), e (first_best better h k) b)

-- ---- what it is

-- the test, and what it decides: an order in which every two fractions can be held against each other
pub record Ranks (better : Fraction → Fraction → Bool) (NoBetter Worse : Fraction → Fraction → Type 0) : Type 0 where
  pub is_better : (f h : Fraction) → better f h ≡ true → Worse h f
  pub no_better : (f h : Fraction) → better f h ≡ false → NoBetter f h
  pub same : (f : Fraction) → NoBetter f f
  pub along : (f h l : Fraction) → NoBetter f h → Worse h l → Worse f l
  pub weaker : (f h : Fraction) → Worse f h → NoBetter f h

module _ {better : Fraction → Fraction → Bool} {NoBetter Worse : Fraction → Fraction → Type 0} (r : Ranks better NoBetter Worse) (g : ℕ → Fraction) where
  -- one fraction more: it takes the place over, or it does not
  module _ (k b : ℕ) (h : First NoBetter Worse g k b) where
    taken : Worse (g b) (g k) → First NoBetter Worse g (suc k) k
    taken l =
        record {
          place = omega arith;
          none_better = λ i m. at i m (ℕ_discrete i k);
          earlier = λ i m. r.along (g i) (g b) (g k) (h.none_better i m) l;
        }
      where
        at : (i : ℕ) → i < suc k → Dec (i ≡ k) → NoBetter (g i) (g k)
        at i m (yes p) = rw p (r.same (g k))
        at i m (no p) = r.weaker (g i) (g k) (r.along (g i) (g b) (g k) (h.none_better i (omega arith)) l)

    stays : NoBetter (g k) (g b) → First NoBetter Worse g (suc k) b
    stays l =
        record {
          place = omega (arith, h.place);
          none_better = λ i m. at i m (ℕ_discrete i k);
          earlier = h.earlier;
        }
      where
        at : (i : ℕ) → i < suc k → Dec (i ≡ k) → NoBetter (g i) (g b)
        at i m (yes p) = rw p l
        at i m (no p) = h.none_better i (omega arith)

    more : (t : Bool) → better (g k) (g b) ≡ t → First NoBetter Worse g (suc k) (cond t k b)
    more true e = taken (r.is_better (g k) (g b) e)
    more false e = stays (r.no_better (g k) (g b) e)

  pub first_is : (k : ℕ) → 0 < k → First NoBetter Worse g k (first_best better g k)
  unfolding first_best
  first_is zero h = absurd (omega arith)
  first_is (suc zero) h =
      rw (first_one better g)
      (record { place = omega arith; none_better = λ i l. alone i (omega arith); earlier = λ i l. absurd (omega arith) })
    where
      alone : (i : ℕ) → i ≡ 0 → NoBetter (g i) (g 0)
      alone i e = rw e (r.same (g 0))
  first_is (suc (suc k)) h =
      more (suc k) (first_best better g (suc k)) (first_is (suc k) (omega arith)) (better (g (suc k)) (g (first_best better g (suc k)))) refl
