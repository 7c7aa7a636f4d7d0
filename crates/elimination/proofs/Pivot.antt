-- What `pivot_row` finds: the largest candidate, the uppermost of equals; and how a search goes, candidate by candidate. Assumes nothing.
use Prim.Native.Nat.{ℕ, zero, suc, ◌+◌, ◌-◌, ◌<◌, ◌≤◌, suc-le-suc}
use Rattle.std.proofs.Common.{below_more, ltb-true, ltb-false, lt-ltb, le-ltb, sym, ap, add-zero, le_refl}
use Rattle.std.specs.Prelude.{ltb, ℤ, nat_abs, length, Bool, true, false, cond, List, [], ◌∷◌, ◌≡◌, refl}
use Rattle.std.proofs.Math.Path.{subst}
use native.Mathlib.Omega.{arith}
use Rattle.elimination.specs.Matrix.{at}
use Rattle.elimination.specs.Steps.{pivot_from, pivot_row}

-- the size of the candidate in row i
abbrev size : List (List ℤ) → ℕ → ℕ → ℕ
size w k i = nat_abs (at w i k)

-- ---- a loop that looks through the candidates, one a turn

pivot_more : (w : List (List ℤ)) (k b i n : ℕ) → i < n
    → pivot_from w k (cond (ltb (size w k b) (size w k i)) i b) (i + 1) (n - (i + 1)) ≡ pivot_from w k b i (n - i)
unfolding pivot_from
pivot_more w k b i n h =
    let e : n - i ≡ suc (n - (i + 1)) = omega arith in
    ap (λ (m : ℕ). pivot_from w k b i m) (sym e)

pub pivot_up : (w : List (List ℤ)) (k b i n : ℕ) → i < n → nat_abs (at w b k) < nat_abs (at w i k)
    → pivot_from w k i (i + 1) (n - (i + 1)) ≡ pivot_from w k b i (n - i)
pivot_up w k b i n h l = rw (lt-ltb (size w k b) (size w k i) l) at (pivot_more w k b i n h)

pub pivot_stay : (w : List (List ℤ)) (k b i n : ℕ) → i < n → nat_abs (at w i k) ≤ nat_abs (at w b k)
    → pivot_from w k b (i + 1) (n - (i + 1)) ≡ pivot_from w k b i (n - i)
pivot_stay w k b i n h l = rw (le-ltb (size w k b) (size w k i) l) at (pivot_more w k b i n h)

pub pivot_done : (w : List (List ℤ)) (k b i n : ℕ) → n ≤ i → pivot_from w k b i (n - i) ≡ b
unfolding pivot_from
pivot_done w k b i n h =
    let e : n - i ≡ 0 = omega arith in
    ap (λ (m : ℕ). pivot_from w k b i m) e

-- ---- what is found

-- b is the best of the rows from lo to below i: no other is larger, and those above it are smaller
pub record Best (w : List (List ℤ)) (k lo b i : ℕ) : Type 0 where
  pub low : lo ≤ b
  pub high : b < i
  pub largest : (j : ℕ) → lo ≤ j → j < i → nat_abs (at w j k) ≤ nat_abs (at w b k)
  pub first : (j : ℕ) → lo ≤ j → j < b → nat_abs (at w j k) < nat_abs (at w b k)

module _ (w : List (List ℤ)) (k lo : ℕ) where
  -- one candidate more
  more : (b i : ℕ) → Best w k lo b i → Best w k lo (cond (ltb (size w k b) (size w k i)) i b) (i + 1)
  more b i h = go (ltb (size w k b) (size w k i)) refl
    where
      go : (t : Bool) → ltb (size w k b) (size w k i) ≡ t → Best w k lo (cond t i b) (i + 1)
      go true e =
          let l = ltb-true (size w k b) (size w k i) e in
          record {
            low = omega (arith, h.low, h.high);
            high = omega arith;
            largest = λ j p q.
                below_more (λ (x : ℕ). lo ≤ x → size w k x ≤ size w k i) i (λ x a c. omega (arith, h.largest x c a)) (λ c. omega arith) j q p;
            first = λ j p q. omega (arith, h.largest j p q);
          }
      go false e =
          let l = ltb-false (size w k b) (size w k i) e in
          record {
            low = h.low;
            high = omega (arith, h.high);
            largest = λ j p q. below_more (λ (x : ℕ). lo ≤ x → size w k x ≤ size w k b) i (λ x a c. h.largest x c a) (λ c. l) j q p;
            first = h.first;
          }

  from_best : (b i m : ℕ) → Best w k lo b i → Best w k lo (pivot_from w k b i m) (i + m)
  unfolding pivot_from
  from_best b i zero h = rw (add-zero i) h
  from_best b i (suc m) h =
      let e : (i + 1) + m ≡ i + suc m = omega arith in
      subst (λ (x : ℕ). Best w k lo (pivot_from w k b i (suc m)) x) e
      (from_best (cond (ltb (size w k b) (size w k i)) i b) (i + 1) m (more b i h))

-- the row found is the best of k to below n
pub pivot_best : (w : List (List ℤ)) (k n : ℕ) → k < n → Best w k k (pivot_row w k n) n
unfolding pivot_row
pivot_best w k n h =
    let e : (k + 1) + (n - (k + 1)) ≡ n = omega arith in
    subst (λ (x : ℕ). Best w k k (pivot_from w k k (k + 1) (n - (k + 1))) x) e
    (from_best w k k k (k + 1) (n - (k + 1))
    (record { low = omega arith; high = omega arith; largest = λ j p q. alone j p q; first = λ j p q. absurd (omega arith) }))
  where
    alone : (j : ℕ) → k ≤ j → j < k + 1 → size w k j ≤ size w k k
    alone j p q = let e : j ≡ k = omega arith in rw e (le_refl (size w k k))

-- a row with an entry that is not 0 is there
pub nonzero_in : (w : List (List ℤ)) (p k : ℕ) → 0 < nat_abs (at w p k) → p < length w
nonzero_in [] p k h = absurd (omega arith)
nonzero_in (x ∷ w) zero k h = omega arith
nonzero_in (x ∷ w) (suc p) k h = suc-le-suc (nonzero_in w p k h)
