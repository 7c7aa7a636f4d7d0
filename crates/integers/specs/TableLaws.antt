-- Laws of lists that are given by a rule for each place or filled from a place on, and of how large their entries are. Assumes nothing.
use Prim.Native.Nat.{ℕ, zero, suc, ◌+◌, ◌*◌, ◌-◌, ◌<◌, ◌≤◌, suc-le-suc}
use Rattle.std.proofs.Common.{lt-ltb, le-ltb, get_or-set_same, get_or-set_other, ap, ◌∙◌, le_of_suc-le-suc, suc-mul, mul-le-mul}
use Rattle.std.specs.Prelude.{ℤ, pos, nat_abs, get_or, set, replicate, List, [], ◌∷◌, ◌≡◌, refl}
use Rattle.std.proofs.Math.ListN.{length, length-set, get_or-eq_default}
use Rattle.std.proofs.Math.Seq.{ext_get_or}
use Rattle.std.proofs.Math.Path.{sym}
use Rattle.std.proofs.Math.Decide.{ℕ_discrete, dec_lt}
use Rattle.std.proofs.Math.Nat.{add-zero}
use native.Mathlib.Omega.{arith}
use Rattle.integers.specs.Tables.{AllWithin, Within, fill, filled, table, until}

pub length_table : {X : Type 0} (m : ℕ) (f : ℕ → X) → length (table m f) ≡ m
length_table zero f = refl
length_table (suc m) f = ap suc (length_table m (λ i. f (suc i)))

pub get_d_table : {X : Type 0} (m : ℕ) (f : ℕ → X) (i : ℕ) (d : X) → i < m → get_or (table m f) i d ≡ f i
get_d_table zero f i d h = absurd (omega arith)
get_d_table (suc m) f zero d h = refl
get_d_table (suc m) f (suc i) d h = get_d_table m (λ i. f (suc i)) i d (le_of_suc-le-suc h)

-- ---- filling from the front

module _ {X : Type 0} (z : X) (f : ℕ → X) where
  at_until : (n i : ℕ) → i < n → until n z f i ≡ f i
  at_until n i h = rw (lt-ltb i n h)

  past_until : (n i : ℕ) → n ≤ i → until n z f i ≡ z
  past_until n i h = rw (le-ltb i n h)

  -- one place more
  pub filled_more : (m n : ℕ) → n < m → set (filled m n z f) n (f n) ≡ filled m (n + 1) z f
  unfolding filled
  filled_more m n h =
      ext_get_or z (set (filled m n z f) n (f n)) (filled m (n + 1) z f)
      (length-set (filled m n z f) n (f n) ∙ length_table m (until n z f) ∙ sym (length_table m (until (n + 1) z f))) at
    where
      l : length (filled m n z f) ≡ m
      l = length_table m (until n z f)

      at : (i : ℕ) → i < length (set (filled m n z f) n (f n)) → get_or (set (filled m n z f) n (f n)) i z ≡ get_or (filled m (n + 1) z f) i z
      at i k =
          let b : i < m = omega (arith, l, length-set (filled m n z f) n (f n)) in
          go b (ℕ_discrete i n) ∙ sym (get_d_table m (until (n + 1) z f) i z b)
        where
          other : i < m → (i ≡ n → ⊥) → Dec (i < n) → until n z f i ≡ until (n + 1) z f i
          other b p (yes q) = at_until n i q ∙ sym (at_until (n + 1) i (omega arith))
          other b p (no q) = past_until n i (omega arith) ∙ sym (past_until (n + 1) i (omega arith))

          go : i < m → Dec (i ≡ n) → get_or (set (filled m n z f) n (f n)) i z ≡ until (n + 1) z f i
          go b (yes e) =
              rw e (get_or-set_same (filled m n z f) n (f n) z (omega (arith, l)) ∙ sym (at_until (n + 1) n (omega arith)))
          go b (no p) =
              get_or-set_other (filled m n z f) n i (f n) z p ∙ get_d_table m (until n z f) i z b ∙ other b p (dec_lt i n)

  pub get_d_filled : (m n i : ℕ) → i < n → i < m → get_or (filled m n z f) i z ≡ f i
  unfolding filled
  get_d_filled m n i h k = get_d_table m (until n z f) i z k ∙ at_until n i h

-- ---- what holds at every place, past the end too, where the default stands

module _ {X : Type 0} (P : X → Type 0) (d : X) (h : P d) where
  pub all_table : (m : ℕ) (f : ℕ → X) → ((i : ℕ) → P (f i)) → (j : ℕ) → P (get_or (table m f) j d)
  all_table zero f k j = h
  all_table (suc m) f k zero = k 0
  all_table (suc m) f k (suc j) = all_table m (λ i. f (suc i)) (λ i. k (suc i)) j

  pub all_same : (m : ℕ) (x : X) → P x → (j : ℕ) → P (get_or (replicate m x) j d)
  all_same zero x p j = h
  all_same (suc m) x p zero = p
  all_same (suc m) x p (suc j) = all_same m x p j

  pub all_filled : (m n : ℕ) (f : ℕ → X) → ((i : ℕ) → i < n → P (f i)) → (j : ℕ) → P (get_or (filled m n d f) j d)
  unfolding filled
  all_filled m n f k = all_table m (until n d f) (λ i. go i (dec_lt i n))
    where
      go : (i : ℕ) → Dec (i < n) → P (until n d f i)
      go i (yes l) = rw (lt-ltb i n l) (k i l)
      go i (no l) = let g : n ≤ i = omega arith in rw (le-ltb i n g) h

-- a list of one thing alone holds it at every place, and so does a list of such lists
pub same_at : {X : Type 0} (z : X) (m j : ℕ) → get_or (replicate m z) j z ≡ z
same_at z m = all_same (λ x. x ≡ z) z refl m z refl

pub all_same_at : {X : Type 0} (z : X) (m n i j : ℕ) → get_or (get_or (replicate m (replicate n z)) i []) j z ≡ z
all_same_at z m n i j = all_same (λ l. get_or l j z ≡ z) [] refl m (replicate n z) (same_at z n j) i

-- what holds of each entry by its index, past the end too, holds after a store
pub all_set_at : {X : Type 0} (P : ℕ → X → Type 0) (d : X) (l : List X) (i : ℕ) (x : X) → P i x → ((j : ℕ) → P j (get_or l j d)) → (j : ℕ) → P j (get_or (set l i x) j d)
all_set_at P d [] i x p h j = h j
all_set_at P d (y ∷ l) zero x p h zero = p
all_set_at P d (y ∷ l) zero x p h (suc j) = h (suc j)
all_set_at P d (y ∷ l) (suc i) x p h zero = h zero
all_set_at P d (y ∷ l) (suc i) x p h (suc j) = all_set_at (λ m. P (suc m)) d l i x p (λ m. h (suc m)) j

module _ {X : Type 0} (P : X → Type 0) (d : X) where
  -- what stands where something was stored: that, or past the end the default
  pub set_here : (l : List X) (i : ℕ) (x : X) → P x → (length l ≤ i → P d) → P (get_or (set l i x) i d)
  set_here [] i x p h = h (omega arith)
  set_here (y ∷ l) zero x p h = p
  set_here (y ∷ l) (suc i) x p h = set_here l i x p (λ k. h (suc-le-suc k))

  -- what stands at j after a fill: what was filled in, past the end the default, elsewhere what was there
  pub fill_at : (j : ℕ) (f : ℕ → X) (s m : ℕ) (l : List X)
      → (s ≤ j → j < s + m → P (f j)) → (s ≤ j → j < s + m → length l ≤ j → P d) → ((s ≤ j → j < s + m → ⊥) → P (get_or l j d))
      → P (get_or (fill f s m l) j d)
  unfolding fill
  fill_at j f s zero l a b c = c (λ p q. omega arith)
  fill_at j f s (suc m) l a b c =
      fill_at j f (s + 1) m (set l s (f s))
      (λ p q. a (omega arith) (omega arith))
      (λ p q h. b (omega arith) (omega arith) (rw length-set at h))
      (λ o. go o (ℕ_discrete j s))
    where
      go : (s + 1 ≤ j → j < (s + 1) + m → ⊥) → Dec (j ≡ s) → P (get_or (set l s (f s)) j d)
      go o (yes e) = rw e (set_here l s (f s) (rw e at (a (omega arith) (omega arith))) (λ h. b (omega arith) (omega arith) (omega arith)))
      go o (no g) = rw (get_or-set_other l s j (f s) d g) (c (λ p q. o (omega arith) (omega arith)))

  -- what holds of what is filled in and of what was there holds at every place
  pub all_fill : (f : ℕ → X) (s m : ℕ) (l : List X) → ((i : ℕ) → s ≤ i → i < s + m → P (f i)) → ((j : ℕ) → P (get_or l j d))
      → (j : ℕ) → P (get_or (fill f s m l) j d)
  all_fill f s m l g h j = fill_at j f s m l (g j) (λ p q o. rw (get_or-eq_default l d o) at (h j)) (λ o. h j)

-- a loop that fills in place, one place a turn: places s to below j are filled
module _ {X : Type 0} (f : ℕ → X) where
  -- the last place by itself
  fill_suc : (s m : ℕ) (l : List X) → fill f s (suc m) l ≡ set (fill f s m l) (s + m) (f (s + m))
  unfolding fill
  fill_suc s zero l = rw add-zero
  fill_suc s (suc m) l = let e : (s + 1) + m ≡ s + suc m = omega arith in rw e at (fill_suc (s + 1) m (set l s (f s)))

  -- nothing is filled yet
  pub fill_none : (s j : ℕ) (l : List X) → j ≤ s → fill f s (j - s) l ≡ l
  unfolding fill
  fill_none s j l h = let e : j - s ≡ 0 = omega arith in rw e

  module _ (s j : ℕ) (l : List X) (h : s ≤ j) where
    -- place j too
    pub fill_next : set (fill f s (j - s) l) j (f j) ≡ fill f s ((j + 1) - s) l
    fill_next =
        let e : (j + 1) - s ≡ suc (j - s) = omega arith in
        let g : s + (j - s) ≡ j = omega arith in
        rw (e, fill_suc, g)

    -- place j is as it was
    pub fill_left : (d : X) → get_or (fill f s (j - s) l) j d ≡ get_or l j d
    fill_left d =
        fill_at (λ (x : X). x ≡ get_or l j d) d j f s (j - s) l
        (λ p q. absurd (omega arith))
        (λ p q o. absurd (omega arith))
        (λ o. refl)

-- row i's part of n rows that stand row after row ends within m times m places
pub row_inside : (m n i : ℕ) → n ≤ m → i < n → i * n + n ≤ m * m
row_inside m n i h k = omega (arith, suc-mul i n, mul-le-mul {n₁ = suc i} {n₂ = m} {m₂ = m} (omega arith) h)

-- zeros are within every bound
pub zeros_within : {b : ℕ} (m : ℕ) → Within b (replicate m (pos 0))
zeros_within m j = rw (same_at (pos 0) m j) (omega arith)

pub all_zeros_within : {b : ℕ} (m n : ℕ) → AllWithin b (replicate m (replicate n (pos 0)))
all_zeros_within m n i j = rw (all_same_at (pos 0) m n i j) (omega arith)

-- after a store too
pub within_set : {b : ℕ} (l : List ℤ) (i : ℕ) (z : ℤ) → nat_abs z ≤ b → Within b l → Within b (set l i z)
within_set {b} = all_set_at (λ (_ : ℕ) (z : ℤ). nat_abs z ≤ b) (pos 0)
