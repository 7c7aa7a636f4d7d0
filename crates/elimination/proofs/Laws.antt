-- Laws of the exchange of two places of a list. Assumes nothing.
use Rattle.std.specs.Prelude.{ℕ, ◌<◌, eqb, get_or, set, length, cond, List, ◌≡◌, refl}
use Rattle.std.proofs.Common.{eq-eqb, ne_eqb, length-set, get_or-set_same, get_or-set_other, sym, ◌∙◌}
use Rattle.std.proofs.lemmas.List.{set-get_or}
use Rattle.std.proofs.lemmas.List.Edits.{swap_is}
use Rattle.std.specs.List.{swap}
use Rattle.std.proofs.Math.Decide.{ℕ_discrete}
use Rattle.elimination.specs.Steps.{exchange}

-- an exchange reads every place by the transposition of its two
abbrev pub transposed : ℕ → ℕ → ℕ → ℕ
transposed k p i = cond (eqb i k) p (cond (eqb i p) k i)

module _ (k p : ℕ) where
  -- by cases
  pub transposed_cases : (P : ℕ → Type 0) (i : ℕ) → (i ≡ k → P p) → (i ≡ p → P k) → ((i ≡ k → ⊥) → (i ≡ p → ⊥) → P i) → P (transposed k p i)
  transposed_cases P i a b c = go (ℕ_discrete i k) (ℕ_discrete i p)
    where
      go : Dec (i ≡ k) → Dec (i ≡ p) → P (transposed k p i)
      go (yes e) q = rw (eq-eqb i k e) (a e)
      go (no f) (yes e) = rw (ne_eqb i k f, eq-eqb i p e) (b e)
      go (no f) (no g) = rw (ne_eqb i k f, ne_eqb i p g) (c f g)

  pub transposed_first : transposed k p k ≡ p
  transposed_first = rw (eq-eqb k k refl)

  pub transposed_below : (n i : ℕ) → k < n → p < n → i < n → transposed k p i < n
  transposed_below n i h q l = transposed_cases (λ x. x < n) i (λ e. q) (λ e. h) (λ f g. l)

  pub transposed_twice : (i : ℕ) → transposed k p (transposed k p i) ≡ i
  transposed_twice i =
      transposed_cases (λ x. transposed k p x ≡ i) i
      (λ e. second ∙ sym e)
      (λ e. transposed_first ∙ sym e)
      (λ f g. rw (ne_eqb i k f, ne_eqb i p g))
    where
      second : transposed k p p ≡ k
      second = transposed_cases (λ x. x ≡ k) p (λ e. e) (λ e. refl) (λ f g. absurd (g refl))

pub exchange_at : {A : Type 0} (d : A) (l : List A) (k p i : ℕ) → k < length l → p < length l
    → get_or (exchange d l k p) i d ≡ get_or l (transposed k p i) d
exchange_at d l k p i h q =
    transposed_cases k p (λ x. get_or (exchange d l k p) i d ≡ get_or l x d) i (λ e. first e (ℕ_discrete k p)) (λ e. rw e second) other
  where
    second : get_or (exchange d l k p) p d ≡ get_or l k d
    second = get_or-set_same (set l k (get_or l p d)) p (get_or l k d) d (rw length-set q)

    first : i ≡ k → Dec (k ≡ p) → get_or (exchange d l k p) i d ≡ get_or l p d
    first e (yes f) = rw (e, f) (rw f at second)
    first e (no f) = rw e (get_or-set_other (set l k (get_or l p d)) p k (get_or l k d) d f ∙ get_or-set_same l k (get_or l p d) d h)

    other : (i ≡ k → ⊥) → (i ≡ p → ⊥) → get_or (exchange d l k p) i d ≡ get_or l i d
    other f g = get_or-set_other (set l k (get_or l p d)) p i (get_or l k d) d g ∙ get_or-set_other l k i (get_or l p d) d f

-- a place exchanged with itself
pub exchange_same : {A : Type 0} (d : A) (l : List A) (k : ℕ) → exchange d l k k ≡ l
exchange_same d l k = rw (set-get_or l k d) (set-get_or l k d)

-- what the library's `swap` leaves is an exchange
pub swapped : {A : Type 0} (d : A) (l l₁ : List A) (k p : ℕ) → l₁ ≡ swap l k p → k < length l → p < length l → l₁ ≡ exchange d l k p
swapped d l l₁ k p e h q = e ∙ sym (swap_is l k p d h q)
