-- Laws of the judgement's parts: the first place at which a test fails, and the whole from its parts. Assumes nothing.
use Prim.Native.Nat.{ℕ, zero, suc, ◌+◌, ◌<◌, ◌≤◌}
use Rattle.std.specs.Prelude.{eqb, ℤ, pos, get_or, Bool, true, false, cond, List, ◌≡◌}
use Rattle.std.proofs.Math.Path.{refl, ap₂}
use Rattle.std.proofs.Common.{ap, ◌∙◌, add-one}
use Rattle.std.proofs.Math.Decide.{ℕ_discrete}
use native.Mathlib.Omega.{arith}
use Rattle.limits.specs.Limits.{most_tanks}
use Rattle.integers.specs.TableLaws.{get_d_filled}
use Rattle.fractions.proofs.FirstLaws.{first_cong, first_below}
use Rattle.fractions.specs.Greatest.{greater}
use Rattle.judge.specs.Judgement.{measurement_from, judgement_from, row_met, factor, no_factor, or_else, first_not, first_unmet_row, deciding, residual_vector, reach_vector, judgement, measurement, deciding_place, concluded}
use Rattle.judge.specs.System.{System, Trial, row, residual, reach}

module _ (p : ℕ → Bool) where
  -- ---- a loop's turn

  pub first_not_more : (k : ℕ) → first_not p k ≡ 0 → p k ≡ true → first_not p (k + 1) ≡ 0
  unfolding first_not
  first_not_more k e h = rw (add-one k, e, h)

  pub first_not_here : (k : ℕ) → first_not p k ≡ 0 → p k ≡ false → first_not p (k + 1) ≡ k + 1
  unfolding first_not
  first_not_here k e h = rw (add-one k, e, h)

  -- what was found stays
  pub first_not_stays : (k n m : ℕ) → k ≤ n → first_not p k ≡ suc m → first_not p n ≡ suc m
  unfolding first_not
  first_not_stays k zero m l e = let z : k ≡ 0 = omega arith in rw z at e
  first_not_stays k (suc n) m l e = go (ℕ_discrete k (suc n)) (λ h. first_not_stays k n m h e)
    where
      go : Dec (k ≡ suc n) → (k ≤ n → first_not p n ≡ suc m) → first_not p (suc n) ≡ suc m
      go (yes q) r = rw q at e
      go (no q) r = rw (r (omega arith))

  -- ---- what it is

  -- none fails; or the place found fails and none before it does
  pub record Holds (n : ℕ) : Type 0 where
    pub all : (i : ℕ) → i < n → p i ≡ true

  pub record Fails (n m : ℕ) : Type 0 where
    pub place : m < n
    pub here : p m ≡ false
    pub before : (i : ℕ) → i < m → p i ≡ true

  abbrev Found : ℕ → ℕ → Type 0
  Found n zero = Holds n
  Found n (suc m) = Fails n m

  found_more : (n f : ℕ) → Found n f → (b : Bool) → p n ≡ b → Found (suc n) (or_else f (cond b 0 (suc n)))
  found_more n zero h true e = record { all = λ i l. at i l (ℕ_discrete i n) }
    where
      at : (i : ℕ) → i < suc n → Dec (i ≡ n) → p i ≡ true
      at i l (yes q) = rw q e
      at i l (no q) = h.all i (omega arith)
  found_more n zero h false e = record { place = omega arith; here = e; before = h.all }
  found_more n (suc m) h b e = record { place = omega (arith, h.place); here = h.here; before = h.before }

  found : (n : ℕ) → Found n (first_not p n)
  unfolding first_not
  found zero = record { all = λ i l. absurd (omega arith) }
  found (suc n) = found_more n (first_not p n) (found n) (p n) refl

  pub first_not_zero : (n : ℕ) → first_not p n ≡ 0 → Holds n
  first_not_zero n e = rw e at (found n)

  pub first_not_suc : (n m : ℕ) → first_not p n ≡ suc m → Fails n m
  first_not_suc n m e = rw e at (found n)

pub first_not_cong : (p q : ℕ → Bool) (n : ℕ) → ((i : ℕ) → i < n → p i ≡ q i) → first_not p n ≡ first_not q n
unfolding first_not
first_not_cong p q zero h = refl
first_not_cong p q (suc n) h =
    ap₂ or_else (first_not_cong p q n (λ i l. h i (omega arith))) (ap (λ b. cond b 0 (suc n)) (h n (omega arith)))

-- ---- where the rows stand that are named

pub unmet_le : (s : System) (t : Trial) → first_unmet_row s t ≤ s.n
unfolding first_unmet_row
unmet_le s t = go (first_unmet_row s t) refl
  where
    go : (m : ℕ) → first_unmet_row s t ≡ m → m ≤ s.n
    go zero e = omega arith
    go (suc m) e = (first_not_suc _ s.n m e).place

pub deciding_below : (s : System) (t : Trial) → 0 < s.n → deciding s t < s.n
unfolding deciding
deciding_below s t h = first_below greater _ s.n s.n (omega arith) h

-- ---- the whole, from its parts

module _ (s : System) (t : Trial) (h : s.n ≤ most_tanks) where
  pub at_residuals : (i : ℕ) → i < s.n → get_or (residual_vector s t) i (pos 0) ≡ residual (row s i) t
  at_residuals i l = get_d_filled (pos 0) (λ i. residual (row s i) t) most_tanks s.n i l (omega arith)

  pub at_reaches : (i : ℕ) → i < s.n → get_or (reach_vector s t) i 0 ≡ reach (row s i) t
  at_reaches i l = get_d_filled 0 (λ i. reach (row s i) t) most_tanks s.n i l (omega arith)

  unmet_is : first_not (λ i. row_met (get_or (residual_vector s t) i (pos 0)) (get_or (reach_vector s t) i 0)) s.n ≡ first_unmet_row s t
  unfolding first_unmet_row
  unmet_is = first_not_cong _ _ s.n (λ i l. ap₂ row_met (at_residuals i l) (at_reaches i l))

  -- the measurement, from residuals and reaches in eight places
  pub measurement_by_parts : (u : ℕ) (R : List ℤ) (T : List ℕ) → R ≡ residual_vector s t → T ≡ reach_vector s t
      → u ≡ first_not (λ i. row_met (get_or R i (pos 0)) (get_or T i 0)) s.n
      → measurement_from u R T ≡ measurement s t
  measurement_by_parts u R T eR eT eu = let u' : u ≡ first_unmet_row s t = (rw (eR, eT) at eu) ∙ unmet_is in rw (eR, eT, u')

  -- the row that decides in the judgement is the one that the rows themselves say
  pub deciding_is : deciding_place s.n (measurement s t) ≡ deciding s t
  unfolding deciding_place deciding
  deciding_is = first_cong greater _ _ s.n (λ i l. ap₂ factor (at_residuals i l) (at_reaches i l))

-- the judgement is concluded from the measurement
pub judgement_concluded : (s : System) (t : Trial) → concluded s.n (measurement s t) ≡ judgement s t
unfolding judgement
judgement_concluded s t = refl

-- what is concluded, from the place that decides
pub conclusion : (n u : ℕ) (R : List ℤ) (T : List ℕ) (at : ℕ) (none : Bool) → at ≡ deciding_place n (measurement_from u R T)
    → none ≡ no_factor (get_or R at (pos 0)) (get_or T at 0)
    → judgement_from (record { met = eqb u 0; unmet = u; none = none; decides = at + 1 }) R T ≡ concluded n (measurement_from u R T)
unfolding concluded
conclusion n u R T at none ea en = rw (en, ea, add-one (deciding_place n (measurement_from u R T)))

-- it holds the residuals of the rows
pub judgement_residuals : (s : System) (t : Trial) → (judgement s t).residuals ≡ residual_vector s t
unfolding judgement
judgement_residuals s t = refl
