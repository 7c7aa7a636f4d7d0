-- Laws of the row that decides and of its factor. Assumes nothing.
use Prim.Native.Nat.{ℕ, zero, suc, ◌-◌, ◌*◌, ◌≤◌, ◌<◌}
use Rattle.std.proofs.Common.{ne_eqb, sym, ap, ap₂, subst, ◌∙◌, mul-pos}
use Rattle.std.specs.Prelude.{eqb, ℤ, nat_abs, Bool, true, false, not, ◌&&◌, ◌≡◌, refl}
use native.Mathlib.Omega.{arith}
use Rattle.limits.specs.Limits.{most_tanks}
use Rattle.fractions.proofs.FirstLaws.{first_below}
use Rattle.fractions.specs.Fraction.{◌over◌, ordered_denominator, ◌≼◌, ◌≺◌, order}
use Rattle.fractions.specs.Greatest.{greater}
use Rattle.fractions.proofs.Laws.{numerator_base, over_zero_above, over_zero_alike}
use Rattle.std.specs.declared.cmp.Ordering.TheVariants.{Equal}
use Rattle.judge.specs.Judgement.{factor, no_factor, measurement, deciding_place, judgement, deciding_residual, deciding_reach, deciding_factor}
use Rattle.judge.specs.System.{System, Trial}

-- a fraction with a factor is proper; one without has a numerator over 0
pub proper : (a b : ℕ) → eqb b 0 && not (eqb a 0) ≡ false → 0 < ordered_denominator a b
proper zero zero e = omega arith
proper zero (suc b) e = omega arith
proper (suc a) zero e =
    let d = rw (ne_eqb (suc a) 0 (λ p. omega arith)) at e in
    let z : ◌≡◌ {A = ℕ} 0 1 = cc in absurd (omega arith)
proper (suc a) (suc b) e = omega arith

pub improper : (a b : ℕ) → eqb b 0 && not (eqb a 0) ≡ true → (0 < a) × (b ≡ 0)
improper zero zero e = let z : ◌≡◌ {A = ℕ} 0 1 = cc in absurd (omega arith)
improper a (suc b) e =
    let d = rw (ne_eqb (suc b) 0 (λ p. omega arith)) at e in
    let z : ◌≡◌ {A = ℕ} 0 1 = cc in absurd (omega arith)
improper (suc a) zero e = (omega arith, refl)

-- what is at most a fraction with a factor has one
at_most_has_factor : (R R' : ℤ) (T T' : ℕ) → factor R T ≼ factor R' T' → no_factor R' T' ≡ false → no_factor R T ≡ false
at_most_has_factor R R' T T' l e = go (no_factor R T) refl
  where
    go : (b : Bool) → no_factor R T ≡ b → b ≡ false
    go false q = refl
    go true q =
        let i = improper (nat_abs R) T q in
        let p = mul-pos {m = nat_abs R} {n = ordered_denominator (nat_abs R') T'} i.0 (proper (nat_abs R') T' e) in
        let z : ordered_denominator (nat_abs R) T ≡ 0 = numerator_base (nat_abs R) T i.0 ∙ i.1 in
        absurd (omega (arith, p, l, ap (λ (x : ℕ). nat_abs R' * x) z))

-- ---- of a judgement

module _ (s : System) where
  -- the row that decides is one of the eight places
  pub decides_place : (t : Trial) → s.n ≤ most_tanks → (1 ≤ (judgement s t).decides) × ((judgement s t).decides ≤ most_tanks)
  unfolding judgement
  decides_place t h = (omega arith, first_below greater _ s.n most_tanks h (omega arith))

  -- none is said of it exactly where it has no factor
  none_is : (t : Trial) → (judgement s t).none ≡ no_factor (deciding_residual (judgement s t)) (deciding_reach (judgement s t))
  unfolding judgement
  none_is t = let e : suc (deciding_place s.n (measurement s t)) - 1 ≡ deciding_place s.n (measurement s t) = omega arith in rw e

  -- a trial whose factor is at most another's has one where the other has
  pub lesser_has_factor : (t t' : Trial) → deciding_factor (judgement s t) ≼ deciding_factor (judgement s t') → (judgement s t').none ≡ false → (judgement s t).none ≡ false
  lesser_has_factor t t' l e =
      let j = judgement s t in
      let j' = judgement s t' in
      none_is t ∙ at_most_has_factor (deciding_residual j) (deciding_residual j') (deciding_reach j) (deciding_reach j') l (sym (none_is t') ∙ e)

  -- a trial without a factor ranks behind one with a factor, and no two without are told apart
  pub without_factor_above : (t t' : Trial) → (judgement s t).none ≡ true → (judgement s t').none ≡ false
      → deciding_factor (judgement s t') ≺ deciding_factor (judgement s t)
  without_factor_above t t' e f =
      let j = judgement s t in
      let j' = judgement s t' in
      let i = improper (nat_abs (deciding_residual j)) (deciding_reach j) (sym (none_is t) ∙ e) in
      subst (λ (x : ℕ). deciding_factor j' ≺ (nat_abs (deciding_residual j) over x)) (sym i.1)
      (over_zero_above (nat_abs (deciding_residual j)) (nat_abs (deciding_residual j')) (deciding_reach j') i.0
      (proper (nat_abs (deciding_residual j')) (deciding_reach j') (sym (none_is t') ∙ f)))

  pub without_factor_alike : (t t' : Trial) → (judgement s t).none ≡ true → (judgement s t').none ≡ true
      → order (deciding_factor (judgement s t)) (deciding_factor (judgement s t')) ≡ Equal
  without_factor_alike t t' e f =
      let j = judgement s t in
      let j' = judgement s t' in
      let i = improper (nat_abs (deciding_residual j)) (deciding_reach j) (sym (none_is t) ∙ e) in
      let i' = improper (nat_abs (deciding_residual j')) (deciding_reach j') (sym (none_is t') ∙ f) in
      ap₂ (λ (x y : ℕ). order (nat_abs (deciding_residual j) over x) (nat_abs (deciding_residual j') over y)) i.1 i'.1
      ∙ over_zero_alike (nat_abs (deciding_residual j)) (nat_abs (deciding_residual j')) i.0 i'.0
