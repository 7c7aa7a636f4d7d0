-- Every finding that agrees with the judgement is justified, for a trial brought and a trial worked out alike. Assumes nothing.
use Rattle.std.specs.Prelude.{ℕ, zero, suc, ◌*◌, ◌-◌, ◌<◌, ℤ, nat_abs, Bool, true, false, ◌≡◌, refl}
use Rattle.std.proofs.Common.{leb-true, leb-false, eqb-true, sym, ap, ◌∙◌, mul-le-mul_right, arith}
use Rattle.std.proofs.lemmas.Bool.{eqb-false}
use Rattle.fractions.specs.Fraction.{ordered_denominator}
use Rattle.fractions.specs.Greatest.{FirstGreatest}
use Rattle.fractions.proofs.RankLaws.{first_greatest_is}
use Rattle.fractions.proofs.Laws.{cross_from_base, cross_to_base}
use Rattle.judge.proofs.Deciding.{proper, improper}
use Rattle.judge.specs.Finding.{Finding, factor_numerator, AllPossible, AllUnder, FirstImpossible, Least, Yields, Justified, Agrees}
use Rattle.judge.specs.Judgement.{row_met, factor, no_factor, first_unmet_row, deciding}
use Rattle.judge.proofs.Laws.{Fails, first_not_zero, first_not_suc}
use Rattle.judge.proofs.OettliPrager.{oettli_prager, within_tolerances, yielded_keep}
use Rattle.judge.specs.Perturbation.{Possible}
use Rattle.judge.specs.System.{System, Trial, row, residual, reach}

-- a Bool that cannot be false
not_false : (b : Bool) → ¬ (b ≡ false) → b ≡ true
not_false true h = refl
not_false false h = absurd (h refl)

module _ (s : System) (t : Trial) where
  abbrev R : ℕ → ℤ
  R i = residual (row s i) t

  abbrev T : ℕ → ℕ
  T i = reach (row s i) t

  possible : (i : ℕ) → row_met (R i) (T i) ≡ true → Possible (row s i) t
  possible i e = (within_tolerances (row s i) t).1 (leb-true (nat_abs (R i)) (T i) e)

  impossible : (i : ℕ) → row_met (R i) (T i) ≡ false → ¬ Possible (row s i) t
  impossible i e k = omega (arith, (within_tolerances (row s i) t).0 k, leb-false (nat_abs (R i)) (T i) e)

  -- ---- the rows that are met

  abbrev p : ℕ → Bool
  p i = row_met (R i) (T i)

  all_met : first_unmet_row s t ≡ 0 → (i : ℕ) → i < s.n → p i ≡ true
  unfolding first_unmet_row
  all_met e = (first_not_zero p s.n e).all

  first_fails : (m : ℕ) → first_unmet_row s t ≡ suc m → Fails p s.n m
  unfolding first_unmet_row
  first_fails m e = first_not_suc p s.n m e

  first_impossible : (m : ℕ) → first_unmet_row s t ≡ m → 0 < m → FirstImpossible s t (m - 1)
  first_impossible zero e l = absurd (omega arith)
  first_impossible (suc m) e l =
      let f = first_fails m e in
      let q : suc m - 1 ≡ m = omega arith in
      rw q (record { place = f.place; impossible = impossible m f.here; before = λ i k. possible i (f.before i k) })

  module _ (w : Finding) (a : Agrees s t w) where
    met_zero : w.met ≡ true → first_unmet_row s t ≡ 0
    met_zero e = eqb-true (first_unmet_row s t) 0 (sym a.met ∙ e)

    unmet_row : w.met ≡ false → (0 < w.unmet) × FirstImpossible s t (w.unmet - 1)
    unmet_row e =
        let n = eqb-false (first_unmet_row s t) 0 (sym a.met ∙ e) in
        let l : 0 < w.unmet = omega (arith, a.unmet) in
        (l, first_impossible w.unmet (sym a.unmet) l)

    yields : w.met ≡ true → (i : ℕ) → i < s.n → Yields s t w i
    yields e i l =
        let k = yielded_keep (row s i) t (leb-true (nat_abs (R i)) (T i) (all_met (met_zero e) i l)) in
        record { solve = rw (a.R i l, a.T i l) k.0; keep = rw (a.R i l, a.T i l) k.1 }

    -- where every row has changes, none is found unmet
    met_if : AllPossible s t → w.met ≡ true
    met_if h = not_false w.met (λ e. let f = (unmet_row e).1 in f.impossible (h (w.unmet - 1) f.place))

  -- ---- the factor

  abbrev d : ℕ
  d = deciding s t

  module _ (h : 0 < s.n) where
    greatest : FirstGreatest (λ i. factor (R i) (T i)) s.n (deciding s t)
    unfolding deciding
    greatest = first_greatest_is (λ i. factor (R i) (T i)) s.n h

    least : no_factor (R d) (T d) ≡ false → Least (nat_abs (R d)) (ordered_denominator (nat_abs (R d)) (T d)) s t
    least e =
        let v = proper (nat_abs (R d)) (T d) e in
        record {
          proper = v;
          attained = λ i l.
              (oettli_prager (row s i) t (nat_abs (R d)) (ordered_denominator (nat_abs (R d)) (T d)) v).1
              (cross_from_base (nat_abs (R i)) (T i) (nat_abs (R d)) (ordered_denominator (nat_abs (R d)) (T d)) (greatest.none_better i l));
          least = λ u' v' v'-pos all.
              cross_to_base (nat_abs (R d)) (T d) u' v' ((oettli_prager (row s d) t u' v' v'-pos).0 (all d greatest.place));
        }

    hopeless : no_factor (R d) (T d) ≡ true → (u v : ℕ) → 0 < v → ¬ AllUnder u v s t
    hopeless e u v v-pos all =
        let q = improper (nat_abs (R d)) (T d) e in
        omega (
          arith,
          (oettli_prager (row s d) t u v v-pos).0 (all d greatest.place),
          ap (λ x. u * x) q.1,
          q.0,
          mul-le-mul_right (nat_abs (R d)) v-pos,
        )

-- ---- the theorem

module _ (s : System) (t : Trial) (h : 0 < s.n) where
  -- the row that decides, read off a finding
  module _ (w : Finding) (a : Agrees s t w) where
    place : w.decides - 1 ≡ deciding s t
    place = omega (arith, a.decides)

    num_is : factor_numerator w ≡ nat_abs (residual (row s (deciding s t)) t)
    num_is = ap nat_abs (ap w.R place ∙ a.R (deciding s t) (greatest s t h).place)

    reach_is : w.T (w.decides - 1) ≡ reach (row s (deciding s t)) t
    reach_is = ap w.T place ∙ a.T (deciding s t) (greatest s t h).place

    pub justified : Justified s t w
    justified =
        record {
          met_only = λ e i l. possible s t i (all_met s t (met_zero s t w a e) i l);
          met_if = met_if s t w a;
          met_row = λ e. a.unmet ∙ met_zero s t w a e;
          yields = yields s t w a;
          unmet_row = unmet_row s t w a;
          factor = λ e. rw (num_is, reach_is) (least s t h (sym a.none ∙ e));
          none_only = λ e. hopeless s t h (sym a.none ∙ e);
          none_if = λ f. not_false w.none (λ e. let k = least s t h (sym a.none ∙ e) in f _ _ k.proper k.attained);
          decides_row = (omega (arith, a.decides), omega (arith, a.decides, (greatest s t h).place));
        }
