-- The judgement says what it is, and looks at the answer's n figures only: an answer that agrees in those is judged alike. Assumes nothing.
use Rattle.std.specs.Prelude.{ℕ, suc, ◌*◌, ◌+◌, ◌<◌, ◌≤◌, eqb, ℤ, ◌-ℤ◌, ◌*ℤ◌, ◌≡◌, refl}
use Rattle.std.proofs.Math.IntN.{pos}
use Rattle.std.proofs.Math.Path.{ap, ap₂}
use Rattle.std.proofs.Common.{◌∙◌}
use Rattle.limits.specs.Limits.{most_tanks}
use Rattle.fractions.proofs.FirstLaws.{first_cong}
use Rattle.fractions.specs.Greatest.{greater}
use Rattle.judge.specs.Finding.{Finding, finding, Agrees}
use Rattle.judge.specs.Judgement.{row_met, factor, no_factor, first_unmet_row, deciding, judgement}
use Rattle.judge.proofs.Laws.{first_not_cong, deciding_below, deciding_is, at_residuals, at_reaches}
use Rattle.judge.proofs.RowSumLaws.{same_product_sum, same_weight_sum}
use Rattle.judge.specs.System.{Row, Trial, System, row, residual, reach}

pub judgement_agrees : (s : System) (t : Trial) → 0 < s.n → s.n ≤ most_tanks → Agrees s t (finding (judgement s t))
unfolding judgement
judgement_agrees s t h k =
    let d = deciding_below s t h in
    record {
      met = refl;
      unmet = refl;
      none = rw (deciding_is s t k) (ap₂ no_factor (at_residuals s t k (deciding s t) d) (at_reaches s t k (deciding s t) d));
      decides = ap suc (deciding_is s t k);
      R = at_residuals s t k;
      T = at_reaches s t k;
    }

module _ (t : Trial) (Y : ℕ → ℤ) (same : (j : ℕ) → j < t.n → t.Y j ≡ Y j) where
  abbrev pub with_figures : Trial
  with_figures = record { n = t.n; D = t.D; Y = Y }

  pub same_residual : (r : Row) → residual r t ≡ residual r with_figures
  unfolding residual
  same_residual r = ap (λ x. pos t.D *ℤ r.b -ℤ x) (same_product_sum t.Y Y t.n same r.A)

  pub same_reach : (r : Row) → reach r t ≡ reach r with_figures
  unfolding reach
  same_reach r = ap (λ x. t.D * r.f + x) (same_weight_sum t.Y Y t.n same r.E)

  module _ (s : System) where
    same_unmet : first_unmet_row s t ≡ first_unmet_row s with_figures
    unfolding first_unmet_row
    same_unmet = first_not_cong _ _ s.n (λ i l. ap₂ row_met (same_residual (row s i)) (same_reach (row s i)))

    same_deciding : deciding s t ≡ deciding s with_figures
    unfolding deciding
    same_deciding = first_cong greater _ _ s.n (λ i l. ap₂ factor (same_residual (row s i)) (same_reach (row s i)))

    pub agrees_with : (w : Finding) → Agrees s t w → Agrees s with_figures w
    agrees_with w a =
        record {
          met = a.met ∙ ap (λ u. eqb u 0) same_unmet;
          unmet = a.unmet ∙ same_unmet;
          none =
              a.none
              ∙ ap₂ no_factor (same_residual (row s (deciding s t))) (same_reach (row s (deciding s t)))
              ∙ ap (λ d. no_factor (residual (row s d) with_figures) (reach (row s d) with_figures)) same_deciding;
          decides = a.decides ∙ ap suc same_deciding;
          R = λ i l. a.R i l ∙ same_residual (row s i);
          T = λ i l. a.T i l ∙ same_reach (row s i);
        }
