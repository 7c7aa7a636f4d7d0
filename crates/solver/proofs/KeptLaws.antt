-- What is kept, from the trials of the rounds: the first that is met, refusal 9, or the best. Rounds are counted from 1. Assumes nothing.
use Rattle.std.specs.Prelude.{ℕ, suc, ◌<◌, ℤ, List, ◌≡◌, refl, Err}
use Rattle.std.proofs.Common.{true≢false, sym, ap, ◌∙◌, arith}
use Rattle.std.proofs.Math.Decide.{dec_lt}
use Rattle.judge.specs.System.{System}
use Rattle.outcome.specs.declared.Refusal.TheVariants.{OutsideRange}
use Rattle.solver.specs.Claims.{UnmetBefore, FirstMet, FirstOutside}
use Rattle.solver.proofs.Endings.{solutions}
use Rattle.solver.specs.Ranking.{best_round}
use Rattle.solver.specs.Refinement.{trial_of_round, within_of_round}
use Rattle.solver.specs.Solution.{judged_trial, solved}

module _ (w : List (List ℤ)) (o : List ℕ) (s : System) (D K : ℕ) where
  -- ---- no two of these are so at once

  met_unmet : (k : ℕ) → FirstMet w o s D K k → UnmetBefore w o s D (suc K) → ⊥
  met_unmet k m u = true≢false (sym m.met ∙ (u k m.some (omega (arith, m.few))).not_met)

  outside_unmet : (k : ℕ) → FirstOutside w o s D K k → UnmetBefore w o s D (suc K) → ⊥
  outside_unmet k f u = true≢false (sym (u k f.some (omega (arith, f.few))).within ∙ f.outside)

  met_outside : (k i : ℕ) → FirstMet w o s D K k → FirstOutside w o s D K i → ⊥
  met_outside k i m f = go (dec_lt k i) (dec_lt i k)
    where
      go : Dec (k < i) → Dec (i < k) → ⊥
      go (yes l) d = true≢false (sym m.met ∙ (f.before k m.some l).not_met)
      go (no l) (yes l') = true≢false (sym (m.before i f.some l').within ∙ f.outside)
      go (no l) (no l') =
          let e : k ≡ i = omega arith in
          true≢false (sym m.within ∙ ap (within_of_round w o s D) e ∙ f.outside)

  met_once : (k i : ℕ) → FirstMet w o s D K k → FirstMet w o s D K i → k ≡ i
  met_once k i m f = go (dec_lt k i) (dec_lt i k)
    where
      go : Dec (k < i) → Dec (i < k) → k ≡ i
      go (yes l) d = absurd (true≢false (sym m.met ∙ (f.before k m.some l).not_met))
      go (no l) (yes l') = absurd (true≢false (sym f.met ∙ (m.before i f.some l').not_met))
      go (no l) (no l') = omega arith

  -- ---- what is kept

  -- if a trial is met, the first such is kept, and rounds used is its number
  pub first_met_kept : (k : ℕ) → FirstMet w o s D K k → solved w o s D K ≡ judged_trial s D k (trial_of_round w o s D k)
  first_met_kept k m =
      solutions w o s D K (λ r. r ≡ judged_trial s D k (trial_of_round w o s D k))
      (record {
        no_round = λ z. absurd (omega (arith, m.some, m.few));
        met = λ i f. ap (λ (x : ℕ). judged_trial s D x (trial_of_round w o s D x)) (met_once i k f m);
        none_met = λ _ f. absurd (met_unmet k m f);
        outside = λ i j f. absurd (met_outside k (suc i) m f);
      })

  -- if a round leaves its limits before any is met, there is no answer
  pub first_outside_refused : (k : ℕ) → FirstOutside w o s D K k → (solved w o s D K).status ≡ Err OutsideRange
  first_outside_refused k f =
      solutions w o s D K (λ r. r.status ≡ Err OutsideRange)
      (record {
        no_round = λ z. absurd (omega (arith, f.some, f.few));
        met = λ i m. absurd (met_outside i k m f);
        none_met = λ _ u. absurd (outside_unmet k f u);
        outside = λ i j _. refl;
      })

  -- if every round stays within its limits and none is met, the best is kept, and rounds used is K
  pub none_met_kept : 0 < K → UnmetBefore w o s D (suc K) → solved w o s D K ≡ judged_trial s D K (trial_of_round w o s D (best_round w o s D K))
  none_met_kept l u =
      solutions w o s D K (λ r. r ≡ judged_trial s D K (trial_of_round w o s D (best_round w o s D K)))
      (record {
        no_round = λ z. absurd (omega arith);
        met = λ i m. absurd (met_unmet i m u);
        none_met = λ _ _. refl;
        outside = λ i j f. absurd (outside_unmet (suc i) f u);
      })
