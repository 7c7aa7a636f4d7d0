-- A solution depends on the system's figures alone, read as 0 past a list's end: zeros behind them change nothing. Assumes nothing.
use Prim.Native.Nat.{ℕ, zero, suc}
use Rattle.std.specs.Prelude.{ℤ, pos, replicate, true, ◌≡◌}
use Rattle.std.proofs.Math.Bool.{cond}
use mathlib.Core.List.{List}
use Rattle.std.proofs.Math.Path.{refl, ap, ap₂}
use Rattle.std.proofs.Common.{◌∙◌}
use Rattle.limits.specs.Limits.{most_tanks}
use Rattle.rows.specs.Block.{Block}
use Rattle.fractions.proofs.FirstLaws.{first_cong}
use Rattle.fractions.specs.Least.{less}
use Rattle.judge.specs.Judgement.{Measurement, Judgement, measurement, judgement, deciding_factor}
use Rattle.judge.proofs.SameFigures.{SameFigures, same_measurement, same_judgement}
use Rattle.judge.specs.System.{System, Trial, trial, zero_trial}
use Rattle.elimination.specs.Outcome.{outcome}
use Rattle.elimination.proofs.SameFigures.{same_eliminated}
use Rattle.elimination.specs.Steps.{Run, eliminated}
use Rattle.outcome.specs.declared.Refusal.TheVariants.{ZeroPivot, OutsideRange}
use Rattle.solver.specs.Ranking.{best_round}
use Rattle.solver.specs.Refinement.{permuted, substituted, Update, corrected, updated, nothing_said_yet, Progress, start, refused_progress, after_update, round, ended, refined, trial_of_round}
use Rattle.solver.specs.Solution.{Solution, judged_trial, refused_solution, kept_solution, by_elimination, solved, solution, accepted_solution}

module _ (n : ℕ) (x y : Block) (h : SameFigures x y) (D : ℕ) where
  abbrev s : System
  s = record { n = n; rows = x }

  abbrev s' : System
  s' = record { n = n; rows = y }

  same_measurements : measurement s ≡ measurement s'
  same_measurements = λ k t. same_measurement n x y h t k

  same_judgements : judgement s ≡ judgement s'
  same_judgements = λ k t. same_judgement n x y h t k

  same_start : start s D ≡ start s' D
  same_start =
      ap (λ (m : Trial → Measurement).
      record { within = true; rounds = 0; trial = replicate most_tanks (pos 0); judgement = nothing_said_yet (m (zero_trial n D)).residuals (replicate most_tanks 0) })
      same_measurements

  module _ (w : List (List ℤ)) (o : List ℕ) where
    same_updated : (Y : List ℤ) → updated w o s D Y ≡ updated w o s' D Y
    unfolding updated
    same_updated Y =
        ap (λ (m : Trial → Measurement). corrected n Y (substituted w (permuted n o (m (trial n D Y)).residuals) n)) same_measurements

    same_round : (p : Progress) → round w o s D p ≡ round w o s' D p
    unfolding round
    same_round p =
        ap (after_update s D p) (same_updated p.trial)
        ∙ ap (λ (j : Trial → Judgement).
        let u = updated w o s' D p.trial in
        cond u.within (record { within = true; rounds = suc p.rounds; trial = u.trial; judgement = j (trial n D u.trial) }) (refused_progress p u.trial))
        same_judgements

    same_refined : (m : ℕ) (p : Progress) → refined w o s D m p ≡ refined w o s' D m p
    unfolding refined
    same_refined zero p = refl
    same_refined (suc m) p =
        ap (λ (q : Progress). cond (ended q) q (refined w o s D m q)) (same_round p)
        ∙ ap (λ (q : Progress). cond (ended (round w o s' D p)) (round w o s' D p) q) (same_refined m (round w o s' D p))

    same_trials : (k : ℕ) → trial_of_round w o s D k ≡ trial_of_round w o s' D k
    unfolding trial_of_round
    same_trials zero = refl
    same_trials (suc k) =
        ap (λ (u : Update). u.trial) (same_updated (trial_of_round w o s D k) ∙ ap (updated w o s' D) (same_trials k))

    -- a trial after k rounds, by its figures, judged
    same_judged : (k : ℕ) {Y Y' : List ℤ} → Y ≡ Y' → judged_trial s D k Y ≡ judged_trial s' D k Y'
    same_judged k {Y = Y} e =
        ap (λ (j : Trial → Judgement). accepted_solution k Y (j (trial n D Y))) same_judgements
        ∙ ap (judged_trial s' D k) e

    same_best : (K : ℕ) → best_round w o s D K ≡ best_round w o s' D K
    unfolding best_round
    same_best K =
        ap suc (first_cong less _ _ K (λ i _.
        ap deciding_factor (same_judgement n x y h (trial n D (trial_of_round w o s D (suc i))) ∙ ap (λ (Y : List ℤ). judgement s' (trial n D Y)) (same_trials (suc i)))))

    -- where the work ends at p
    same_kept : (K : ℕ) (p : Progress) → kept_solution w o s D K p ≡ kept_solution w o s' D K p
    same_kept K p =
        ap₂ (λ (a b : Solution). cond p.within (cond p.judgement.met a b) (refused_solution OutsideRange p))
        (same_judged p.rounds refl)
        (same_judged K (same_trials (best_round w o s D K) ∙ ap (trial_of_round w o s' D) (same_best K)))

    same_solved : (K : ℕ) → solved w o s D K ≡ solved w o s' D K
    same_solved zero = same_judged 0 refl
    same_solved (suc k) =
        same_kept (suc k) (refined w o s D (suc k) (start s D))
        ∙ ap (kept_solution w o s' D (suc k)) (same_refined (suc k) (start s D) ∙ ap (refined w o s' D (suc k)) same_start)

  pub solution_same_figures : (K : ℕ) → solution s D K ≡ solution s' D K
  unfolding solution
  solution_same_figures K =
      ap (λ (r : Run). by_elimination (outcome n r.steps) (solved r.working r.order s D K) (refused_solution ZeroPivot (start s D))) (same_eliminated n x.A y.A h.A)
      ∙ ap₂ (by_elimination (outcome n (eliminated n y.A).steps))
      (same_solved (eliminated n y.A).working (eliminated n y.A).order K)
      (ap (refused_solution ZeroPivot) same_start)
