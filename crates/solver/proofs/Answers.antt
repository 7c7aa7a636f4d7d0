-- What holds of every solution: its trial is within its limits and an answer is judged, its rounds are those that were made, which trial is kept, and
-- refusals 8 and 9 have their conditions. Assumes nothing.
use Rattle.std.specs.Prelude.{ℕ, suc, ◌≤◌, ℤ, length, List, ◌≡◌, Ok, Err}
use Rattle.std.proofs.Common.{true≢false, sym, ap, ◌∙◌, arith}
use Rattle.std.proofs.Math.Path.{refl}
use Rattle.limits.specs.Limits.{most_tanks}
use Rattle.integers.specs.TableLaws.{zeros_within}
use Rattle.integers.specs.Tables.{Within}
use Rattle.judge.proofs.Deciding.{lesser_has_factor}
use Rattle.judge.specs.System.{System, trial}
use Rattle.elimination.specs.Claims.{ZeroColumn}
use Rattle.elimination.specs.Outcome.{Elimination, outcome, zero_pivot}
use Rattle.elimination.proofs.OutcomeLaws.{zero_pivot_column, column_zero_pivot}
use Rattle.elimination.specs.Steps.{eliminated}
use Rattle.outcome.specs.Outcome.{status_number, Accepted}
use Rattle.outcome.specs.declared.Refusal.{Refusal}
use Rattle.outcome.specs.declared.Refusal.TheVariants.{ZeroPivot, OutsideRange}
use Rattle.solver.specs.Claims.{KeptAnswer, Rounds, UnmetBefore, BestRound, KeptTrial, working_of, order_of, Complete, KeptOfRounds, OutsideRangeFound, ZeroPivotFound}
use Rattle.solver.proofs.Endings.{Solutions, solutions}
use Rattle.solver.proofs.KeptLaws.{first_outside_refused}
use Rattle.solver.proofs.Laws.{trial_formed}
use Rattle.solver.proofs.Outcomes.{solution_solved, solution_refused}
use Rattle.solver.specs.Ranking.{best_round}
use Rattle.solver.proofs.RankingLaws.{best_some, best_few, best_least, best_earlier}
use Rattle.solver.specs.Refinement.{figure_limit, start, trial_of_round}
use Rattle.solver.specs.Solution.{Solution, judged_trial, refused_solution, by_elimination, solved, solution}

-- nothing is accepted beside a refusal
accepted_not : {A : Type 0} {q : Refusal} → Err q ≡ Accepted → A
accepted_not e = let z : ◌≡◌ {A = ℕ} 0 1 = cc in absurd (omega arith)

module _ (s : System) (D K : ℕ) where
  abbrev w : List (List ℤ)
  w = working_of s

  abbrev o : List ℕ
  o = order_of s

  -- P in each way in which the rounds end, over a complete elimination, and where it is not complete
  cases : (P : Solution → Type 0) → (Complete s → Solutions w o s D K P)
      → ((k : ℕ) → outcome s.n (eliminated s.n s.rows.A).steps ≡ zero_pivot k → P (refused_solution ZeroPivot (start s D)))
      → P (solution s D K)
  unfolding solution
  cases P h d = go (outcome s.n (eliminated s.n s.rows.A).steps) refl
    where
      go : (e : Elimination) → outcome s.n (eliminated s.n s.rows.A).steps ≡ e
          → P (by_elimination e (solved w o s D K) (refused_solution ZeroPivot (start s D)))
      go (Ok _) q = solutions w o s D K P (h q)
      go (Err e) q = d e.steps q

  -- the kept trial, and its judgement where it is an answer
  pub answer : KeptAnswer s D (solution s D K)
  answer =
      cases (KeptAnswer s D)
      (λ _. record {
        no_round = λ _. record { figures = zeros_within most_tanks; judgement_is = λ _. refl };
        met = λ k f. record { figures = figures k; judgement_is = λ _. refl };
        none_met = λ l f. record { figures = figures (best_round w o s D K); judgement_is = λ _. refl };
        outside = λ k j f. record { figures = figures (suc k); judgement_is = accepted_not };
      })
      (λ k q. record { figures = zeros_within most_tanks; judgement_is = accepted_not })
    where
      figures : (k : ℕ) → Within figure_limit (trial_of_round w o s D k)
      figures k = (trial_formed w o s D k).figures (zeros_within most_tanks)

  -- it has a place for each tank that a case may have
  pub trial_places : length (solution s D K).trial ≡ most_tanks
  trial_places =
      cases (λ (r : Solution). length r.trial ≡ most_tanks)
      (λ _. record {
        no_round = λ _. refl;
        met = λ k f. (trial_formed w o s D k).places;
        none_met = λ l f. (trial_formed w o s D (best_round w o s D K)).places;
        outside = λ k j f. (trial_formed w o s D (suc k)).places;
      })
      (λ k q. refl)

  pub rounds : 1 ≤ K → (solution s D K).status ≡ Accepted → Rounds K (solution s D K)
  rounds l =
      cases (λ r. r.status ≡ Accepted → Rounds K r)
      (λ _. record {
        no_round = λ z. absurd (omega arith);
        met = λ k f e. record { some = f.some; few = f.few; early = λ _. f.met };
        none_met = λ _ f e. record { some = l; few = omega arith; early = λ m. absurd (omega arith) };
        outside = λ k j f. accepted_not;
      })
      (λ k q. accepted_not)

  -- ---- which trial is kept

  best_is : 1 ≤ K → UnmetBefore w o s D (suc K) → BestRound w o s D K (best_round w o s D K)
  best_is l f =
      record {
        some = best_some w o s D K l;
        few = best_few w o s D K l;
        none_met = f;
        least = best_least w o s D K l;
        earlier = best_earlier w o s D K l;
        factor = λ k a b.
            lesser_has_factor s (trial s.n D (trial_of_round w o s D (best_round w o s D K))) (trial s.n D (trial_of_round w o s D k)) (best_least w o s D K l k a b);
      }

  pub kept_trial : 1 ≤ K → (solution s D K).status ≡ Accepted → KeptOfRounds s D K (solution s D K)
  kept_trial l =
      cases (λ r. r.status ≡ Accepted → KeptOfRounds s D K r)
      (λ q. record {
        no_round = λ z. absurd (omega arith);
        met = λ k f _. record {
          complete = q;
          kept = record { round = k; trial_is = refl; judgement_is = refl; met = λ _. (f, refl); not_met = λ e. absurd (true≢false (sym f.met ∙ e)) };
        };
        none_met = λ _ f _. record { complete = q; kept = best_kept f };
        outside = λ k j f. accepted_not;
      })
      (λ k q. accepted_not)
    where
      best_kept : UnmetBefore w o s D (suc K) → KeptTrial w o s D K (judged_trial s D K (trial_of_round w o s D (best_round w o s D K)))
      best_kept f =
          let b = best_is l f in
          record {
            round = best_round w o s D K;
            trial_is = refl;
            judgement_is = refl;
            met = λ e. absurd (true≢false (sym e ∙ (f (best_round w o s D K) b.some (omega (arith, b.few))).not_met));
            not_met = λ _. (b, refl);
          }

  -- ---- refusal 8 exactly if at some step every candidate for the pivot is zero

  pub zero_pivot_refused : (k : ℕ) → ZeroColumn s.n s.rows.A k → (solution s D K).status ≡ Err ZeroPivot
  zero_pivot_refused k c =
      ap (λ (r : Solution). r.status) (sym (solution_refused s D K k (start s D) refl (column_zero_pivot s.n s.rows.A k c)))

  pub refused_zero_pivot : (solution s D K).status ≡ Err ZeroPivot → ZeroPivotFound s
  refused_zero_pivot =
      cases (λ r. r.status ≡ Err ZeroPivot → ZeroPivotFound s)
      (λ _. record {
        no_round = λ _ e. absurd (omega (arith, ap status_number e));
        met = λ k f e. absurd (omega (arith, ap status_number e));
        none_met = λ l f e. absurd (omega (arith, ap status_number e));
        outside = λ k j f e. absurd (omega (arith, ap status_number e));
      })
      (λ k q e. record { step = k; column = zero_pivot_column s.n s.rows.A k q })

  -- ---- refusal 9 exactly if the elimination is complete and some round leaves its limits with none met before it

  pub outside_range_refused : OutsideRangeFound s D K → (solution s D K).status ≡ Err OutsideRange
  outside_range_refused f =
      ap (λ (r : Solution). r.status) (sym (solution_solved s D w o refl refl f.complete K))
      ∙ first_outside_refused w o s D K f.round f.first

  pub refused_outside_range : (solution s D K).status ≡ Err OutsideRange → OutsideRangeFound s D K
  refused_outside_range =
      cases (λ r. r.status ≡ Err OutsideRange → OutsideRangeFound s D K)
      (λ q. record {
        no_round = λ _ e. absurd (omega (arith, ap status_number e));
        met = λ k f e. absurd (omega (arith, ap status_number e));
        none_met = λ l f e. absurd (omega (arith, ap status_number e));
        outside = λ k j f e. record { complete = q; round = suc k; first = f };
      })
      (λ k q e. absurd (omega (arith, ap status_number e)))
