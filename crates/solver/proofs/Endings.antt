-- How the rounds end, over the trials of the rounds: the first that is met, the first outside its limits, or none of either. Assumes nothing.
use Rattle.std.specs.Prelude.{ℕ, zero, suc, ◌+◌, ◌<◌, ℤ, pos, replicate, Bool, cond, List, ◌≡◌}
use Rattle.std.proofs.Math.Bool.{true, false}
use Rattle.std.proofs.lemmas.Bool.{false≢true}
use Rattle.std.proofs.Common.{true≢false, sym, ap, subst, ◌∙◌, arith}
use Rattle.std.proofs.Math.Path.{refl}
use Rattle.std.proofs.Math.Decide.{ℕ_discrete}
use Rattle.limits.specs.Limits.{most_tanks}
use Rattle.judge.specs.Judgement.{Judgement}
use Rattle.judge.specs.System.{System}
use Rattle.outcome.specs.declared.Refusal.TheVariants.{OutsideRange}
use Rattle.solver.specs.Claims.{RoundUnmet, UnmetBefore, FirstMet, FirstOutside}
use Rattle.solver.proofs.Laws.{trial_start, refined_none}
use Rattle.solver.specs.RankedTrials.{RankedTrial, best_of_rounds}
use Rattle.solver.specs.Ranking.{best_round}
use Rattle.solver.specs.Refinement.{Progress, start, judged_progress, round, ended, refined, trial_of_round, within_of_round, judgement_of_round}
use Rattle.solver.specs.Solution.{Solution, judged_trial, refused_solution, kept_solution, solved, accepted_solution, kept_of}

module _ (w : List (List ℤ)) (o : List ℕ) (s : System) (D : ℕ) where
  -- what stands after refusal 9 in round k + 1, beside whatever was said before it
  abbrev pub outside_progress : ℕ → Judgement → Progress
  outside_progress k j = record { within = false; rounds = k; trial = trial_of_round w o s D (suc k); judgement = j }

  -- P in each way in which K rounds end
  pub record Endings (K : ℕ) (P : Progress → Type 0) : Type 0 where
    pub met : (k : ℕ) → FirstMet w o s D K k → P (judged_progress s D k (trial_of_round w o s D k))
    pub none_met : UnmetBefore w o s D (suc K) → P (judged_progress s D K (trial_of_round w o s D K))
    pub outside : (k : ℕ) (j : Judgement) → FirstOutside w o s D K (suc k) → P (outside_progress k j)

  one_more_unmet : (k : ℕ) → UnmetBefore w o s D k → RoundUnmet w o s D k → UnmetBefore w o s D (suc k)
  one_more_unmet k h u i l m = pick (ℕ_discrete i k)
    where
      pick : Dec (i ≡ k) → RoundUnmet w o s D i
      pick (yes e) = rw e u
      pick (no e) = h i l (omega arith)

  module _ (K : ℕ) (P : Progress → Type 0) (h : Endings K P) where
    -- the trial after k rounds
    abbrev judged : ℕ → Progress
    judged k = judged_progress s D k (trial_of_round w o s D k)

    -- round k + 1, after k that were unmet: it ends the work, or the rest does
    turn : (m k : ℕ) (j : Judgement) → k < K → UnmetBefore w o s D (suc k) → (UnmetBefore w o s D (suc (suc k)) → P (refined w o s D m (judged (suc k))))
        → P (refined w o s D (suc m) (record { within = true; rounds = k; trial = trial_of_round w o s D k; judgement = j }))
    unfolding refined round trial_of_round
    turn m k j l b rest = by_within (within_of_round w o s D (suc k)) refl
      where
        by_met : within_of_round w o s D (suc k) ≡ true → (t : Bool) → (judgement_of_round w o s D (suc k)).met ≡ t → P (cond t (judged (suc k)) (refined w o s D m (judged (suc k))))
        by_met q true r = h.met (suc k) (record { some = omega arith; few = omega arith; before = b; within = q; met = r })
        by_met q false r = rest (one_more_unmet (suc k) b (record { within = q; not_met = r }))

        by_within : (t : Bool) → within_of_round w o s D (suc k) ≡ t
            → P (cond (ended (cond t (judged (suc k)) (outside_progress k j))) (cond t (judged (suc k)) (outside_progress k j)) (refined w o s D m (cond t (judged (suc k)) (outside_progress k j))))
        by_within true q = by_met q (judgement_of_round w o s D (suc k)).met refl
        by_within false q = h.outside k j (record { some = omega arith; few = omega arith; before = b; outside = q })

    -- m + 1 rounds more
    rounds_more : (m k : ℕ) (j : Judgement) → k + suc m ≡ K → UnmetBefore w o s D (suc k)
        → P (refined w o s D (suc m) (record { within = true; rounds = k; trial = trial_of_round w o s D k; judgement = j }))
    rounds_more zero k j e b =
        turn 0 k j (omega arith) b
        (λ b'.
        let q : K ≡ suc k = omega arith in
        rw (refined_none w o s D (judged (suc k))) (subst (λ (x : ℕ). UnmetBefore w o s D (suc x) → P (judged x)) q h.none_met b'))
    rounds_more (suc m) k j e b = turn (suc m) k j (omega arith) b (λ b'. rounds_more m (suc k) (judgement_of_round w o s D (suc k)) (omega arith) b')

    pub endings : 0 < K → P (refined w o s D K (start s D))
    endings l = go K refl
      where
        go : (x : ℕ) → K ≡ x → P (refined w o s D x (start s D))
        go zero e = absurd (omega arith)
        go (suc m) e = subst (λ (Y : List ℤ). P (refined w o s D (suc m) (record { within = true; rounds = 0; trial = Y; judgement = (start s D).judgement }))) (trial_start w o s D) (rounds_more m 0 (start s D).judgement (omega arith) (λ i l m. absurd (omega arith)))

  -- ---- what is kept

  -- as code finds it, with the best trial beside the end of the work
  abbrev KeptAlike : ℕ → RankedTrial → Progress → Type 0
  KeptAlike K b p = (p.within ≡ true → p.judgement.met ≡ false → b ≡ best_of_rounds w o s D K) → kept_of p b ≡ kept_solution w o s D K p

  kept_alike : (K : ℕ) (b : RankedTrial) → 0 < K → Endings K (KeptAlike K b)
  kept_alike K b l =
      record {
        met = λ k f h. rw f.met;
        none_met = λ f h.
            ap (λ (r : RankedTrial). cond (judgement_of_round w o s D K).met (judged_trial s D K (trial_of_round w o s D K)) (accepted_solution K r.trial r.judgement))
            (h refl (f K l (omega arith)).not_met);
        outside = λ k j f h. refl;
      }

  solved_some : (K : ℕ) → 0 < K → kept_solution w o s D K (refined w o s D K (start s D)) ≡ solved w o s D K
  solved_some zero h = absurd (omega arith)
  solved_some (suc k) h = refl

  pub kept_solved : (K : ℕ) (p : Progress) (b : RankedTrial) → 0 < K → p ≡ refined w o s D K (start s D)
      → (p.within ≡ true → p.judgement.met ≡ false → b ≡ best_of_rounds w o s D K) → kept_of p b ≡ solved w o s D K
  kept_solved K p b l e h =
      subst (KeptAlike K b) (sym e) (endings K (KeptAlike K b) (kept_alike K b l) l) h
      ∙ ap (kept_solution w o s D K) e
      ∙ solved_some K l

  -- P in each way in which there is an answer of at most K rounds, or none
  pub record Solutions (K : ℕ) (P : Solution → Type 0) : Type 0 where
    pub no_round : K ≡ 0 → P (judged_trial s D 0 (replicate most_tanks (pos 0)))
    pub met : (k : ℕ) → FirstMet w o s D K k → P (judged_trial s D k (trial_of_round w o s D k))
    pub none_met : 0 < K → UnmetBefore w o s D (suc K) → P (judged_trial s D K (trial_of_round w o s D (best_round w o s D K)))
    pub outside : (k : ℕ) (j : Judgement) → FirstOutside w o s D K (suc k) → P (refused_solution OutsideRange (outside_progress k j))

  pub solutions : (K : ℕ) (P : Solution → Type 0) → Solutions K P → P (solved w o s D K)
  solutions zero P h = h.no_round refl
  solutions (suc k) P h =
      endings (suc k) (λ p. P (kept_solution w o s D (suc k) p))
      (record {
        met = λ i f. at_true (judged i) (judgement_of_round w o s D i).met f.met (h.met i f);
        none_met = λ f. at_false (judged (suc k)) (judgement_of_round w o s D (suc k)).met (f (suc k) (omega arith) (omega arith)).not_met (h.none_met (omega arith) f);
        outside = h.outside;
      }) (omega arith)
    where
      judged : ℕ → Solution
      judged i = judged_trial s D i (trial_of_round w o s D i)

      best : Solution
      best = judged_trial s D (suc k) (trial_of_round w o s D (best_round w o s D (suc k)))

      at_true : (x : Solution) (t : Bool) → t ≡ true → P x → P (cond t x best)
      at_true x true e q = q
      at_true x false e q = absurd (false≢true e)

      at_false : (x : Solution) (t : Bool) → t ≡ false → P best → P (cond t x best)
      at_false x true e q = absurd (true≢false e)
      at_false x false e q = q
