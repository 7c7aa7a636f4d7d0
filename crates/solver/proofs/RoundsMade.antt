-- The rounds one after another, as a loop makes them: what holds after each, with the best trial beside the last. Assumes nothing.
use Rattle.std.specs.Prelude.{ℕ, suc, ◌+◌, ◌-◌, ◌<◌, ℤ, Bool, true, false, cond, List, ◌≡◌}
use Rattle.std.proofs.Common.{true≢false, sym, ap, ◌∙◌, arith}
use Rattle.limits.specs.Limits.{most_tanks}
use Rattle.integers.specs.TableLaws.{zeros_within}
use Rattle.judge.specs.System.{System}
use Rattle.solver.proofs.Laws.{trial_formed, trial_start, round_goes_on, judged_resumable, refined_none, refined_more, refined_ended}
use Rattle.solver.specs.Limits.{Resumable}
use Rattle.solver.proofs.Outcomes.{start_resumable}
use Rattle.solver.specs.RankedTrials.{RankedTrial, best_after, best_of_rounds}
use Rattle.solver.proofs.RankingLaws.{best_more}
use Rattle.solver.specs.Refinement.{Progress, start, judged_progress, round, ended, refined, trial_of_round}

-- of K rounds, with so many left: p is the trial of the last round made, b the best of the rounds made, and the rest from here is the rest of all
pub record RoundsMade (w : List (List ℤ)) (o : List ℕ) (s : System) (D K left : ℕ) (p : Progress) (b : RankedTrial) : Type 0 where
  pub counted : p.rounds + left ≡ K
  pub trial_is : p.trial ≡ trial_of_round w o s D p.rounds
  pub best_is : 0 < p.rounds → b ≡ best_of_rounds w o s D p.rounds
  pub resumable : Resumable s D p
  pub rest : refined w o s D left p ≡ refined w o s D K (start s D)

module _ (w : List (List ℤ)) (o : List ℕ) (s : System) (D K : ℕ) where
  pub none_made : (p : Progress) (b : RankedTrial) → p ≡ start s D → RoundsMade w o s D K K p b
  none_made p b e =
      let z = ap (λ (x : Progress). x.rounds) e in
      record {
        counted = omega (arith, z);
        trial_is = ap (λ (x : Progress). x.trial) e ∙ sym (trial_start w o s D) ∙ ap (trial_of_round w o s D) (sym z);
        best_is = λ l. absurd (omega (arith, z));
        resumable = start_resumable s D p e;
        rest = ap (refined w o s D K) e;
      }

  pub all_made : (p : Progress) (b : RankedTrial) → RoundsMade w o s D K 0 p b → (p ≡ refined w o s D K (start s D)) × (0 < K → b ≡ best_of_rounds w o s D K)
  all_made p b h =
      let e : p.rounds ≡ K = omega (arith, h.counted) in
      (sym (refined_none w o s D p) ∙ h.rest, λ l. rw e at (h.best_is (omega arith)))

  -- the next round, from p and b to q and b'
  module _ (m : ℕ) (p q : Progress) (b : RankedTrial) (h : RoundsMade w o s D K m p b) (l : 0 < m) (e : q ≡ round w o s D p) where
    pub one_more_made : (b' : RankedTrial) → b' ≡ best_after p.rounds b q → ended q ≡ false → RoundsMade w o s D K (m - 1) q b'
    one_more_made b' r t =
        let k = p.rounds in
        let j : q ≡ judged_progress s D (suc k) (trial_of_round w o s D (suc k)) = round_goes_on w o s D p q e h.trial_is t in
        let c : q.rounds ≡ suc k = ap (λ (x : Progress). x.rounds) j in
        record {
          counted = omega (arith, c, h.counted);
          trial_is = ap (λ (x : Progress). x.trial) j ∙ ap (trial_of_round w o s D) (sym c);
          best_is = λ _. best_more w o s D k b b' q j t h.best_is r ∙ ap (best_of_rounds w o s D) (sym c);
          resumable = rw j (judged_resumable s D (suc k) (trial_of_round w o s D (suc k)) ((trial_formed w o s D (suc k)).figures (zeros_within most_tanks)));
          rest = refined_more w o s D m p q l e t ∙ h.rest;
        }

    pub ended_made : ended q ≡ true → q ≡ refined w o s D K (start s D)
    ended_made t = refined_ended w o s D m p q l e t ∙ h.rest

-- where the work ends within its limits the trial is met
pub ended_met : (p : Progress) → ended p ≡ true → p.within ≡ true → p.judgement.met ≡ true
ended_met p e w = go p.within e w
  where
    go : (x : Bool) → cond x p.judgement.met true ≡ true → x ≡ true → p.judgement.met ≡ true
    go true e w = e
    go false e w = absurd (true≢false (sym w))
