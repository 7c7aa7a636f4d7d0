-- Laws of the ranking of trials: trial by trial it finds the first of the least. Assumes nothing.
use Prim.Native.Nat.{ℕ, zero, suc, ◌<◌, ◌≤◌}
use Rattle.std.specs.Prelude.{ℤ, Bool, List, ◌≡◌}
use Rattle.std.proofs.Math.Bool.{true, false, cond}
use Rattle.std.proofs.Common.{true≢false, sym, ap, ◌∙◌}
use Rattle.std.proofs.Math.Path.{refl}
use native.Mathlib.Omega.{arith}
use Rattle.fractions.proofs.FirstLaws.{first_one, first_suc}
use Rattle.fractions.specs.Fraction.{Fraction, ◌≼◌, ◌≺◌}
use Rattle.fractions.specs.Least.{less, first_least, FirstLeast}
use Rattle.fractions.proofs.RankLaws.{first_least_is}
use Rattle.judge.specs.Judgement.{Judgement, deciding_factor}
use Rattle.judge.specs.System.{System}
use Rattle.judge.specs.declared.MeasuredTrial.{MeasuredTrial}
use Rattle.solver.specs.RankedTrials.{RankedTrial, ranked_trial, ranked_from, best_from, replaces, better_trial, ranked, best_after, best_of_rounds}
use Rattle.solver.specs.Ranking.{factor_of_round, best_round}
use Rattle.solver.specs.declared.BestTrial.{BestTrial}
use Rattle.solver.specs.Refinement.{Progress, judged_progress, ended, trial_of_round, judgement_of_round}

-- ---- where the best trial stands

-- by itself where it is not the last
pub not_last : (b : BestTrial) (t u : MeasuredTrial) → b.last ≡ false → best_from b t u ≡ ranked_from b u
not_last b t u e = ap (λ (x : Bool). ranked_from b (cond x t u)) e

-- and so where it is stored before the last gives way to the next
pub stored_is : (b : BestTrial) (t u : MeasuredTrial) {v : MeasuredTrial} → v ≡ cond b.last t u → ranked_from b v ≡ best_from b t u
stored_is b t u e = ap (ranked_from b) e

-- ---- one more trial

pub met_not_ranked : (k : ℕ) (b : RankedTrial) (Y : List ℤ) (j : Judgement) → j.met ≡ true → b ≡ ranked k b Y j
met_not_ranked k b Y j e = go j.met e
  where
    go : (t : Bool) → t ≡ true → b ≡ cond t b (better_trial k b (ranked_trial Y j))
    go true p = refl
    go false p = absurd (true≢false (sym p))

pub refused_not_ranked : (k : ℕ) (b : RankedTrial) (p : Progress) → p.within ≡ false → b ≡ best_after k b p
refused_not_ranked k b p e = go p.within e
  where
    go : (t : Bool) → t ≡ false → b ≡ cond t (ranked k b p.trial p.judgement) b
    go true q = absurd (true≢false q)
    go false q = refl

-- unmet, as code finds it: its factor f, and whether it takes the best one's place
module _ (k : ℕ) (b : RankedTrial) (Y : List ℤ) (j : Judgement) (f : Fraction) (m : j.met ≡ false) (e : f ≡ deciding_factor j) where
  pub not_taken : replaces k b.factor f ≡ false → b ≡ ranked k b Y j
  not_taken q = go j.met (replaces k b.factor (deciding_factor j)) m (ap (replaces k b.factor) (sym e) ∙ q)
    where
      go : (x y : Bool) → x ≡ false → y ≡ false → b ≡ cond x b (cond y (ranked_trial Y j) b)
      go true y p q = refl
      go false true p q = absurd (true≢false q)
      go false false p q = refl

  pub taken : replaces k b.factor f ≡ true → record { trial = Y; judgement = j; factor = f } ≡ ranked k b Y j
  taken q =
      ap (λ (g : Fraction). record { trial = Y; judgement = j; factor = g }) e
      ∙ go j.met (replaces k b.factor (deciding_factor j)) m (ap (replaces k b.factor) (sym e) ∙ q)
    where
      go : (x y : Bool) → x ≡ false → y ≡ true → ranked_trial Y j ≡ cond x b (cond y (ranked_trial Y j) b)
      go true y p q = absurd (true≢false p)
      go false true p q = refl
      go false false p q = absurd (true≢false (sym q))

module _ (w : List (List ℤ)) (o : List ℕ) (s : System) (D : ℕ) where
  abbrev factors : ℕ → Fraction
  factors i = factor_of_round w o s D (suc i)

  -- the trial of round k, ranked
  abbrev ranked_round : ℕ → RankedTrial
  ranked_round k = ranked_trial (trial_of_round w o s D k) (judgement_of_round w o s D k)

  -- one round more
  one_better : (k : ℕ) (b : RankedTrial) → (0 < k → b ≡ best_of_rounds w o s D k) → better_trial k b (ranked_round (suc k)) ≡ best_of_rounds w o s D (suc k)
  unfolding best_round
  one_better zero b h = rw (first_one less factors)
  one_better (suc k) b h =
      rw (h (omega arith), first_suc less factors (suc k)) (go (less (factors (suc k)) (factors (first_least factors (suc k)))))
    where
      go : (t : Bool) → cond t (ranked_round (suc (suc k))) (ranked_round (suc (first_least factors (suc k)))) ≡ ranked_round (suc (cond t (suc k) (first_least factors (suc k))))
      go true = refl
      go false = refl

  -- after a round that does not end the work
  pub best_more : (k : ℕ) (b b' : RankedTrial) (p : Progress) → p ≡ judged_progress s D (suc k) (trial_of_round w o s D (suc k)) → ended p ≡ false
      → (0 < k → b ≡ best_of_rounds w o s D k) → b' ≡ best_after k b p → b' ≡ best_of_rounds w o s D (suc k)
  best_more k b b' p e t h q = q ∙ rw e (go (judgement_of_round w o s D (suc k)).met (rw e at t)) ∙ one_better k b h
    where
      go : (t : Bool) → t ≡ false → cond t b (better_trial k b (ranked_round (suc k))) ≡ better_trial k b (ranked_round (suc k))
      go true z = absurd (true≢false z)
      go false z = refl

  -- ---- what the best round is

  module _ (K : ℕ) (h : 0 < K) where
    least : FirstLeast factors K (first_least factors K)
    least = first_least_is factors K h

    pub best_few : best_round w o s D K ≤ K
    unfolding best_round
    best_few = least.place

    pub best_some : 1 ≤ best_round w o s D K
    unfolding best_round
    best_some = omega arith

    pub best_least : (k : ℕ) → 1 ≤ k → k ≤ K → factor_of_round w o s D (best_round w o s D K) ≼ factor_of_round w o s D k
    unfolding best_round
    best_least zero l m = absurd (omega arith)
    best_least (suc i) l m = least.none_better i m

    pub best_earlier : (k : ℕ) → 1 ≤ k → k < best_round w o s D K → factor_of_round w o s D (best_round w o s D K) ≺ factor_of_round w o s D k
    unfolding best_round
    best_earlier zero l m = absurd (omega arith)
    best_earlier (suc i) l m = least.earlier i (omega arith)
