-- Definitions only.
-- The best trial, found trial by trial: what code does in each round. Which trial that is stands in Ranking.
use Rattle.std.specs.Prelude.{ℕ, zero, suc, ℤ, Bool, true, cond, List}
use Rattle.fractions.specs.Fraction.{◌over◌, Fraction}
use Rattle.fractions.specs.Least.{less}
use Rattle.judge.specs.Judgement.{Judgement, judgement_from, deciding_factor}
use Rattle.judge.specs.System.{System}
use Rattle.judge.specs.declared.MeasuredTrial.{MeasuredTrial}
use Rattle.solver.specs.Ranking.{best_round}
use Rattle.solver.specs.Refinement.{nothing_said_yet, Progress, trial_of_round, judgement_of_round}
use Rattle.solver.specs.declared.BestTrial.{BestTrial}

-- a trial with what is said of it and the factor of the row that decides
pub record RankedTrial : Type 0 where
  pub trial : List ℤ
  pub judgement : Judgement
  pub factor : Fraction

abbrev pub ranked_trial : List ℤ → Judgement → RankedTrial
ranked_trial Y j = record { trial = Y; judgement = j; factor = deciding_factor j }

-- as code holds it: the trial, with what it leaves of the rows, stands beside what is kept of the best one
abbrev pub ranked_from : BestTrial → MeasuredTrial → RankedTrial
ranked_from b t = record { trial = t.figures; judgement = judgement_from b.conclusion t.residuals t.reaches; factor = b.numerator over b.denominator }

-- it is the last trial t where it is that one, and the other, u, otherwise
abbrev pub best_from : BestTrial → MeasuredTrial → MeasuredTrial → RankedTrial
best_from b t u = ranked_from b (cond b.last t u)

-- before the first round no trial is ranked, whatever stands in the best one's place
abbrev pub unranked : MeasuredTrial → RankedTrial
unranked t = record { trial = t.figures; judgement = nothing_said_yet t.residuals t.reaches; factor = 0 over 0 }

-- whether a trial with the factor g replaces the best of k trials before it, whose factor is f: a later one only where its factor is less
abbrev pub replaces : ℕ → Fraction → Fraction → Bool
replaces zero f g = true
replaces (suc k) f g = less g f

abbrev pub better_trial : ℕ → RankedTrial → RankedTrial → RankedTrial
better_trial k b c = cond (replaces k b.factor c.factor) c b

-- the best trial after one more, Y with what is said of it, behind k others of which b is the best: only an unmet trial is ranked
abbrev pub ranked : ℕ → RankedTrial → List ℤ → Judgement → RankedTrial
ranked k b Y j = cond j.met b (better_trial k b (ranked_trial Y j))

-- and after a round that comes to p: a trial that leaves its limits is not ranked
abbrev pub best_after : ℕ → RankedTrial → Progress → RankedTrial
best_after k b p = cond p.within (ranked k b p.trial p.judgement) b

-- the best trial of the rounds 1 to K
abbrev pub best_of_rounds : List (List ℤ) → List ℕ → System → ℕ → ℕ → RankedTrial
best_of_rounds w o s D K = ranked_trial (trial_of_round w o s D (best_round w o s D K)) (judgement_of_round w o s D (best_round w o s D K))
