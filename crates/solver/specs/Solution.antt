-- Definitions only.
-- The answer of a system, or the refusal: document 01's "The steps" as a whole.
use Rattle.std.specs.Prelude.{ℕ, zero, suc, ℤ, pos, replicate, cond, List, ◌≡◌, Result, Ok, Err}
use Rattle.limits.specs.Limits.{most_tanks}
use Rattle.judge.specs.Judgement.{Judgement, judgement_from, judgement}
use Rattle.judge.specs.System.{System, trial}
use Rattle.judge.specs.declared.MeasuredTrial.{MeasuredTrial}
use Rattle.elimination.specs.Outcome.{Elimination, outcome}
use Rattle.elimination.specs.Steps.{eliminated}
use Rattle.outcome.specs.Outcome.{status_number, Accepted, Status}
use Rattle.outcome.specs.declared.Refusal.{Refusal}
use Rattle.outcome.specs.declared.Refusal.TheVariants.{ZeroPivot, OutsideRange}
use Rattle.solver.specs.RankedTrials.{RankedTrial}
use Rattle.solver.specs.Ranking.{best_round}
use Rattle.solver.specs.Refinement.{Progress, nothing_said_yet, start, refined, trial_of_round}
use Rattle.solver.specs.declared.Kept.{Kept}
use Rattle.solver.specs.declared.Unsolved.{Unsolved}

-- whether there is an answer, or the refusal: no pivot at some step (8), a correction or a figure outside its limits (9), or one from before the steps;
-- the kept trial with its judgement, and the rounds used
pub record Solution : Type 0 where
  pub status : Status
  pub rounds : ℕ
  pub trial : List ℤ
  pub judgement : Judgement

-- the trial Y after k rounds as an answer, with what is said of it; and judged
abbrev pub accepted_solution : ℕ → List ℤ → Judgement → Solution
accepted_solution k Y j = record { status = Accepted; rounds = k; trial = Y; judgement = j }

abbrev pub judged_trial : System → ℕ → ℕ → List ℤ → Solution
judged_trial s D k Y = accepted_solution k Y (judgement s (trial s.n D Y))

abbrev pub refused_solution : Refusal → Progress → Solution
refused_solution r p = record { status = Err r; rounds = p.rounds; trial = p.trial; judgement = nothing_said_yet p.judgement.residuals p.judgement.reaches }

-- as code holds it: the trial, with what it leaves of the rows, stands beside what is answered. Of a refused one nothing is said
abbrev pub solution_from : Result Kept Unsolved → MeasuredTrial → Solution
solution_from (Ok k) t = accepted_solution k.rounds t.figures (judgement_from k.conclusion t.residuals t.reaches)
solution_from (Err u) t = record { status = Err u.refusal; rounds = u.rounds; trial = t.figures; judgement = nothing_said_yet t.residuals t.reaches }

-- where the work ends at p: the last trial if it is met, the best if it is not, or refusal 9
abbrev pub kept_at_end : Progress → Solution → Solution → Solution
kept_at_end p last best = cond p.within (cond p.judgement.met last best) (refused_solution OutsideRange p)

-- which trial is kept of the rounds 1 to K, where the work ends at p: "The first that is met", with its own round; where none is met "the one with the
-- least factor", and "rounds used is then K"
abbrev pub kept_solution : List (List ℤ) → List ℕ → System → ℕ → ℕ → Progress → Solution
kept_solution w o s D K p = kept_at_end p (judged_trial s D p.rounds p.trial) (judged_trial s D K (trial_of_round w o s D (best_round w o s D K)))

-- over one complete elimination, which others may share: its working matrix and the order of its rows. With no round allowed the answer is zero
abbrev pub solved : List (List ℤ) → List ℕ → System → ℕ → ℕ → Solution
solved w o s D zero = judged_trial s D 0 (replicate most_tanks (pos 0))
solved w o s D (suc k) = kept_solution w o s D (suc k) (refined w o s D (suc k) (start s D))

-- the rounds are made where the elimination is complete; refusal 8 comes where it is not
abbrev pub by_elimination : Elimination → Solution → Solution → Solution
by_elimination (Ok _) a b = a
by_elimination (Err e) a b = b

-- the solution of a system over the scale D, in at most K rounds
unfoldable pub solution : System → ℕ → ℕ → Solution
solution s D K =
    by_elimination (outcome s.n (eliminated s.n s.rows.A).steps)
    (solved (eliminated s.n s.rows.A).working (eliminated s.n s.rows.A).order s D K)
    (refused_solution ZeroPivot (start s D))

-- as code finds it, with the best trial b beside the end of the work
abbrev pub kept_of : Progress → RankedTrial → Solution
kept_of p b = kept_at_end p (accepted_solution p.rounds p.trial p.judgement) (accepted_solution p.rounds b.trial b.judgement)

-- ---- what is promised

-- r is the solution x: the status by the paper's number, the rest as it is
pub record SolutionIs (r x : Solution) : Type 0 where
  pub number : status_number r.status ≡ status_number x.status
  pub rounds : r.rounds ≡ x.rounds
  pub trial : r.trial ≡ x.trial
  pub judgement : r.judgement ≡ x.judgement
