-- The solution by the elimination's outcome and the rounds allowed, as the code finds it. Assumes nothing.
use Rattle.std.specs.Prelude.{ℕ, ◌^◌, ◌≤◌, ℤ, List, ◌≡◌, refl, Err}
use Rattle.std.proofs.Common.{ap, sym}
use Rattle.limits.specs.Limits.{most_tanks}
use Rattle.integers.specs.TableLaws.{zeros_within}
use Rattle.integers.specs.Tables.{Within}
use Rattle.judge.specs.System.{System}
use Rattle.elimination.proofs.Factors.{factors}
use Rattle.elimination.proofs.Order.{permutation}
use Rattle.elimination.specs.Outcome.{outcome, complete, zero_pivot}
use Rattle.elimination.proofs.OutcomeLaws.{complete_steps}
use Rattle.elimination.specs.Steps.{eliminated}
use Rattle.outcome.proofs.Laws.{same_status}
use Rattle.outcome.specs.Outcome.{status_number}
use Rattle.outcome.specs.declared.Refusal.TheVariants.{ZeroPivot}
use Rattle.solver.specs.Limits.{Eliminated, Resumable}
use Rattle.solver.specs.Refinement.{Progress, start}
use Rattle.solver.specs.Solution.{Solution, solution_from, refused_solution, solved, solution, SolutionIs}
use Rattle.solver.specs.declared.Unsolved.{Unsolved}

module _ (s : System) (D : ℕ) where
  pub start_resumable : (p : Progress) → p ≡ start s D → Resumable s D p
  start_resumable p e = rw e (record { figures = zeros_within most_tanks; residuals_are = refl })

  -- ---- by the elimination's outcome

  module _ (w : List (List ℤ)) (o : List ℕ) (working_is : w ≡ (eliminated s.n s.rows.A).working) (order_is : o ≡ (eliminated s.n s.rows.A).order)
      (all_steps : outcome s.n (eliminated s.n s.rows.A).steps ≡ complete) where
    pub eliminated_whole : s.n ≤ most_tanks → Within (2 ^ 15) s.rows.A → Eliminated s.n w o
    eliminated_whole h a =
        rw (working_is, order_is) (record {
          factors = factors s.n s.rows.A h a (complete_steps s.n (eliminated s.n s.rows.A).steps all_steps);
          order = permutation s.n s.rows.A h;
        })

    pub solution_solved : (K : ℕ) → solved w o s D K ≡ solution s D K
    unfolding solution
    solution_solved K = rw (all_steps, working_is, order_is)

  pub solution_refused : (K k : ℕ) (p : Progress) → p ≡ start s D → outcome s.n (eliminated s.n s.rows.A).steps ≡ zero_pivot k → refused_solution ZeroPivot p ≡ solution s D K
  unfolding solution
  solution_refused K k p f e = rw (e, f)

-- ---- what is promised of a solution is that it is the one defined

module _ (r x : Solution) where
  pub solution_promised : r ≡ x → SolutionIs r x
  solution_promised e =
      record {
        number = ap (λ (y : Solution). status_number y.status) e;
        rounds = ap (λ (y : Solution). y.rounds) e;
        trial = ap (λ (y : Solution). y.trial) e;
        judgement = ap (λ (y : Solution). y.judgement) e;
      }

  pub same_solution : SolutionIs r x → r ≡ x
  same_solution h =
      λ i. record {
        status = same_status r.status x.status h.number i;
        rounds = h.rounds i;
        trial = h.trial i;
        judgement = h.judgement i;
      }

-- an error is the refusal, whatever trial, residuals and reaches stand beside it
pub refused_is : (u : Unsolved) (p : Progress) → p.rounds ≡ u.rounds
    → SolutionIs (solution_from (Err u) (record { figures = p.trial; residuals = p.judgement.residuals; reaches = p.judgement.reaches })) (refused_solution u.refusal p)
refused_is u p e = record { number = refl; rounds = sym e; trial = refl; judgement = refl }

-- and so of one that is equal to it
pub promised_also : {r x y : Solution} → SolutionIs r x → x ≡ y → SolutionIs r y
promised_also h e = rw (← e) h
