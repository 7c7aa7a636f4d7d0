-- `solver::solve` meets its contract: the answer is that over a complete elimination, or refusal 8 is told.
-- Assumes nothing.
use mathlib.Core.Path.{sym, ap, ◌∙◌}
use Rattle.judge.specs.Equations.{system_of}
use Rattle.elimination.proofs.OutcomeLaws.{answer_is}
use Rattle.solver.proofs.Outcomes.{eliminated_whole, solution_solved, solution_refused, promised_also, refused_is}
use Rattle.solver.specs.Refinement.{Progress, progress_from}
use Rattle.solver.proofs.solve.Goals as goal

pub solve_eliminated-requires : goal.solve_eliminated-requires
solve_eliminated-requires c =
    let q = c.args.equations.now in
    let e = c.eliminate.ensures in
    record {
      limits = c.requires;
      eliminated =
          eliminated_whole (system_of q) q.scale _ _ e.working_is e.order_is (sym (answer_is e) ∙ c.in-Ok.is) c.requires.small
          c.type_ranges.ensures.coefficients;
    }

pub returns-in-Ok : goal.returns-in-Ok
returns-in-Ok c =
    let q = c.args.equations.now in
    let e = c.eliminate.ensures in
    promised_also c.solve_eliminated.ensures
    (solution_solved (system_of q) q.scale _ _ e.working_is e.order_is (sym (answer_is e) ∙ c.in-Ok.is) c.args.rounds)

pub returns-in-Err : goal.returns-in-Err
returns-in-Err c =
    let q = c.args.equations.now in
    let first = progress_from c.start.result c.start.new.trial in
    let first_is = c.start.ensures.progress _ _ in
    promised_also (refused_is _ first (ap (λ (p : Progress). p.rounds) first_is))
    (solution_refused (system_of q) q.scale c.args.rounds _ first first_is (sym (answer_is c.eliminate.ensures) ∙ c.in-Err.is))
