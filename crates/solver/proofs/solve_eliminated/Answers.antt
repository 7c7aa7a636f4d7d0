-- `solver::solve_eliminated` meets its contract: what the rounds leave is kept. Assumes nothing.
use native.Mathlib.Omega.{arith}
use Prim.Native.Nat.{◌<◌}
use Rattle.judge.specs.Equations.{system_of}
use Rattle.solver.proofs.Endings.{kept_solved}
use Rattle.solver.proofs.Outcomes.{promised_also}
use Rattle.solver.specs.RankedTrials.{best_from}
use Rattle.solver.specs.Refinement.{progress_from}
use Rattle.solver.proofs.solve_eliminated.Goals as goal

pub returns : goal.returns
returns c =
    let g = c.args in
    let r = c.refine-state in
    let some : 0 < g.rounds = omega arith in
    promised_also c.keep.ensures
    (kept_solved g.eliminated.now.working g.eliminated.now.order (system_of g.equations.now) g.equations.now.scale g.rounds
    (progress_from r.result r.new.trial)
    (best_from r.result.best r.new.trial r.new.best)
    some r.ensures.progress (r.ensures.best some))
