use Prim.Native.Nat.{◌-◌, ◌≤◌}
use Rattle.judge.specs.Equations.{system_of}
use Rattle.solver.specs.RankedTrials.{best_from}
use Rattle.solver.specs.Refinement.{progress_from}
use Rattle.solver.proofs.RoundsMade.{RoundsMade}
use Rattle.solver.proofs.refine.Given as goal

abbrev pub invariant-loop : goal.invariant-loop
invariant-loop l =
    (l.counter ≤ l.rounds)
    × RoundsMade l.eliminated.working l.eliminated.order (system_of l.equations) l.equations.scale l.rounds (l.rounds - l.counter)
    (progress_from l.state l.trial) (best_from l.state.best l.trial l.best)
