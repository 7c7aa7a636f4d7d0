-- `solver::refine` meets its contract. The loop's invariant: the rounds made, of all, with the best of their trials beside the last.
-- Assumes nothing.
use Prim.Native.Nat.{◌<◌, ◌-◌, ◌+◌}
use mathlib.Core.Path.{◌≡◌, sym, ◌∙◌}
use native.Mathlib.Omega.{arith}
use Rattle.judge.specs.Equations.{system_of}
use Rattle.solver.proofs.RoundsMade.{none_made, all_made, one_more_made, ended_made}
use Rattle.solver.proofs.refine.Goals as goal

pub loop-init : goal.loop-init
loop-init c =
    let all : c.args.rounds - 0 ≡ c.args.rounds = omega arith in
    (omega arith, rw all (none_made _ _ (system_of c.args.equations.now) _ _ _ _ (c.start-state.ensures.progress _ _)))

pub loop-preserved : goal.loop-preserved
loop-preserved c =
    let l = c.loop in
    let k = c.args.rounds in
    let r = c.round-state.ensures in
    let some : 0 < k - l.counter = omega arith in
    let left : k - l.counter - 1 ≡ k - (l.counter + 1) = omega arith in
    (omega arith, rw left at (one_more_made _ _ _ _ _ _ _ _ _ l.invariant.1 some r.progress _ r.best (sym c.ended.ensures ∙ c.if-ended.false)))

pub returns-then-ended-clause-progress : goal.returns-then-ended-clause-progress
returns-then-ended-clause-progress c =
    let l = c.loop in
    let some : 0 < c.args.rounds - l.counter = omega arith in
    ended_made _ _ _ _ _ _ _ _ _ l.invariant.1 some c.round-state.ensures.progress (sym c.ended.ensures ∙ c.if-ended.true)

pub returns-clause-progress : goal.returns-clause-progress
returns-clause-progress c =
    let none : c.args.rounds - c.loop.counter ≡ 0 = omega arith in
    (all_made _ _ _ _ _ _ _ (rw none at c.loop.invariant.1)).0
