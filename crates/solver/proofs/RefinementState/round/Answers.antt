-- `solver::RefinementState::round` meets its contract: the residuals that stand beside the trial are the trial's, and the next trial's take their places;
-- it is ranked beside the best. Assumes nothing.
use mathlib.Core.Path.{ap, ◌∙◌}
use Rattle.judge.specs.Equations.{system_of}
use Rattle.solver.proofs.RoundLaws.{decides_some, round_judged, round_left}
use Rattle.solver.proofs.RankingLaws.{not_last, stored_is, refused_not_ranked}
use Rattle.solver.specs.Refinement.{Progress, progress_from}
use Rattle.solver.proofs.Sizes.{updatable}
use Rattle.solver.proofs.RefinementState.round.Goals as goal

pub update_trial-requires : goal.update_trial-requires
update_trial-requires c =
    let g = c.args in
    updatable _ _ (system_of g.equations.now) g.equations.now.scale (progress_from g.self g.trial.now) c.requires c.type_ranges.ensures

pub rank-best-requires : goal.rank-best-requires
rank-best-requires c =
    let m = c.measure-unmet.ensures in
    decides_some _ _ (system_of c.args.equations.now) _ _ c.requires _ c.update_trial.ensures.figures
    _ _ _ m.figures m.measurement c.conclude-conclusion.ensures

pub returns-then-update_trial-clause-progress : goal.returns-then-update_trial-clause-progress
returns-then-update_trial-clause-progress c =
    let m = c.measure-unmet.ensures in
    round_judged _ _ (system_of c.args.equations.now) _ _ c.requires _ c.update_trial.ensures.figures
    _ _ _ m.figures m.measurement c.conclude-conclusion.ensures c.if-update_trial.true

pub returns-else-update_trial-clause-progress : goal.returns-else-update_trial-clause-progress
returns-else-update_trial-clause-progress c =
    let u = c.update_trial in
    rw (c.refused_round.ensures.progress u.new.trial, u.ensures.residuals, u.ensures.reaches)
    (round_left _ _ (system_of c.args.equations.now) _ (progress_from c.args.self c.args.trial.now) c.requires _ u.ensures.figures c.if-update_trial.false)

pub returns-else-update_trial-clause-best : goal.returns-else-update_trial-clause-best
returns-else-update_trial-clause-best c =
    let g = c.args in
    let u = c.update_trial.new.trial in
    let r = c.refused_round in
    let stored = c.copy_trial_if.new.to in
    not_last r.result.best u stored r.ensures.best.0
    ∙ r.ensures.best.1 stored
    ∙ stored_is g.self.best g.trial.now g.best.now c.copy_trial_if.ensures
    ∙ refused_not_ranked g.self.rounds _ (progress_from r.result u) (ap (λ (x : Progress). x.within) (r.ensures.progress u))
