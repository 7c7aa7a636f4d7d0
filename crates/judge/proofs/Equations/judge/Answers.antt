-- `judge::Equations::judge` meets its contract: the judgement is concluded from the measurement. Assumes nothing.
use mathlib.Core.Path.{ap, ◌∙◌}
use Rattle.judge.specs.Judgement.{judgement, concluded}
use Rattle.judge.proofs.Equations.judge.Goals as goal

pub returns-clause-judgement : goal.returns-clause-judgement
unfolding judgement
returns-clause-judgement c = c.conclude.ensures ∙ ap (concluded c.args.self.now.n) c.measure-unmet.ensures.measurement
