-- `solver::BestTrial::rank` meets its contract: a met trial is not ranked, and an unmet one takes the best one's place or does not. Assumes nothing.
use Prim.Native.Nat.{ℕ, ◌-◌}
use borrow.Author.Rules.{rules}
use lib.IntN.{pos}
use lib.ListN.{get_or}
use mathlib.Core.Path.{◌≡◌, sym, ap, ◌∙◌}
use mir.Facts.{to_z-of_z}
use mir.Syntax.{w64}
use mir.Val.{SFits}
use Rattle.fractions.specs.Fraction.{◌over◌}
use Rattle.judge.specs.Judgement.{Judgement, judgement_from, deciding_factor}
use Rattle.solver.specs.RankedTrials.{ranked_from}
use Rattle.solver.proofs.RankingLaws.{not_last, met_not_ranked, not_taken}
use Rattle.solver.proofs.BestTrial.rank.Goals as goal

pub returns-then-conclusion : goal.returns-then-conclusion
returns-then-conclusion c b =
    let g = c.args in
    let t = g.trial.now in
    not_last c.stored.result t b c.stored.ensures.0
    ∙ c.stored.ensures.1 b
    ∙ met_not_ranked g.others (ranked_from g.self b) t.figures (judgement_from g.conclusion t.residuals t.reaches) c.if-conclusion.true

pub returns-else-replaced : goal.returns-else-replaced
returns-else-replaced c b =
    let g = c.args in
    let t = g.trial.now in
    let said : Judgement = judgement_from g.conclusion t.residuals t.reaches in
    let at : ℕ = g.conclusion.decides - 1 in
    let fits : SFits w64 (get_or t.residuals at (pos 0)) = search rules in
    let factor_is : (c.magnitude-numerator.result over get_or t.reaches at 0) ≡ deciding_factor said =
    ap (λ (x : ℕ). x over get_or t.reaches at 0) (rw (to_z-of_z fits) at c.magnitude-numerator.ensures) in
    let s = c.stored-else-replaced in
    not_last s.result t b s.ensures.0
    ∙ s.ensures.1 b
    ∙ not_taken g.others (ranked_from g.self b) t.figures said _ c.if-conclusion.false factor_is (sym c.replaced.ensures ∙ c.if-replaced.false)
