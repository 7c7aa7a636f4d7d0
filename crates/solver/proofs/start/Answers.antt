-- `solver::start` meets its contract. The loop's invariant: the first i residuals are formed. D × b of each row is what the zero trial leaves.
-- Assumes nothing.
use borrow.Author.Rules.{rules}
use lib.IntN.{ℤ, pos, ◌*ℤ◌}
use lib.ListN.{get_or}
use mathlib.Core.Path.{◌≡◌, refl, ap, ◌∙◌}
use mir.Facts.{to_z-of_z}
use mir.Syntax.{w32, w64}
use mir.Val.{SFits, to_z, of_z}
use native.Mathlib.Omega.{arith}
use Rattle.integers.specs.Size.{sfits_size}
use Rattle.fractions.specs.Fraction.{◌over◌}
use Rattle.judge.specs.Judgement.{Judgement, residual_vector}
use Rattle.judge.specs.Places.{filling_begun, filling_turn, filling_ended}
use Rattle.judge.specs.System.{system, zero_trial}
use Rattle.judge.proofs.ZeroTrial.{zero_residuals}
use Rattle.solver.proofs.start.Goals as goal

pub loop-i-init : goal.loop-i-init
loop-i-init c = (filling_begun, refl, refl)

pub loop-i-preserved : goal.loop-i-preserved
loop-i-preserved c =
    let q = c.args.equations.now in
    let b : ℤ = get_or q.right_hand_side.values c.loop-i.i (pos 0) in
    let fits_b : SFits w32 b = search rules in
    let r : c.scaled.result ≡ pos q.scale *ℤ b = rw (to_z-of_z fits_b) at c.scaled.ensures.0 in
    let e : to_z w64 (of_z w64 c.scaled.result) ≡ c.scaled.result = to_z-of_z {w = w64} (sfits_size (omega (arith, c.scaled.ensures.1))) in
    (filling_turn c.loop-i.invariant.0 q.small c.loop-i-test.true (e ∙ r), c.loop-i.invariant.1, c.loop-i.invariant.2)

pub returns-clause-progress : goal.returns-clause-progress
returns-clause-progress c A E =
    let q = c.args.equations.now in
    let s = system q.n A E q.right_hand_side.values q.right_hand_side.tolerances in
    let residuals_are : c.loop-i.trial.residuals ≡ residual_vector s (zero_trial q.n q.scale) =
    filling_ended c.loop-i.invariant.0 c.loop-i-test.false ∙ zero_residuals s q.scale in
    rw (c.nothing_said-conclusion.ensures c.loop-i.trial.residuals c.loop-i.trial.reaches, residuals_are, c.loop-i.invariant.1, c.loop-i.invariant.2)

pub returns-clause-best : goal.returns-clause-best
returns-clause-best c =
    (refl, λ t. ap (λ (j : Judgement). record { trial = t.figures; judgement = j; factor = 0 over 0 }) (c.nothing_said-conclusion.ensures t.residuals t.reaches))
