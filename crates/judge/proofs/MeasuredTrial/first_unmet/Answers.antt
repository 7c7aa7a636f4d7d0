-- `judge::MeasuredTrial::first_unmet` meets its contract. The loop's invariant: no row below i is unmet. Assumes nothing.
use Rattle.std.specs.Prelude.{ℕ, ◌+◌, Bool, true, false, ◌≡◌}
use Rattle.std.proofs.Common.{rules, sym, ◌∙◌, arith, add-one}
use Rattle.judge.specs.Judgement.{first_not}
use Rattle.judge.proofs.Laws.{first_not_more, first_not_here, first_not_stays}
use Rattle.judge.proofs.MeasuredTrial.first_unmet.Invariants.{test}
use Rattle.judge.proofs.MeasuredTrial.first_unmet.Goals as goal

pub loop-i-init : goal.loop-i-init
unfolding first_not
loop-i-init c = search rules

pub returns-then-not-is_met : goal.returns-then-not-is_met
returns-then-not-is_met c =
    let i = c.loop-i.i in
    let p : ℕ → Bool = test c.args.self.now in
    let t : p i ≡ false = rw (c.row.ensures.residual, c.row.ensures.reach) at (sym c.is_met.ensures ∙ c.if-not-is_met.true) in
    let h = first_not_here p i c.loop-i.invariant t in
    sym (first_not_stays p (i + 1) c.args.n i (omega arith) (h ∙ add-one i) ∙ sym (add-one i))

pub loop-i-preserved : goal.loop-i-preserved
loop-i-preserved c =
    let i = c.loop-i.i in
    let p : ℕ → Bool = test c.args.self.now in
    let t : p i ≡ true = rw (c.row.ensures.residual, c.row.ensures.reach) at (sym c.is_met.ensures ∙ c.if-not-is_met.false) in
    first_not_more p i c.loop-i.invariant t
