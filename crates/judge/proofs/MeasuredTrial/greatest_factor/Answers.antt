-- `judge::MeasuredTrial::greatest_factor` meets its contract. The loop's invariant: the place held is that of the first greatest factor below i.
-- Assumes nothing.
use Rattle.std.specs.Prelude.{ℕ, zero, suc, ◌+◌, ◌≤◌, max, Bool, cond, ◌≡◌}
use Rattle.std.proofs.Common.{sym, ◌∙◌, arith}
use Rattle.fractions.specs.Fraction.{Fraction, order}
use Rattle.fractions.specs.Greatest.{is_greater_order, greater, first_greatest}
use Rattle.fractions.proofs.FirstLaws.{first_none, first_one, first_next}
use Rattle.judge.proofs.MeasuredTrial.greatest_factor.Invariants.{factor_of}
use Rattle.judge.proofs.MeasuredTrial.greatest_factor.Goals.{then-exceeds, else-exceeds}
use Rattle.judge.proofs.MeasuredTrial.greatest_factor.Goals as goal

pub loop-i-init : goal.loop-i-init
loop-i-init c = (omega arith, omega arith, sym (first_one greater (factor_of c.args.self.now)))

-- one factor more
next : (g : ℕ → Fraction) (i best : ℕ) (b : Bool) → best ≡ first_greatest g i → b ≡ is_greater_order (order (g i) (g best))
    → cond b i best ≡ first_greatest g (i + 1)
next g i best b e h = rw (first_next greater g i, ← e, ← h)

pub loop-i-preserved : goal.loop-i-preserved
loop-i-preserved c =
    let l = c.loop-i in
    let r = c.row.ensures in
    let s = c.row-in-loop-i.ensures in
    let chosen =
    next (factor_of c.args.self.now) l.i l.best c.exceeds.result l.invariant.2 (rw (r.residual, r.reach, s.residual, s.reach) at c.exceeds.ensures) in
    elim c.if-exceeds.branch [
      | then-exceeds w ↦ (omega arith, omega arith, w.best-is ∙ (rw (w.if-exceeds.true) at chosen))
      | else-exceeds w ↦ (omega arith, omega arith, w.best-is ∙ (rw (w.if-exceeds.false) at chosen))
    ]

-- at the loop's end i is n, or 1 where n is 0
last : (g : ℕ → Fraction) (n i : ℕ) → 1 ≤ i → i ≤ max 1 n → n ≤ i → first_greatest g i ≡ first_greatest g n
last g zero i h k l = let e : i ≡ 1 = omega arith in rw e (first_one greater g ∙ sym (first_none greater g))
last g (suc n) i h k l = let e : i ≡ suc n = omega arith in rw e

pub returns : goal.returns
returns c = c.loop-i.invariant.2 ∙ last (factor_of c.args.self.now) c.args.n c.loop-i.i (omega arith) (omega arith) (omega arith)
