-- `judge::MeasuredTrial::conclude` meets its contract: the deciding row is one of the eight places, and whether it has a factor is read off there. Assumes nothing.
use Prim.Native.Nat.{ℕ, ◌<◌, ◌≤◌}
use mathlib.Core.Path.{◌≡◌}
use native.Mathlib.Omega.{arith}
use Rattle.limits.specs.Limits.{most_tanks}
use Rattle.fractions.specs.Fraction.{Fraction}
use Rattle.fractions.proofs.FirstLaws.{first_below}
use Rattle.fractions.specs.Greatest.{greater, first_greatest}
use Rattle.judge.specs.Judgement.{deciding_place, measurement_from}
use Rattle.judge.proofs.Laws.{conclusion}
use Rattle.judge.proofs.MeasuredTrial.conclude.Goals as goal

-- the deciding row's place is one of the eight
place : (g : ℕ → Fraction) (n at : ℕ) → n ≤ most_tanks → at ≡ first_greatest g n → at < most_tanks
place g n at h e = rw e (first_below greater g n most_tanks h (omega arith))

pub row-requires : goal.row-requires
row-requires c = place _ _ _ c.requires c.greatest_factor-at.ensures

pub overflow_add-result : goal.overflow_add-result
overflow_add-result c = omega (arith, place _ _ _ c.requires c.greatest_factor-at.ensures)

pub returns : goal.returns
unfolding deciding_place
returns c =
    let a = c.args in
    let m = a.self.now in
    let at = c.greatest_factor-at.result in
    let p : at ≡ deciding_place a.n (measurement_from a.unmet m.residuals m.reaches) = c.greatest_factor-at.ensures in
    conclusion a.n a.unmet m.residuals m.reaches at c.lacks_factor.result p (rw (c.row.ensures.residual, c.row.ensures.reach) at c.lacks_factor.ensures)
