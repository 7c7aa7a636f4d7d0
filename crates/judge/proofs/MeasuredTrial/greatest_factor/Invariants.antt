use Prim.Native.Nat.{ℕ, ◌-◌, ◌≤◌, ◌<◌, max}
use lib.IntN.{pos}
use lib.ListN.{get_or}
use mathlib.Core.Path.{◌≡◌}
use Rattle.limits.specs.Limits.{most_tanks}
use Rattle.fractions.specs.Fraction.{Fraction}
use Rattle.fractions.specs.Greatest.{first_greatest}
use Rattle.judge.specs.Judgement.{factor}
use Rattle.judge.specs.declared.MeasuredTrial.{MeasuredTrial}
use Rattle.judge.proofs.MeasuredTrial.greatest_factor.Given as goal

-- the factor of row i
abbrev pub factor_of : MeasuredTrial → ℕ → Fraction
factor_of t i = factor (get_or t.residuals i (pos 0)) (get_or t.reaches i 0)

abbrev pub invariant-loop-i : goal.invariant-loop-i
invariant-loop-i l = (l.i ≤ max 1 l.n) × (l.best < most_tanks) × (l.best ≡ first_greatest (factor_of l.self) l.i)

abbrev pub decreases-loop-i : goal.decreases-loop-i
decreases-loop-i l = l.n - l.i
