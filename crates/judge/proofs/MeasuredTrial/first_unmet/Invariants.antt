use Prim.Native.Nat.{ℕ, ◌-◌}
use lib.IntN.{pos}
use lib.ListN.{get_or}
use mathlib.Core.Bool.{Bool}
use mathlib.Core.Path.{◌≡◌}
use Rattle.judge.specs.Judgement.{row_met, first_not}
use Rattle.judge.specs.declared.MeasuredTrial.{MeasuredTrial}
use Rattle.judge.proofs.MeasuredTrial.first_unmet.Given as goal

-- the test of row i
abbrev pub test : MeasuredTrial → ℕ → Bool
test t i = row_met (get_or t.residuals i (pos 0)) (get_or t.reaches i 0)

abbrev pub invariant-loop-i : goal.invariant-loop-i
invariant-loop-i l = first_not (test l.self) l.i ≡ 0

abbrev pub decreases-loop-i : goal.decreases-loop-i
decreases-loop-i l = l.n - l.i
