-- Definitions only.
-- Which trial is kept where none is met: document 02's "the one with the least factor; trials without a factor rank behind all others, and the
-- earliest of equals is taken". Rounds are counted from 1.
use Rattle.std.specs.Prelude.{ℕ, suc, ℤ, List}
use Rattle.fractions.specs.Fraction.{Fraction}
use Rattle.fractions.specs.Least.{first_least}
use Rattle.judge.specs.Judgement.{deciding_factor}
use Rattle.judge.specs.System.{System}
use Rattle.solver.specs.Refinement.{judgement_of_round}

-- the factor of the trial of round k, which is that of the row that decides. Without a factor it is a fraction over 0, which is above every other
abbrev pub factor_of_round : List (List ℤ) → List ℕ → System → ℕ → ℕ → Fraction
factor_of_round w o s D k = deciding_factor (judgement_of_round w o s D k)

-- of the rounds 1 to K, the first whose trial has the least factor
unfoldable pub best_round : List (List ℤ) → List ℕ → System → ℕ → ℕ → ℕ
best_round w o s D K = suc (first_least (λ i. factor_of_round w o s D (suc i)) K)
