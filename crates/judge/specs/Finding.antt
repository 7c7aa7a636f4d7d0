-- Definitions only.
-- What is said of a trial, by a judgement or by a record's bytes, and what it means that it is justified: the third demand, over the case's
-- figures and unlimited whole numbers.
use Rattle.std.specs.Prelude.{ℕ, suc, ◌*◌, ◌-◌, ◌≤◌, ◌<◌, eqb, ℤ, pos, nat_abs, get_or, Bool, true, false, ◌≡◌}
use Rattle.fractions.specs.Fraction.{ordered_denominator}
use Rattle.judge.specs.Judgement.{Judgement, first_unmet_row, deciding, no_factor}
use Rattle.judge.specs.Perturbation.{Solve, Keep, Possible, PossibleUnder, yielded_perturbation}
use Rattle.judge.specs.System.{System, Trial, row, residual, reach}

-- What is said. The named row `unmet` and the row that `decides` are counted from 1; R and T are the residual and reach said of each row, from 0.
pub record Finding : Type 0 where
  pub met : Bool
  pub unmet : ℕ
  pub none : Bool
  pub decides : ℕ
  pub R : ℕ → ℤ
  pub T : ℕ → ℕ

abbrev pub finding : Judgement → Finding
finding j =
    record {
      met = j.met;
      unmet = j.unmet;
      none = j.none;
      decides = j.decides;
      R = λ i. get_or j.residuals i (pos 0);
      T = λ i. get_or j.reaches i 0;
    }

-- the factor said: |R| / T of the row that decides, taken as 0 / 1 where both are zero
abbrev pub factor_numerator : Finding → ℕ
factor_numerator w = nat_abs (w.R (w.decides - 1))

abbrev pub factor_denominator : Finding → ℕ
factor_denominator w = ordered_denominator (factor_numerator w) (w.T (w.decides - 1))

-- every row has changes within its tolerances; every row has changes under u / v
abbrev pub AllPossible : System → Trial → Type 0
AllPossible s t = (i : ℕ) → i < s.n → Possible (row s i) t

abbrev pub AllUnder : ℕ → ℕ → System → Trial → Type 0
AllUnder u v s t = (i : ℕ) → i < s.n → PossibleUnder u v (row s i) t

-- the first m rows have changes, and the row after them is a row that has none
pub record FirstImpossible (s : System) (t : Trial) (m : ℕ) : Type 0 where
  pub place : m < s.n
  pub impossible : ¬ Possible (row s m) t
  pub before : (i : ℕ) → i < m → Possible (row s i) t

-- u / v is the least factor: it leaves changes for every row, and each that does is at least as large
pub record Least (u v : ℕ) (s : System) (t : Trial) : Type 0 where
  pub proper : 0 < v
  pub attained : AllUnder u v s t
  pub least : (u' v' : ℕ) → 0 < v' → AllUnder u' v' s t → u * v' ≤ u' * v

-- the yielded changes, by the R and T that are said, keep the tolerances and solve the row
pub record Yields (s : System) (t : Trial) (w : Finding) (i : ℕ) : Type 0 where
  pub solve : Solve (row s i) t (yielded_perturbation (row s i) t (w.R i) (w.T i))
  pub keep : Keep (row s i) t (yielded_perturbation (row s i) t (w.R i) (w.T i))

-- The third demand. "Met" exactly if every row has changes within its tolerances, and then the said R and T yield them; where not met, the
-- named row has none and those before it have; a factor said is the least; and none is said exactly if no factor leaves changes for all rows.
pub record Justified (s : System) (t : Trial) (w : Finding) : Type 0 where
  pub met_only : w.met ≡ true → AllPossible s t
  pub met_if : AllPossible s t → w.met ≡ true
  pub met_row : w.met ≡ true → w.unmet ≡ 0
  pub yields : w.met ≡ true → (i : ℕ) → i < s.n → Yields s t w i
  pub unmet_row : w.met ≡ false → (0 < w.unmet) × FirstImpossible s t (w.unmet - 1)
  pub factor : w.none ≡ false → Least (factor_numerator w) (factor_denominator w) s t
  pub none_only : w.none ≡ true → (u v : ℕ) → 0 < v → ¬ AllUnder u v s t
  pub none_if : ((u v : ℕ) → 0 < v → ¬ AllUnder u v s t) → w.none ≡ true
  pub decides_row : (0 < w.decides) × (w.decides ≤ s.n)

-- what is said is the judgement's: what a caller shows of a record's bytes to have it justified
pub record Agrees (s : System) (t : Trial) (w : Finding) : Type 0 where
  pub met : w.met ≡ eqb (first_unmet_row s t) 0
  pub unmet : w.unmet ≡ first_unmet_row s t
  pub none : w.none ≡ no_factor (residual (row s (deciding s t)) t) (reach (row s (deciding s t)) t)
  pub decides : w.decides ≡ suc (deciding s t)
  pub R : (i : ℕ) → i < s.n → w.R i ≡ residual (row s i) t
  pub T : (i : ℕ) → i < s.n → w.T i ≡ reach (row s i) t
