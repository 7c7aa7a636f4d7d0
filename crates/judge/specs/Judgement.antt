-- Definitions only.
-- The judgement of a trial: document 01's "Judgement", row by row in the system's own order.
use Rattle.std.specs.Prelude.{ℕ, zero, suc, ◌-◌, leb, eqb, ℤ, pos, nat_abs, get_or, Bool, cond, not, ◌&&◌, List}
use Rattle.limits.specs.Limits.{most_tanks}
use Rattle.integers.specs.Tables.{filled}
use Rattle.fractions.specs.Fraction.{◌over◌, Fraction}
use Rattle.fractions.specs.Greatest.{first_greatest}
use Rattle.judge.specs.System.{Trial, System, residual, reach, row}
use Rattle.judge.specs.declared.Conclusion.{Conclusion}

-- What a trial leaves of the rows: the first unmet one, counted from 1, or 0, and residual and reach of each, in eight places.
pub record Measurement : Type 0 where
  pub unmet : ℕ
  pub residuals : List ℤ
  pub reaches : List ℕ

-- What is said of a trial: whether every row is met, the first that is not, whether some row has no factor, and the row that decides, rows counted
-- from 1; with residual and reach of each row.
pub record Judgement : Type 0 where
  pub met : Bool
  pub unmet : ℕ
  pub none : Bool
  pub decides : ℕ
  pub residuals : List ℤ
  pub reaches : List ℕ

-- the same from what code returns and the lists that it was lent
abbrev pub measurement_from : ℕ → List ℤ → List ℕ → Measurement
measurement_from unmet residuals reaches = record { unmet = unmet; residuals = residuals; reaches = reaches }

abbrev pub judgement_from : Conclusion → List ℤ → List ℕ → Judgement
judgement_from c residuals reaches =
    record { met = c.met; unmet = c.unmet; none = c.none; decides = c.decides; residuals = residuals; reaches = reaches }

-- "A row is met exactly if |R| is at most T."
abbrev pub row_met : ℤ → ℕ → Bool
row_met R T = leb (nat_abs R) T

-- the row's component |R| / T of the backward error, equation 7.8: the row's factor in document 01. It is 0 where both are 0, and there is
-- none where only T is 0: such a fraction is above every other
abbrev pub factor : ℤ → ℕ → Fraction
factor R T = nat_abs R over T

abbrev pub no_factor : ℤ → ℕ → Bool
no_factor R T = eqb T 0 && not (eqb (nat_abs R) 0)

-- the first of the first n places at which p does not hold, counted from 1; 0 where it holds at all
abbrev pub or_else : ℕ → ℕ → ℕ
or_else zero m = m
or_else (suc k) m = suc k

unfoldable pub first_not : (ℕ → Bool) → ℕ → ℕ
first_not p zero = 0
first_not p (suc k) = or_else (first_not p k) (cond (p k) 0 (suc k))

-- the first unmet row, counted from 1, or 0
unfoldable pub first_unmet_row : System → Trial → ℕ
first_unmet_row s t = first_not (λ i. row_met (residual (row s i) t) (reach (row s i) t)) s.n

-- residual and reach of each row, in eight places
abbrev pub residual_vector : System → Trial → List ℤ
residual_vector s t = filled most_tanks s.n (pos 0) (λ i. residual (row s i) t)

abbrev pub reach_vector : System → Trial → List ℕ
reach_vector s t = filled most_tanks s.n 0 (λ i. reach (row s i) t)

-- of a trial for a system
abbrev pub measurement : System → Trial → Measurement
measurement s t = measurement_from (first_unmet_row s t) (residual_vector s t) (reach_vector s t)

-- the row that decides, counted from 0, of n rows whose residuals and reaches stand in eight places: the first that has no factor, or the first
-- with the greatest
unfoldable pub deciding_place : ℕ → Measurement → ℕ
deciding_place n p = first_greatest (λ i. factor (get_or p.residuals i (pos 0)) (get_or p.reaches i 0)) n

-- what is said of n rows by what a trial leaves of them: met where none is unmet, and none where the row that decides has no factor
unfoldable pub concluded : ℕ → Measurement → Judgement
concluded n p =
    record {
      met = eqb p.unmet 0;
      unmet = p.unmet;
      none = no_factor (get_or p.residuals (deciding_place n p) (pos 0)) (get_or p.reaches (deciding_place n p) 0);
      decides = suc (deciding_place n p);
      residuals = p.residuals;
      reaches = p.reaches;
    }

-- the whole judgement of a trial. Whoever unfolds it sees what is concluded
unfoldable pub judgement : System → Trial → Judgement
unfolding concluded deciding_place
judgement s t = concluded s.n (measurement s t)

-- residual and reach of the row that decides, and its factor, by which a trial is held against another
abbrev pub deciding_residual : Judgement → ℤ
deciding_residual j = get_or j.residuals (j.decides - 1) (pos 0)

abbrev pub deciding_reach : Judgement → ℕ
deciding_reach j = get_or j.reaches (j.decides - 1) 0

abbrev pub deciding_factor : Judgement → Fraction
deciding_factor j = factor (deciding_residual j) (deciding_reach j)

-- the row that decides, by the rows themselves: the same for at most eight rows (`deciding_is` in Laws)
unfoldable pub deciding : System → Trial → ℕ
deciding s t = first_greatest (λ i. factor (residual (row s i) t) (reach (row s i) t)) s.n
