-- Definitions only.
-- A system of linear equations with tolerances, a trial answer, and what the trial leaves of each row: the quantities of Theorem 7.3 of
-- document 001, in whole numbers.
use Rattle.std.specs.Prelude.{ℕ, ◌+◌, ◌*◌, ℤ, pos, ◌-ℤ◌, ◌*ℤ◌, get_or, replicate, List}
use Rattle.limits.specs.Limits.{most_tanks}
use Rattle.rows.specs.Block.{Block, block}
use Rattle.integers.specs.Tables.{filled}
use Rattle.judge.specs.RowSums.{product_sum, weight_sum}

-- A row: Σ A(j) x(j) = b, where A(j) is known within ± E(j) and b within ± f.
pub record Row : Type 0 where
  pub A : ℕ → ℤ
  pub E : ℕ → ℕ
  pub b : ℤ
  pub f : ℕ

-- A trial answer over n tanks: x(j) = Y(j) / D.
pub record Trial : Type 0 where
  pub n : ℕ
  pub D : ℕ
  pub Y : ℕ → ℤ

-- the residual r = b − A y of Theorem 7.3, times D: R of document 01
unfoldable pub residual : Row → Trial → ℤ
residual r t = pos t.D *ℤ r.b -ℤ product_sum r.A t.Y t.n

-- the denominator E |y| + f of equation 7.8, times D: T of document 01, the row's reach
unfoldable pub reach : Row → Trial → ℕ
reach r t = t.D * r.f + weight_sum r.E t.Y t.n

-- n rows over n tanks. Past a list's end a figure reads as 0.
pub record System : Type 0 where
  pub n : ℕ
  pub rows : Block

abbrev pub system : ℕ → List ℤ → List ℕ → List ℤ → List ℕ → System
system n A E b f = record { n = n; rows = block A E b f }

-- the coefficients, and the tolerances, that stand in a list from a place on
abbrev pub coefficients_from : ℕ → List ℤ → ℕ → ℤ
coefficients_from from A j = get_or A (from + j) (pos 0)

abbrev pub tolerances_from : ℕ → List ℕ → ℕ → ℕ
tolerances_from from E j = get_or E (from + j) 0

-- the row whose coefficients and tolerances stand in two lists from a place on
abbrev pub row_from : ℕ → List ℤ → List ℕ → ℤ → ℕ → Row
row_from from A E b f = record { A = coefficients_from from A; E = tolerances_from from E; b = b; f = f }

-- row i, counted from 0
abbrev pub row : System → ℕ → Row
row s i = row_from (i * s.n) s.rows.A s.rows.E (get_or s.rows.b i (pos 0)) (get_or s.rows.f i 0)

-- the figures Y of a list
abbrev pub trial_figures : List ℤ → ℕ → ℤ
trial_figures Y j = get_or Y j (pos 0)

-- the trial of these figures, over n tanks and the scale D
abbrev pub trial : ℕ → ℕ → List ℤ → Trial
trial n D Y = record { n = n; D = D; Y = trial_figures Y }

-- the trial whose figures are all zero
abbrev pub zero_trial : ℕ → ℕ → Trial
zero_trial n D = trial n D (replicate most_tanks (pos 0))

-- D b of each row in eight places: the zero trial's residuals, by `zero_residuals` in ZeroTrial
abbrev pub scaled_right_sides : ℕ → ℕ → List ℤ → List ℤ
scaled_right_sides n D b = filled most_tanks n (pos 0) (λ i. pos D *ℤ get_or b i (pos 0))
