-- How large residuals and reaches can be, by the sizes of the figures: |R| ≤ D b + n (a y), T ≤ D f + n (e y). Assumes nothing.
use Rattle.std.specs.Prelude.{ℕ, ◌+◌, ◌*◌, ◌≤◌, ℤ, pos, nat_abs, ◌*ℤ◌, get_or}
use Rattle.std.proofs.Common.{mul-le-mul}
use Rattle.std.proofs.Math.Nat.{mul-le-mul_left}
use native.Mathlib.Omega.{arith}
use Rattle.limits.specs.Limits.{most_tanks}
use Rattle.integers.specs.Size.{nat_abs-*ℤ, nat_abs_sub_ℤ, product_ok}
use Rattle.integers.proofs.SumLaws.{sum_bound, total_bound}
use Rattle.integers.specs.TableLaws.{all_filled}
use Rattle.judge.specs.Judgement.{measurement}
use Rattle.judge.specs.RowSums.{product_sum}
use Rattle.judge.specs.System.{System, Trial, row, residual, reach}

-- coefficients of at most a, right-hand sides of at most b, figures of at most y
module _ (s : System) (t : Trial) (a b y : ℕ)
    (coefficients : (j : ℕ) → nat_abs (get_or s.rows.A j (pos 0)) ≤ a)
    (right_sides_lem : (j : ℕ) → nat_abs (get_or s.rows.b j (pos 0)) ≤ b)
    (figures : (j : ℕ) → nat_abs (t.Y j) ≤ y) where
  pub residual_size : (i : ℕ) → nat_abs (residual (row s i) t) ≤ t.D * b + t.n * (a * y)
  unfolding residual
  residual_size i =
      omega (
        arith,
        nat_abs_sub_ℤ (pos t.D *ℤ (row s i).b) (product_sum (row s i).A t.Y t.n),
        nat_abs-*ℤ (pos t.D) (row s i).b,
        mul-le-mul_left t.D (right_sides_lem i),
        sum_bound t.n (a * y) (λ j. (row s i).A j *ℤ t.Y j) (λ j l. product_ok ((row s i).A j) (t.Y j) a y (coefficients (i * s.n + j)) (figures j)),
      )

  -- the same of every residual that a measurement holds
  pub measurement_size : (i : ℕ) → nat_abs (get_or (measurement s t).residuals i (pos 0)) ≤ t.D * b + t.n * (a * y)
  measurement_size =
      all_filled (λ (z : ℤ). nat_abs z ≤ t.D * b + t.n * (a * y)) (pos 0) (omega arith) most_tanks s.n (λ i. residual (row s i) t) (λ i l. residual_size i)

-- tolerances of at most e, of right-hand sides of at most f, figures of at most y
pub reach_size : (s : System) (t : Trial) (e f y : ℕ)
    → ((j : ℕ) → get_or s.rows.E j 0 ≤ e)
    → ((j : ℕ) → get_or s.rows.f j 0 ≤ f)
    → ((j : ℕ) → nat_abs (t.Y j) ≤ y)
    → (i : ℕ) → reach (row s i) t ≤ t.D * f + t.n * (e * y)
unfolding reach
reach_size s t e f y tolerances right-tolerances figures i =
    omega (
      arith,
      mul-le-mul_left t.D (right-tolerances i),
      total_bound t.n (e * y) (λ j. (row s i).E j * nat_abs (t.Y j)) (λ j l. mul-le-mul (tolerances (i * s.n + j)) (figures j)),
    )
