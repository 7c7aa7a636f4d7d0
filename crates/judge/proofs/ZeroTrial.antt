-- The zero trial leaves D b of each row, whatever the coefficients are. Assumes nothing.
use Rattle.std.specs.Prelude.{ℕ, ℤ, ◌-ℤ◌, ◌*ℤ◌, ◌≡◌, refl}
use Rattle.std.proofs.Math.IntN.{pos, *ℤ-zero}
use Rattle.std.proofs.Common.{sym, ◌∙◌}
use Rattle.std.proofs.Math.Path.{ap, fun_ext}
use Rattle.limits.specs.Limits.{most_tanks}
use Rattle.integers.specs.Ring.{sub_ℤ_zero}
use Rattle.integers.proofs.SumLaws.{sum_none}
use Rattle.integers.specs.TableLaws.{all_table}
use Rattle.integers.specs.Tables.{filled}
use Rattle.judge.specs.Judgement.{residual_vector}
use Rattle.judge.specs.System.{Row, System, row, residual, zero_trial, scaled_right_sides}

module _ (n D : ℕ) where
  figure : (j : ℕ) → (zero_trial n D).Y j ≡ pos 0
  figure = all_table (λ (y : ℤ). y ≡ pos 0) (pos 0) refl most_tanks (λ _. pos 0) (λ i. refl)

  residual_zero : (r : Row) → residual r (zero_trial n D) ≡ pos D *ℤ r.b
  unfolding residual
  residual_zero r =
      ap (λ x. pos D *ℤ r.b -ℤ x) (sum_none n _ (λ j l. ap (λ y. r.A j *ℤ y) (figure j) ∙ *ℤ-zero (r.A j))) ∙ sub_ℤ_zero (pos D *ℤ r.b)

pub zero_residuals : (s : System) (D : ℕ) → scaled_right_sides s.n D s.rows.b ≡ residual_vector s (zero_trial s.n D)
zero_residuals s D = ap (λ (f : ℕ → ℤ). filled most_tanks s.n (pos 0) f) (fun_ext (λ i. sym (residual_zero s.n D (row s i))))
