-- Why no number of a round wraps: the sizes of residuals and right-hand sides. Assumes nothing.
use Rattle.std.specs.Prelude.{ℕ, ◌+◌, ◌*◌, ◌^◌, ◌≤◌, ℤ, pos, nat_abs, get_or, List, ◌≡◌}
use Rattle.std.proofs.Common.{le_trans, arith}
use Rattle.limits.specs.Limits.{most_tanks, coefficient_limit, right_side_limit}
use Rattle.integers.specs.TableLaws.{all_filled}
use Rattle.integers.specs.Tables.{Within}
use Rattle.judge.specs.Judgement.{residual_vector}
use Rattle.judge.proofs.Sizes.{residual_size, measurement_size}
use Rattle.judge.specs.System.{System, residual, row, trial}
use Rattle.substitution.proofs.BackwardLaws.{backward_within}
use Rattle.substitution.specs.Bounds.{residual_bound, Forward, Backward}
use Rattle.substitution.proofs.ForwardLaws.{backward_ready}
use Rattle.substitution.specs.Passes.{forward, backward}
use Rattle.solver.specs.Limits.{Limits, Ranges, Ready, Updatable, FiguresCorrectable}
use Rattle.solver.specs.Refinement.{figure_limit, Update, permuted, substituted, corrected, updated, Progress}

-- ---- document 01's limits are within the types' ranges

pub limits_enough : {a b : List ℤ} → Within coefficient_limit a → Within right_side_limit b → Ranges a b
limits_enough a b = record { coefficients = λ j. omega (arith, a j); right_sides_lem = λ j. omega (arith, b j) }

-- ---- |R| ≤ 1,000 × 2 ^ 31 + 8 × 2 ^ 15 × 10,000,000

module _ (s : System) (D : ℕ) (Y : List ℤ) (h : Limits s.n D) (r : Ranges s.rows.A s.rows.b) (k : Within figure_limit Y) where
  enough : D * 2 ^ 31 + s.n * (2 ^ 15 * figure_limit) ≤ residual_bound
  enough = let d = h.scale in let n = h.small in omega arith

  pub residual_le : (i : ℕ) → nat_abs (residual (row s i) (trial s.n D Y)) ≤ residual_bound
  residual_le i =
      le_trans (residual_size s (trial s.n D Y) (2 ^ 15) (2 ^ 31) figure_limit r.coefficients r.right_sides_lem k i) enough

  pub residuals_within : Within residual_bound (residual_vector s (trial s.n D Y))
  residuals_within i =
      le_trans (measurement_size s (trial s.n D Y) (2 ^ 15) (2 ^ 31) figure_limit r.coefficients r.right_sides_lem k i) enough

-- ---- in the elimination's order

pub permuted_within : (n : ℕ) (o : List ℕ) (R : List ℤ) → Within residual_bound R → Within residual_bound (permuted n o R)
permuted_within n o R h =
    all_filled (λ (z : ℤ). nat_abs z ≤ residual_bound) (pos 0) (omega arith) most_tanks n (λ i. get_or R (get_or o i 0) (pos 0)) (λ i l. h (get_or o i 0))

-- ---- each pass may follow the one before

module _ (n : ℕ) (w : List (List ℤ)) (o : List ℕ) (R Y : List ℤ) (h : Updatable n w o R Y) where
  pub forward_ready : Forward w (permuted n o R) n
  forward_ready =
      record { few = h.places; factors = h.eliminated.factors; right = permuted_within n o R h.residuals }

  pub back_ready : Backward w (forward w (permuted n o R) n) n
  back_ready = backward_ready w (permuted n o R) n forward_ready

  pub corrected_ready : FiguresCorrectable n Y (backward w (forward w (permuted n o R) n) n).values
  corrected_ready =
      record { places = h.places; figures = h.figures; corrections = backward_within w (forward w (permuted n o R) n) n }

-- ---- a round starts from the residuals that stand beside the trial

module _ (w : List (List ℤ)) (o : List ℕ) (s : System) (D : ℕ) (p : Progress) (h : Ready w o s D p) where
  pub updatable : Ranges s.rows.A s.rows.b → Updatable s.n w o p.judgement.residuals p.trial
  updatable r =
      record {
        places = h.startable.limits.small;
        eliminated = h.startable.eliminated;
        residuals = rw h.resumable.residuals_are (residuals_within s D p.trial h.startable.limits r h.resumable.figures);
        figures = h.resumable.figures;
      }

  pub updated_from : (u : Update) → u ≡ corrected s.n p.trial (substituted w (permuted s.n o p.judgement.residuals) s.n) → u ≡ updated w o s D p.trial
  unfolding updated
  updated_from u e = rw h.resumable.residuals_are at e
