-- The theorem of Oettli and Prager in whole numbers, for one row: there are changes under the factor u / v that make the trial exact exactly if
-- v |R| ≤ u T. In the one direction the changes are those of equation 7.9. Assumes nothing.
use Prim.Native.Nat.{ℕ, zero, suc, ◌+◌, ◌*◌, ◌≤◌, ◌<◌}
use Rattle.std.specs.Prelude.{ℤ, ◌+ℤ◌, ◌-ℤ◌, ◌*ℤ◌, [], ◌∷◌, ◌↔◌, ◌≡◌, refl}
use Rattle.std.proofs.Math.IntN.{pos, nat_abs, zero-*ℤ}
use Rattle.std.proofs.Common.{sym, ◌∙◌, mul-le-mul_right}
use Rattle.std.proofs.Math.Path.{ap}
use Rattle.std.proofs.Math.Nat.{le_of_mul-le-mul_left, mul-le-mul_left}
use native.Mathlib.Omega.{arith}
use Rattle.integers.specs.Diff.{vars, quote, ring}
use Rattle.integers.specs.Order.{from_equation}
use Rattle.integers.specs.Size.{nat_abs_neg_ℤ, nat_abs-*ℤ, nat_abs_sub_ℤ, nat_abs_within_zero, turned_size}
use Rattle.integers.proofs.SumLaws.{sum_none, sum_weighted, sum_turned, sum_within}
use Rattle.integers.specs.Sums.{sum}
use Rattle.judge.specs.Perturbation.{Perturbation, Solve, Keep, Under, Possible, PossibleUnder, yielded_perturbation}
use Rattle.judge.specs.RowSums.{product_sum, weight_sum}
use Rattle.judge.specs.System.{Row, Trial, residual, reach}

-- ---- changes need |R| within reach

module _ (r : Row) (t : Trial) (k : Perturbation) where
  size : Solve r t k → k.q * nat_abs (residual r t) ≤ nat_abs (sum t.n (λ j. k.a j *ℤ t.Y j)) + t.D * nat_abs k.c
  unfolding residual
  size h =
      let q = pos k.q in
      let d = pos t.D in
      let S = product_sum r.A t.Y t.n in
      let s = sum t.n (λ j. k.a j *ℤ t.Y j) in
      -- q R = Σ a(j) Y(j) − D c, from what makes the changed row exact
      let e : q *ℤ residual r t ≡ s -ℤ d *ℤ k.c =
      from_equation (pos 1) (sym (sum_weighted q t.n r.A k.a t.Y) ∙ h.exact) (let w = vars (q ∷ d ∷ S ∷ s ∷ r.b ∷ k.c ∷ []) in ring (search quote depth 20) (omega arith)) in
      omega (
        arith,
        nat_abs-*ℤ (pos k.q) (residual r t),
        ap nat_abs e,
        nat_abs_sub_ℤ (sum t.n (λ j. k.a j *ℤ t.Y j)) (pos t.D *ℤ k.c),
        nat_abs-*ℤ (pos t.D) k.c,
      )

  module _ (u v : ℕ) (h : Under u v r t k) where
    -- the sum of the changes is bounded like each of them
    changes_bounded : v * nat_abs (sum t.n (λ j. k.a j *ℤ t.Y j)) ≤ u * k.q * weight_sum r.E t.Y t.n
    changes_bounded =
        sum_within v (u * k.q) t.n _ _
        (λ j l. omega (arith, ap (λ x. v * x) (nat_abs-*ℤ (k.a j) (t.Y j)), mul-le-mul_right (nat_abs (t.Y j)) (h.coefficients j l)))

    pub needed : Solve r t k → v * nat_abs (residual r t) ≤ u * reach r t
    unfolding reach
    needed s =
        le_of_mul-le-mul_left {k = k.q}
        (omega (arith, mul-le-mul_left v (size s), changes_bounded, mul-le-mul_left t.D h.right_side))
        s.positive

-- ---- the changes that are yielded

module _ (r : Row) (t : Trial) where
  abbrev S' : ℤ
  S' = product_sum r.A t.Y t.n

  -- by the value of the reach: where it is 0 nothing changes; elsewhere q S + R G = D (q b − f R), with q = D f + G and R = D b − S
  solve_at : (T : ℕ) → reach r t ≡ T → (T ≡ 0 → residual r t ≡ pos 0) → Solve r t (yielded_perturbation r t (residual r t) T)
  unfolding residual reach
  solve_at zero e z =
      record {
        positive = omega arith;
        exact =
            sum_weighted (pos 1) t.n r.A _ t.Y
            ∙ ap (λ x. pos 1 *ℤ S' +ℤ x) (sum_none t.n _ (λ j l. zero-*ℤ (t.Y j)))
            ∙ from_equation (pos 1) (z refl) (let w = vars (S' ∷ r.b ∷ []) in ring (search quote depth 20) (omega arith));
      }
  solve_at (suc T) e z =
      record {
        positive = omega arith;
        exact =
            sum_weighted (pos (suc T)) t.n r.A _ t.Y
            ∙ ap (λ x. pos (suc T) *ℤ S' +ℤ x) (sum_turned (residual r t) t.n r.E t.Y)
            ∙ rw (← e) (let w = vars (r.b ∷ S' ∷ []) in ring (search quote depth 20) (omega arith));
      }

  pub yielded_solve : (reach r t ≡ 0 → residual r t ≡ pos 0) → Solve r t (yielded_perturbation r t (residual r t) (reach r t))
  yielded_solve z = solve_at (reach r t) refl z

  under_at : (u v T : ℕ) (R : ℤ) → v * nat_abs R ≤ u * T → Under u v r t (yielded_perturbation r t R T)
  under_at u v zero R h = record { coefficients = λ j l. omega arith; right_side = omega arith }
  under_at u v (suc T) R h =
      record {
        coefficients = λ j l.
            omega (
              arith,
              mul-le-mul_left v (turned_size (t.Y j) (pos (r.E j) *ℤ R)),
              ap (λ x. v * x) (nat_abs-*ℤ (pos (r.E j)) R),
              mul-le-mul_left (r.E j) h,
            );
        right_side =
            omega (
              arith,
              ap (λ x. v * x) (nat_abs_neg_ℤ (pos r.f *ℤ R) ∙ nat_abs-*ℤ (pos r.f) R),
              mul-le-mul_left r.f h,
            );
      }

  pub yielded_under : (u v : ℕ) → v * nat_abs (residual r t) ≤ u * reach r t → Under u v r t (yielded_perturbation r t (residual r t) (reach r t))
  yielded_under u v h = under_at u v (reach r t) (residual r t) h

  -- the tolerances themselves are the factor 1 / 1
  keep_under : (k : Perturbation) → Keep r t k → Under 1 1 r t k
  keep_under k h = record { coefficients = λ j l. omega (arith, h.coefficients j l); right_side = omega (arith, h.right_side) }

  under_keep : (k : Perturbation) → Under 1 1 r t k → Keep r t k
  under_keep k h = record { coefficients = λ j l. omega (arith, h.coefficients j l); right_side = omega (arith, h.right_side) }

  -- ---- the theorem

  pub oettli_prager : (u v : ℕ) → 0 < v → PossibleUnder u v r t ↔ (v * nat_abs (residual r t) ≤ u * reach r t)
  oettli_prager u v p = (
    λ k. needed r t k.changes u v k.under k.solve,
    λ h. record {
      changes = yielded_perturbation r t (residual r t) (reach r t);
      solve = yielded_solve (nat_abs_within_zero (residual r t) (reach r t) u v p h);
      under = yielded_under u v h;
    },
  )

  -- where |R| ≤ T, the changes that are yielded keep the tolerances and solve the row
  pub yielded_keep : nat_abs (residual r t) ≤ reach r t
      → Solve r t (yielded_perturbation r t (residual r t) (reach r t)) × Keep r t (yielded_perturbation r t (residual r t) (reach r t))
  yielded_keep h = (
    yielded_solve (nat_abs_within_zero (residual r t) (reach r t) 1 1 (omega arith) (omega arith)),
    under_keep (yielded_perturbation r t (residual r t) (reach r t)) (yielded_under 1 1 (omega arith)),
  )

  pub within_tolerances : Possible r t ↔ (nat_abs (residual r t) ≤ reach r t)
  within_tolerances = (
    λ k. omega (arith, needed r t k.changes 1 1 (keep_under k.changes k.keep) k.solve),
    λ h. record {
      changes = yielded_perturbation r t (residual r t) (reach r t);
      solve = (yielded_keep h).0;
      keep = (yielded_keep h).1;
    },
  )
