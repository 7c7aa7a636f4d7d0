-- Definitions only.
-- Perturbations of a row, document 01's changes, that make a trial exact: its "Judgement" over whole numerators and one denominator, none of them
-- limited in size. That changes exist is defined here, and not by |R| and T.
use Rattle.std.specs.Prelude.{ℕ, zero, suc, ◌*◌, ◌≤◌, ◌<◌, ℤ, pos, neg_ℤ, nat_abs, ◌+ℤ◌, ◌*ℤ◌, ◌≡◌}
use Rattle.integers.specs.Sign.{turned}
use Rattle.integers.specs.Sums.{sum}
use Rattle.judge.specs.System.{Row, Trial}

-- numerators a(j) of the coefficients' changes and c of the right side's, over the denominator q
pub record Perturbation : Type 0 where
  pub a : ℕ → ℤ
  pub c : ℤ
  pub q : ℕ

-- q is above zero, and the changed row is solved: Σ (q A(j) + a(j)) Y(j) = D (q b + c)
pub record Solve (r : Row) (t : Trial) (k : Perturbation) : Type 0 where
  pub positive : 0 < k.q
  pub exact : sum t.n (λ j. (pos k.q *ℤ r.A j +ℤ k.a j) *ℤ t.Y j) ≡ pos t.D *ℤ (pos k.q *ℤ r.b +ℤ k.c)

-- the changes keep the tolerances: |a(j)| ≤ q E(j) and |c| ≤ q f
pub record Keep (r : Row) (t : Trial) (k : Perturbation) : Type 0 where
  pub coefficients : (j : ℕ) → j < t.n → nat_abs (k.a j) ≤ k.q * r.E j
  pub right_side : nat_abs k.c ≤ k.q * r.f

-- the changes are under the factor u / v: v |a(j)| ≤ u q E(j) and v |c| ≤ u q f
pub record Under (u v : ℕ) (r : Row) (t : Trial) (k : Perturbation) : Type 0 where
  pub coefficients : (j : ℕ) → j < t.n → v * nat_abs (k.a j) ≤ u * k.q * r.E j
  pub right_side : v * nat_abs k.c ≤ u * k.q * r.f

-- there are changes within the tolerances that make the trial exact in this row
pub record Possible (r : Row) (t : Trial) : Type 0 where
  pub changes : Perturbation
  pub solve : Solve r t changes
  pub keep : Keep r t changes

-- there are such changes under the factor u / v
pub record PossibleUnder (u v : ℕ) (r : Row) (t : Trial) : Type 0 where
  pub changes : Perturbation
  pub solve : Solve r t changes
  pub under : Under u v r t changes

-- ---- the changes that a record of "met" yields, by its own residual R and reach T (equation 7.9)

-- a coefficient changes by E R / T, "the sign turned where Y is negative and no change where Y is zero" (`turned` of integers/Sign), the right side
-- by − f R / T; all are zero where T is zero
abbrev pub yielded_perturbation : Row → Trial → ℤ → ℕ → Perturbation
yielded_perturbation r t R zero = record { a = λ j. pos 0; c = pos 0; q = 1 }
yielded_perturbation r t R (suc T) =
    record { a = λ j. turned (t.Y j) (pos (r.E j) *ℤ R); c = neg_ℤ (pos r.f *ℤ R); q = suc T }
