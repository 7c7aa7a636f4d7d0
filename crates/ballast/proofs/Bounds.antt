-- What the limits of a case give the call: nothing wraps, and every figure fits its place in the record. Assumes nothing.
use Rattle.std.specs.Prelude.{ℕ, zero, suc, ◌*◌, ◌^◌, ◌≤◌, ◌<◌, ℤ, pos, nat_abs, get_or, List, refl}
use Rattle.std.proofs.Common.{lit≤, mul-le-mul, arith}
use Rattle.limits.specs.Limits.{most_exponent, coefficient_limit, tolerance_limit, right_side_limit, right_tolerance_limit, trial_limit}
use Rattle.judge.proofs.Sizes.{reach_size}
use Rattle.judge.specs.System.{row, trial, reach}
use Rattle.solver.specs.Limits.{scale_limit, Limits, Ranges}
use Rattle.solver.proofs.Sizes.{limits_enough}
use Rattle.casefile.specs.Case.{Case}
use Rattle.casefile.proofs.CaseLaws.{Good, decode_good}
use Rattle.casefile.specs.Decode.{decode}
use Rattle.casefile.proofs.StoredLaws.{get_d_padded, padded_within}
use Rattle.case_reader.specs.Read.{CaseLists}
use Rattle.case_reader.specs.ReadLaws.{CaseHeld}
use Rattle.casefile.specs.declared.CaseHead.{CaseHead}
use Rattle.ballast.specs.Call.{scale_of, system_of}

scale_le : (e : ℕ) → e ≤ most_exponent → scale_of e ≤ scale_limit
scale_le zero h = lit≤ tt
scale_le (suc zero) h = lit≤ tt
scale_le (suc (suc zero)) h = lit≤ tt
scale_le (suc (suc (suc zero))) h = lit≤ tt
scale_le (suc (suc (suc (suc e)))) h = absurd (omega arith)

-- ---- the figures of a case, over its own lists

module _ (c : Case) (g : Good c) where
  pub limits : Limits c.n (scale_of c.exponent)
  limits = record { small = g.limits.small; scale = scale_le c.exponent g.limits.exponent_small }

  pub ranges : Ranges c.rows.A c.rows.b
  ranges =
      limits_enough
      (λ i. rw (get_d_padded (pos 0) 0 c.rows.A i) at (padded_within nat_abs (pos 0) refl 0 coefficient_limit g.rows.A i))
      (λ i. rw (get_d_padded (pos 0) 0 c.rows.b i) at (padded_within nat_abs (pos 0) refl 0 right_side_limit g.rows.b i))

  pub trial_figures_lem : (i : ℕ) → nat_abs (get_or c.Y i (pos 0)) ≤ trial_limit
  trial_figures_lem i = rw (get_d_padded (pos 0) 0 c.Y i) at (padded_within nat_abs (pos 0) refl 0 trial_limit g.trial i)

  -- a reach within the limits of the tolerances and of the answer
  pub reach_le : (Y : List ℤ) → ((i : ℕ) → nat_abs (get_or Y i (pos 0)) ≤ trial_limit) → (i : ℕ)
      → reach (row (system_of c) i) (trial c.n (scale_of c.exponent) Y) < 256 ^ 8
  reach_le Y y i =
      let D = mul-le-mul {m₁ = right_tolerance_limit} {m₂ = right_tolerance_limit} (scale_le c.exponent g.limits.exponent_small) (lit≤ tt) in
      let n = mul-le-mul {m₁ = tolerance_limit * trial_limit} {m₂ = tolerance_limit * trial_limit} g.limits.small (lit≤ tt) in
      omega (
        arith,
        reach_size (system_of c) (trial c.n (scale_of c.exponent) Y) tolerance_limit right_tolerance_limit trial_limit
            (λ j. rw (get_d_padded 0 0 c.rows.E j) at (padded_within (λ x. x) 0 refl 0 tolerance_limit g.rows.E j))
            (λ j. rw (get_d_padded 0 0 c.rows.f j) at (padded_within (λ x. x) 0 refl 0 right_tolerance_limit g.rows.f j))
            y i,
      )

-- ---- a case that was read

pub record Workable (n exponent : ℕ) : Type 0 where
  pub exponent_small : exponent ≤ most_exponent
  pub limits : Limits n (scale_of exponent)

pub workable : (input : List ℕ) {before : CaseLists} {r : CaseHead} {after : CaseLists} → CaseHeld (decode input) before r after → Workable r.n r.exponent
workable input w =
    let g = decode_good input w.figures w.decoded in
    rw w.head (record { exponent_small = g.limits.exponent_small; limits = limits w.figures g })
