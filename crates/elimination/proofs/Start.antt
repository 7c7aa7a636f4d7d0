-- What stands in the working numbers at the start, place by place, and that all are within 2^23. Assumes nothing.
use Rattle.std.specs.Prelude.{ℕ, ◌+◌, ◌*◌, ◌^◌, ◌<◌, ◌≤◌, ℤ, nat_abs, ◌*ℤ◌, ◌≡◌, refl}
use Rattle.std.proofs.Math.IntN.{pos}
use Rattle.std.proofs.Math.ListN.{get_or}
use mathlib.Core.List.{List, []}
use Rattle.std.proofs.Common.{arith}
use Rattle.limits.specs.Limits.{most_tanks}
use Rattle.integers.specs.Size.{product_ok}
use Rattle.integers.specs.TableLaws.{same_at, all_same_at, fill_at, all_fill, zeros_within, all_zeros_within}
use Rattle.integers.specs.Tables.{Within, AllWithin}
use Rattle.elimination.specs.Conditions.{bound}
use Rattle.elimination.specs.Matrix.{at}
use Rattle.elimination.specs.Steps.{working_scale, scaled_coefficient, working_row, working_matrix}
use Rattle.elimination.specs.Steps.{zero_row, zero_rows}

-- ---- place by place

module _ (n : ℕ) (a : List ℤ) (i j : ℕ) where
  -- those that are used
  pub working_used : n ≤ most_tanks → i < n → j < n → at (working_matrix n a) i j ≡ pos working_scale *ℤ get_or a (i * n + j) (pos 0)
  unfolding working_matrix working_row
  working_used h8 p q =
      fill_at (λ (l : List ℤ). get_or l j (pos 0) ≡ scaled_coefficient n a i j) [] i (working_row n a) 0 n zero_rows
      (λ x y. fill_at (λ (z : ℤ). z ≡ scaled_coefficient n a i j) (pos 0) j (scaled_coefficient n a i) 0 n zero_row
      (λ u v. refl)
      (λ u v o. absurd (omega arith))
      (λ o. absurd (o (omega arith) (omega arith))))
      (λ x y o. absurd (omega arith))
      (λ o. absurd (o (omega arith) (omega arith)))

  -- and the others, past the last row or the last column
  pub working_unused_row : n ≤ i → at (working_matrix n a) i j ≡ pos 0
  unfolding working_matrix
  working_unused_row h =
      fill_at (λ (l : List ℤ). get_or l j (pos 0) ≡ pos 0) [] i (working_row n a) 0 n zero_rows
      (λ x y. absurd (omega arith))
      (λ x y o. refl)
      (λ o. all_same_at (pos 0) most_tanks most_tanks i j)

  pub working_unused_column : n ≤ j → at (working_matrix n a) i j ≡ pos 0
  unfolding working_matrix working_row
  working_unused_column h =
      fill_at (λ (l : List ℤ). get_or l j (pos 0) ≡ pos 0) [] i (working_row n a) 0 n zero_rows
      (λ x y. fill_at (λ (z : ℤ). z ≡ pos 0) (pos 0) j (scaled_coefficient n a i) 0 n zero_row (λ u v. absurd (omega arith)) (λ u v o. refl) (λ o. same_at (pos 0) most_tanks j))
      (λ x y o. refl)
      (λ o. all_same_at (pos 0) most_tanks most_tanks i j)

-- ---- within the bound

working_row_in : (n : ℕ) (a : List ℤ) (i : ℕ) → Within (2 ^ 15) a → Within (bound 0) (working_row n a i)
unfolding working_row
working_row_in n a i h =
    all_fill (λ (z : ℤ). nat_abs z ≤ bound 0) (pos 0) (scaled_coefficient n a i) 0 n _
    (λ j p q. product_ok (pos working_scale) (get_or a (i * n + j) (pos 0)) working_scale (2 ^ 15) (omega arith) (h (i * n + j)))
    (zeros_within most_tanks)

-- coefficients of 16 bits
pub working_in : (n : ℕ) (a : List ℤ) → Within (2 ^ 15) a → AllWithin (bound 0) (working_matrix n a)
unfolding working_matrix
working_in n a h = all_fill (Within (bound 0)) [] (working_row n a) 0 n _ (λ i p q. working_row_in n a i h) (all_zeros_within most_tanks most_tanks)
