-- What the running sums of a row are after each tank, and which figures its sums depend on. Assumes nothing.
use Rattle.std.specs.Prelude.{ℕ, zero, suc, ◌+◌, ◌*◌, ◌<◌, ℤ, nat_abs, ◌+ℤ◌, ◌*ℤ◌, ◌≡◌, refl}
use Rattle.std.proofs.Common.{ap, add-one}
use Rattle.integers.proofs.SumLaws.{sum_cong, total_cong}
use Rattle.judge.specs.RowSums.{product_sum, weight_sum, add_terms, running_sums}

module _ (A : ℕ → ℤ) (E : ℕ → ℕ) (Y : ℕ → ℤ) where
  -- after j tanks the running sum is the sum of exactly the first j products, A(1) × Y(1) to A(j) × Y(j): for each j, so from 0 to n
  pub running_products : (j : ℕ) → (running_sums A E Y j).products ≡ product_sum A Y j
  running_products zero = refl
  running_products (suc j) = ap (λ p. p +ℤ A j *ℤ Y j) (running_products j)

  -- the same of the terms of the reach, E(1) × |Y(1)| to E(j) × |Y(j)|
  pub running_weights : (j : ℕ) → (running_sums A E Y j).weights ≡ weight_sum E Y j
  running_weights zero = refl
  running_weights (suc j) = ap (λ w. w + E j * nat_abs (Y j)) (running_weights j)

  -- one tank more, as code counts
  pub running_more : (j : ℕ) → running_sums A E Y (j + 1) ≡ add_terms (A j) (E j) (Y j) (running_sums A E Y j)
  running_more j = rw add-one

-- the sums of the first j tanks depend on the figures of those alone
module _ (Y Y' : ℕ → ℤ) (j : ℕ) (same : (k : ℕ) → k < j → Y k ≡ Y' k) where
  pub same_product_sum : (A : ℕ → ℤ) → product_sum A Y j ≡ product_sum A Y' j
  same_product_sum A = sum_cong j _ _ (λ k l. ap (λ y. A k *ℤ y) (same k l))

  pub same_weight_sum : (E : ℕ → ℕ) → weight_sum E Y j ≡ weight_sum E Y' j
  same_weight_sum E = total_cong j _ _ (λ k l. ap (λ y. E k * nat_abs y) (same k l))
