-- Definitions only.
-- The two sums of a row, and the pass that forms them tank by tank from the first. Here tank j stands at place j - 1 of A, E and Y.
use Rattle.std.specs.Prelude.{ℕ, zero, suc, ◌+◌, ◌*◌, ℤ, pos, nat_abs, ◌+ℤ◌, ◌*ℤ◌}
use Rattle.integers.specs.Sums.{sum, total}
use Rattle.judge.specs.declared.RowSums.{RowSums}

-- A(1) × Y(1) + … + A(j) × Y(j), the products of the first j tanks. Over all n it is D times the row's entry of A y in section 7.2 of document 001,
-- and the "sum of A × Y" of document 01
abbrev pub product_sum : (ℕ → ℤ) → (ℕ → ℤ) → ℕ → ℤ
product_sum A Y j = sum j (λ k. A k *ℤ Y k)

-- E(1) × |Y(1)| + … + E(j) × |Y(j)|. Over all n it is D times the row's entry of E |y| in equation 7.8, and the "sum of E × |Y|" of document 01
abbrev pub weight_sum : (ℕ → ℕ) → (ℕ → ℤ) → ℕ → ℕ
weight_sum E Y j = total j (λ k. E k * nat_abs (Y k))

-- one tank more: its two terms are added to what stands
abbrev pub add_terms : ℤ → ℕ → ℤ → RowSums → RowSums
add_terms a e y s = record { products = s.products +ℤ a *ℤ y; weights = s.weights + e * nat_abs y }

-- what stands after j tanks, taken one by one from the first: the partial sum of A × Y, document 02's running sum, and beside it that of E × |Y|
abbrev pub running_sums : (ℕ → ℤ) → (ℕ → ℕ) → (ℕ → ℤ) → ℕ → RowSums
running_sums A E Y zero = record { products = pos 0; weights = 0 }
running_sums A E Y (suc j) = add_terms (A j) (E j) (Y j) (running_sums A E Y j)
