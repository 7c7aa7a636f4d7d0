-- Small cases, by computation on the definitions. Assumes nothing.
use Rattle.std.specs.Prelude.{ℕ, ℤ, pos, ◌-ℤ◌, ◌*ℤ◌, List, [], ◌∷◌, map, ◌≡◌, refl}
use Rattle.integers.specs.Tables.{fill}
use Rattle.rounding.specs.Half.{is_rounded_up}
use Rattle.rounding.specs.Round.{near, rnd}
use Rattle.elimination.specs.Outcome.{Elimination, complete, zero_pivot, outcome, refusal}
use Rattle.elimination.specs.Steps.{start_order, working_row, working_matrix, pivot_from, pivot_row}
use Rattle.elimination.specs.Steps.{eliminated_row, eliminated_below, next_run, after_steps, eliminated}

-- two rows each
abbrev pub exchanged : List ℤ
exchanged = pos 0 ∷ pos 1 ∷ pos 1 ∷ pos 0 ∷ []

abbrev pub equal : List ℤ
equal = pos 1 ∷ pos 1 ∷ pos 1 ∷ pos 1 ∷ []

abbrev pub near_equal : List ℤ
near_equal = pos 32767 ∷ pos 1 ∷ pos 32766 ∷ pos 1 ∷ []

pub record ExampleResult : Type 0 where
  pub answer : Elimination
  pub order : List ℕ

abbrev pub example_result : List ℤ → ExampleResult
example_result a = record { answer = outcome 2 (eliminated 2 a).steps; order = (eliminated 2 a).order }

-- rows (0, 1) and (1, 0) are exchanged; rows (1, 1) and (1, 1) are refused at the second step, and so are rows (32,767, 1) and (32,766, 1)
pub answers : map example_result (exchanged ∷ equal ∷ near_equal ∷ [])
    ≡ record { answer = complete; order = 1 ∷ 0 ∷ 2 ∷ 3 ∷ 4 ∷ 5 ∷ 6 ∷ 7 ∷ [] }
    ∷ record { answer = zero_pivot 1; order = start_order }
    ∷ record { answer = zero_pivot 1; order = start_order }
    ∷ []
unfolding outcome eliminated after_steps next_run pivot_row pivot_from eliminated_below eliminated_row working_matrix working_row fill rnd near is_rounded_up
answers = refl

-- so refusal 8 does not prove a zero determinant, since the working numbers are rounded: here it is 1
pub determinant_one : (pos 32767 *ℤ pos 1 -ℤ pos 1 *ℤ pos 32766 ≡ pos 1) × (refusal (example_result near_equal).answer ≡ 8)
unfolding outcome eliminated after_steps next_run pivot_row pivot_from eliminated_below eliminated_row working_matrix working_row fill rnd near is_rounded_up
determinant_one = (refl, refl)
