-- Definitions only.
-- Elimination with row exchanges on working numbers: document 01, "The steps". Rows, columns and steps are counted from 0 here.
use Rattle.std.specs.Prelude.{ℕ, zero, suc, ◌+◌, ◌*◌, ◌-◌, ltb, eqb, ℤ, pos, nat_abs, ◌-ℤ◌, ◌*ℤ◌, get_or, set, replicate, cond, List, []}
use Rattle.limits.specs.Limits.{most_tanks}
use Rattle.integers.specs.Tables.{table, fill}
use Rattle.rounding.specs.Round.{rnd}
use Rattle.rounding.specs.Scale.{multiplier_scale}
use Rattle.elimination.specs.Matrix.{at}

-- ---- the start

-- "starting at 256 × A": the scale of the working numbers
abbrev pub working_scale : ℕ
working_scale = 256

-- "Elimination works on eight by eight working numbers W, of which n by n are used, starting at 256 × A." The coefficients are a list, row
-- after row, so that row i's part starts at i × n. The numbers that are not used are 0.
abbrev pub scaled_coefficient : ℕ → List ℤ → ℕ → ℕ → ℤ
scaled_coefficient n A i j = pos working_scale *ℤ get_or A (i * n + j) (pos 0)

unfoldable pub working_row : ℕ → List ℤ → ℕ → List ℤ
working_row n A i = fill (scaled_coefficient n A i) 0 n (replicate most_tanks (pos 0))

unfoldable pub working_matrix : ℕ → List ℤ → List (List ℤ)
working_matrix n A = fill (working_row n A) 0 n (replicate most_tanks (replicate most_tanks (pos 0)))

-- the order at the start: place i holds row i
abbrev pub start_order : List ℕ
start_order = table most_tanks (λ i. i)

-- ---- a step

-- "the pivot is the entry of column k, rows k to n, that is largest in absolute value, the uppermost of equals": the best of row b and the
-- rows i, i + 1, .., m of them, where row b stands above
unfoldable pub pivot_from : List (List ℤ) → ℕ → ℕ → ℕ → ℕ → ℕ
pivot_from w k b i zero = b
pivot_from w k b i (suc m) = pivot_from w k (cond (ltb (nat_abs (at w b k)) (nat_abs (at w i k))) i b) (i + 1) m

unfoldable pub pivot_row : List (List ℤ) → ℕ → ℕ → ℕ
pivot_row w k n = pivot_from w k k (k + 1) (n - (k + 1))

-- "the two rows are exchanged, with their earlier multipliers and their place in the order": whole rows, in which the multipliers stand,
-- and the same two places of the order
abbrev pub exchange : {A : Type 0} → A → List A → ℕ → ℕ → List A
exchange d l i j = set (set l i (get_or l j d)) j (get_or l i d)

-- "M = rnd(16,384 × W(i,k) / W(k,k))", for a row below the pivot's row `top`
abbrev pub multiplier : List ℤ → List ℤ → ℕ → ℤ
multiplier top row k = rnd (pos multiplier_scale *ℤ get_or row k (pos 0)) (get_or top k (pos 0))

-- "each W(i,j) with j above k loses rnd(M × W(k,j) / 16,384)"
abbrev pub reduced_entry_of : ℤ → List ℤ → List ℤ → ℕ → ℤ
reduced_entry_of m top row j = get_or row j (pos 0) -ℤ rnd (m *ℤ get_or top j (pos 0)) (pos multiplier_scale)

-- a row below the pivot's: its multiplier is kept in the place that it eliminated
unfoldable pub eliminated_row : List ℤ → List ℤ → ℕ → ℕ → List ℤ
eliminated_row top row k n =
    set (fill (reduced_entry_of (multiplier top row k) top row) (k + 1) (n - (k + 1)) row) k (multiplier top row k)

-- "For each row i below"
abbrev pub row_below : List (List ℤ) → ℕ → ℕ → ℕ → List ℤ
row_below w k n i = eliminated_row (get_or w k []) (get_or w i []) k n

unfoldable pub eliminated_below : List (List ℤ) → ℕ → ℕ → List (List ℤ)
eliminated_below w k n = fill (row_below w k n) (k + 1) (n - (k + 1)) w

-- ---- the steps

-- the working numbers with the multipliers in them; the order, in which place i holds the index of the case's row that stands there; and how
-- many steps were made
pub record Run : Type 0 where
  pub working : List (List ℤ)
  pub order : List ℕ
  pub steps : ℕ

-- the row of the next step's pivot, and the pivot's size, which is 0 exactly if all candidates are zero
abbrev pub next_pivot : ℕ → Run → ℕ
next_pivot n r = pivot_row r.working r.steps n

abbrev pub largest : ℕ → Run → ℕ
largest n r = nat_abs (at r.working (next_pivot n r) r.steps)

-- a step with a pivot that is not 0
abbrev pub stepped : ℕ → Run → Run
stepped n r =
    record {
      working = eliminated_below (exchange [] r.working r.steps (next_pivot n r)) r.steps n;
      order = exchange 0 r.order r.steps (next_pivot n r);
      steps = r.steps + 1;
    }

-- "Where all are zero the elimination ends there, in the middle of its steps, with refusal 8": a run that cannot go on stays as it is
unfoldable pub next_run : ℕ → Run → Run
next_run n r = cond (eqb (largest n r) 0) r (stepped n r)

-- the run after k steps, or after those that could be made, from the coefficients of n rows
unfoldable pub after_steps : ℕ → List ℤ → ℕ → Run
after_steps n A zero = record { working = working_matrix n A; order = start_order; steps = 0 }
after_steps n A (suc k) = next_run n (after_steps n A k)

-- "At step k = 1 to n"
unfoldable pub eliminated : ℕ → List ℤ → Run
eliminated n A = after_steps n A n

-- a row of numbers that are not used, and rows of them
abbrev pub zero_row : List ℤ
zero_row = replicate most_tanks (pos 0)

abbrev pub zero_rows : List (List ℤ)
zero_rows = replicate most_tanks zero_row
