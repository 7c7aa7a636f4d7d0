-- The text of a matrix: which place of the list each entry comes from, what a matrix that is not refused has, and how long its text is at most. Assumes nothing.
use Rattle.std.specs.Prelude.{ℕ, ◌+◌, ◌*◌, ◌/◌, ◌%◌, ◌≤◌, ◌<◌, ℤ, pos, nat_abs, length, take, List, ◌++◌, ◌≡◌, refl, Ok}
use borrow.Author.Tests.{leb-true, le-leb, eqb-true, eq-eqb}
use Rattle.std.proofs.Common.{lit<, ext_get_or, get_or-take, take_all, sym, ◌∙◌, mod-lt, mod-eq_of_lt, div-add-mod', div-lt_iff_lt-mul, add-zero, pos_of_ne-zero, lt_of_le_of_lt}
use Rattle.std.proofs.Math.ListN.{get_or, length-append}
use Rattle.std.proofs.Math.Nat.{div-eq_of_lt, mul-add-div_right, mul-add-mod_self_right}
use native.Mathlib.Omega.{arith}
use Rattle.limits.specs.Limits.{most_tanks, coefficient_limit}
use Rattle.buffer.specs.AllLaws.{and_left, and_right, all_at}
use Rattle.buffer.specs.Buffer.{joined}
use Rattle.buffer.specs.RunLaws.{length_run_le, joined_run}
use Rattle.integers.specs.Tables.{Within}
use Rattle.integers.specs.TableLaws.{length_table, get_d_table, all_table, row_inside}
use Rattle.outcome.specs.CallResult.{check_room}
use Rattle.outcome.proofs.CallResultLaws.{WrittenCount, written_count}
use Rattle.outcome.proofs.Laws.{check_accepted, first_left, first_right}
use Rattle.outcome.specs.Outcome.{reported_outcome, Accepted}
use Rattle.figures.specs.Figures.{within_limit}
use Rattle.decimal.specs.Decimal.{line_feed, signed_decimal}
use Rattle.decimal.proofs.ReadingLaws.{length_signed}
use Rattle.casefile.proofs.RowsLaws.{square_fits}
use Rattle.casefile.specs.SoundLaws.{Sound}
use Rattle.matrixfile.specs.Text.{first_line, size_line, entry_line, longest_entry_line, transposed_place, transpose, matrix_text, longest_text, matrix_status, matrix_writing}

-- ---- places

-- row i of column j
place_of : (n i j : ℕ) → i < n → transposed_place n (j * n + i) ≡ i * n + j
place_of n i j h =
    rw (mul-add-mod_self_right j n i, mod-eq_of_lt h, mul-add-div_right {m = n} (omega arith) j i, div-eq_of_lt h, add-zero j)

module _ (n k : ℕ) (h : k < n * n) where
  some_tank : 0 < n
  some_tank = pos_of_ne-zero (λ e. let z : k < 0 = rw e at h in omega arith)

  column_below : k / n < n
  column_below = (div-lt_iff_lt-mul {k = n} some_tank).1 h

  pub place_below : transposed_place n k < n * n
  place_below = omega (arith, row_inside n n (k % n) (omega arith) (mod-lt k some_tank), column_below)

  -- there and back
  place_twice : transposed_place n (transposed_place n k) ≡ k
  place_twice = place_of n (k / n) (k % n) column_below ∙ div-add-mod' k n

module _ (n : ℕ) (l : List ℤ) where
  pub length_transpose : length (transpose n l) ≡ n * n
  unfolding transpose
  length_transpose = length_table (n * n) (λ k. get_or l (transposed_place n k) (pos 0))

  pub transpose_at : (k : ℕ) → k < n * n → get_or (transpose n l) k (pos 0) ≡ get_or l (transposed_place n k) (pos 0)
  unfolding transpose
  transpose_at k h = get_d_table (n * n) (λ k. get_or l (transposed_place n k) (pos 0)) k (pos 0) h

  -- "column after column" in the text, "row after row" in the list
  pub column_entry : (i j : ℕ) → i < n → j < n → get_or (transpose n l) (j * n + i) (pos 0) ≡ get_or l (i * n + j) (pos 0)
  column_entry i j h g =
      transpose_at (j * n + i) (omega (arith, row_inside n n j (omega arith) g)) ∙ rw (place_of n i j h)

pub transpose_twice : (n : ℕ) (l : List ℤ) → length l ≡ n * n → transpose n (transpose n l) ≡ l
transpose_twice n l e =
    ext_get_or (pos 0) (transpose n (transpose n l)) l (length_transpose n (transpose n l) ∙ sym e)
    (λ k h. same k (omega (arith, length_transpose n (transpose n l))))
  where
    same : (k : ℕ) → k < n * n → get_or (transpose n (transpose n l)) k (pos 0) ≡ get_or l k (pos 0)
    same k h =
        transpose_at n (transpose n l) k h ∙ transpose_at n l (transposed_place n k) (place_below n k h) ∙ rw (place_twice n k h)

-- limits are kept
pub transpose_within : (n b : ℕ) (l : List ℤ) → Within b l → Within b (transpose n l)
unfolding transpose
transpose_within n b l h =
    all_table (λ z. nat_abs z ≤ b) (pos 0) (omega arith) (n * n) (λ k. get_or l (transposed_place n k) (pos 0)) (λ k. h (transposed_place n k))

-- no place past n × n is read
pub transpose_front : (n : ℕ) (l : List ℤ) → transpose n (take (n * n) l) ≡ transpose n l
transpose_front n l =
    ext_get_or (pos 0) (transpose n (take (n * n) l)) (transpose n l) (length_transpose n (take (n * n) l) ∙ sym (length_transpose n l))
    (λ k h. same k (omega (arith, length_transpose n (take (n * n) l))))
  where
    same : (k : ℕ) → k < n * n → get_or (transpose n (take (n * n) l)) k (pos 0) ≡ get_or (transpose n l) k (pos 0)
    same k h =
        transpose_at n (take (n * n) l) k h ∙ get_or-take (n * n) l (transposed_place n k) (pos 0) (place_below n k h) ∙ sym (transpose_at n l k h)

-- ---- what a matrix that is not refused has

pub record MatrixFine (n : ℕ) (A : List ℤ) : Type 0 where
  pub least : 1 ≤ n
  pub small : n ≤ most_tanks
  pub entries : Sound (within_limit coefficient_limit) (n * n) A

module _ (n : ℕ) (A : List ℤ) where
  pub matrix_fine : matrix_status n A ≡ Accepted → MatrixFine n A
  unfolding matrix_status
  matrix_fine e = search (first_left, first_right, check_accepted, and_left, and_right, leb-true, eqb-true) depth 8

  pub matrix_accepted : MatrixFine n A → matrix_status n A ≡ Accepted
  unfolding matrix_status
  matrix_accepted f = search (le-leb, eq-eqb, f.entries.fine)

-- ---- lengths

length_entry_line : (z : ℤ) → nat_abs z ≤ coefficient_limit → length (entry_line z) ≤ longest_entry_line
unfolding entry_line
length_entry_line z h = omega (arith, length-append (signed_decimal z) line_feed, length_signed 4 z (lt_of_le_of_lt h (lit< tt)))

module _ (n : ℕ) (A : List ℤ) (f : MatrixFine n A) where
  pub entry_within : Within coefficient_limit (transpose n A)
  entry_within =
      transpose_within n coefficient_limit A (λ k. leb-true _ _ (all_at (within_limit coefficient_limit) (pos 0) refl A f.entries.fine k))

  pub entry_line_fits : (k : ℕ) → length (entry_line (get_or (transpose n A) k (pos 0))) ≤ longest_entry_line
  entry_line_fits k = length_entry_line (get_or (transpose n A) k (pos 0)) (entry_within k)

  entry_lines_fit : length (joined entry_line (transpose n A)) ≤ n * n * longest_entry_line
  entry_lines_fit =
      let l = length_transpose n A in
      rw (← (take_all (n * n) (transpose n A) (omega arith)), joined_run entry_line (pos 0) (transpose n A) (n * n) (omega arith))
      (length_run_le longest_entry_line (λ k. entry_line (get_or (transpose n A) k (pos 0))) (n * n) (λ k h. entry_line_fits k))

  pub text_fits : length (matrix_text n A) ≤ longest_text
  unfolding matrix_text
  text_fits =
      omega (
        arith,
        length-append first_line (size_line n ++ joined entry_line (transpose n A)),
        length-append (size_line n) (joined entry_line (transpose n A)),
        entry_lines_fit,
        square_fits n f.small,
      )

-- ---- what a count tells

module _ (n : ℕ) (A : List ℤ) (out : List ℕ) (m : ℕ) (e : (matrix_writing n A out).outcome ≡ reported_outcome (Ok m)) where
  pub matrix_written : WrittenCount (check_room longest_text (length out) (matrix_status n A)) (matrix_text n A) out m
  unfolding matrix_writing
  matrix_written = written_count (check_room longest_text (length out) (matrix_status n A)) (matrix_text n A) out m e

  pub written_fine : MatrixFine n A
  written_fine = matrix_fine n A (search (matrix_written.accepted, first_right))

  pub matrix_count_le : m ≤ longest_text
  matrix_count_le = rw matrix_written.count (text_fits n A written_fine)
