-- Definitions only.
-- A matrix of coefficients as the text that is written: document 02, "Matrix Market files".
use Rattle.std.specs.Prelude.{ℕ, ◌+◌, ◌*◌, ◌/◌, ◌%◌, ℤ, pos, length, get_or, List, ◌∷◌, ◌++◌}
use Rattle.buffer.specs.Buffer.{joined}
use Rattle.outcome.specs.CallResult.{CallResult, write_if_accepted, check_room}
use Rattle.outcome.specs.Outcome.{check, first, Status}
use Rattle.outcome.specs.declared.Refusal.TheVariants.{WrongLength, OutsideLimits}
use Rattle.integers.specs.Tables.{table}
use Rattle.decimal.specs.Decimal.{ascii, line_feed, digit, signed_decimal}
use Rattle.casefile.specs.Case.{tanks_are_fine, square_counted, coefficients_are_fine}

-- "Read and write the array form, `%%MatrixMarket matrix array integer general`", "A line feed ends every line"
abbrev pub first_line : List ℕ
first_line = ascii "%%MatrixMarket matrix array integer general" ++ line_feed

-- "a size line with rows and columns, one digit each", "single spaces"
abbrev pub size_line : ℕ → List ℕ
size_line n = digit n ∷ (ascii " " ++ (digit n ∷ line_feed))

-- "one entry a line"; "no leading zeros and a minus only below zero"
unfoldable pub entry_line : ℤ → List ℕ
entry_line z = signed_decimal z ++ line_feed

-- that of five digits and a minus
abbrev pub longest_entry_line : ℕ
longest_entry_line = 7

-- Entry (i, j), row i of column j, both from 0, is number j × n + i of the text, "column after column", and stands at place i × n + j of the list, which is
-- "row after row": from the one number to the other, either way.
abbrev pub transposed_place : ℕ → ℕ → ℕ
transposed_place n k = k % n * n + k / n

-- the entries of the list in the text's order, or those of the text in the list's
unfoldable pub transpose : ℕ → List ℤ → List ℤ
transpose n l = table (n * n) (λ k. get_or l (transposed_place n k) (pos 0))

-- "Our writer uses no comments, single spaces, no leading zeros and a minus only below zero"
unfoldable pub matrix_text : ℕ → List ℤ → List ℕ
matrix_text n A = first_line ++ (size_line n ++ joined entry_line (transpose n A))

-- that of eight tanks with five digits and a minus in each entry
abbrev pub longest_text : ℕ
longest_text = 496

-- "the case writer's 6, 4 and 6 then apply in their order"
unfoldable pub matrix_status : ℕ → List ℤ → Status
matrix_status n A =
    first (check (tanks_are_fine n) OutsideLimits)
    (first (check (square_counted n A) WrongLength) (check (coefficients_are_fine A) OutsideLimits))

-- "In writing a text buffer under 496 bytes .. is refusal 1"; "Writing returns the text's length and leaves the bytes beyond it"
unfoldable pub matrix_writing : ℕ → List ℤ → List ℕ → CallResult
matrix_writing n A out = write_if_accepted (check_room longest_text (length out) (matrix_status n A)) (matrix_text n A) out
