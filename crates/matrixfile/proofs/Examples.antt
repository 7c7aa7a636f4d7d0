-- Matrices written and texts read, by computation on the definitions. Nothing is exported. Assumes nothing.
use Rattle.std.specs.Prelude.{ℕ, ◌≤◌, ℤ, pos, neg_ℤ, length, replicate, List, [], ◌∷◌, ◌++◌, ◌≡◌, refl, Ok}
use Prim.Native.String as string
use Rattle.std.proofs.Common.{le-leb}
use Rattle.limits.specs.Limits.{most_tanks, most_coefficients, coefficient_limit}
use Rattle.buffer.specs.Buffer.{all, leading, begins_by}
use Rattle.outcome.specs.Outcome.{status_number, reported_outcome, Accepted}
use Rattle.decimal.specs.Decimal.{ascii, digits_within, decimal_digits, signed_decimal}
use Rattle.matrixfile.specs.Read.{after_comments, size_fine, entry_fine, entry_of, after_entry, entries_fine, entries_of, text_status, coefficients_in}
use Rattle.matrixfile.specs.Text.{first_line, entry_line, transpose, matrix_text, longest_text, matrix_status, matrix_writing}

-- two tanks, rows (1, −2) and (30, 0)
two_tanks_lem : matrix_text 2 (pos 1 ∷ neg_ℤ (pos 2) ∷ pos 30 ∷ pos 0 ∷ [])
    ≡ ascii "%%MatrixMarket matrix array integer general\n2 2\n1\n30\n-2\n0\n"
unfolding digits_within decimal_digits signed_decimal entry_line transpose matrix_text
two_tanks_lem = refl

-- eight tanks with five digits and a minus in each entry: the longest text is attained
abbrev longest : List ℤ
longest = replicate most_coefficients (neg_ℤ (pos coefficient_limit))

longest_length : length (matrix_text most_tanks longest) ≡ longest_text
unfolding digits_within decimal_digits signed_decimal entry_line transpose matrix_text
longest_length = refl

longest_accepted : matrix_status most_tanks longest ≡ Accepted
unfolding all matrix_status
longest_accepted = refl

attained : (out : List ℕ) → longest_text ≤ length out → (matrix_writing most_tanks longest out).outcome ≡ reported_outcome (Ok longest_text)
unfolding matrix_writing
attained out h = rw (le-leb longest_text (length out) h, longest_accepted, longest_length)

-- ---- what stands behind the first line, and the number that reading it gets: 0 where it is read

abbrev status_of : string.String → ℕ
status_of s = status_number (text_status (first_line ++ ascii s))

-- read: leading zeros, a minus before a zero, comment lines, further spaces, the limit
texts_read : status_of "1 1\n5\n" ∷ status_of "1 1\n007\n" ∷ status_of "1 1\n-0\n" ∷ status_of "%\n% %\n1   1\n-00001\n" ∷ status_of "1 1\n-32767\n" ∷ []
    ≡ 0 ∷ 0 ∷ 0 ∷ 0 ∷ 0 ∷ []
unfolding leading begins_by after_comments size_fine entry_fine entry_of after_entry entries_fine text_status
texts_read = refl

-- the size line: missing, not ended, without a space, with a blank before it, unequal, out of limits; and a comment line that is not ended
sizes_refused : status_of "" ∷ status_of "1 1" ∷ status_of "11\n5\n" ∷ status_of " 1 1\n5\n" ∷ status_of "1 2\n5\n" ∷ status_of "9 9\n5\n" ∷ status_of "% 1 1" ∷ []
    ≡ 11 ∷ 11 ∷ 11 ∷ 11 ∷ 11 ∷ 11 ∷ 11 ∷ []
unfolding leading begins_by after_comments size_fine entry_fine entry_of after_entry entries_fine text_status
sizes_refused = refl

-- the entries: missing, not ended, followed by something, with a plus, a sixth digit, a blank, out of limits, empty, and a comment line before one
entries_refused : status_of "1 1\n" ∷ status_of "1 1\n5" ∷ status_of "1 1\n5\n\n" ∷ status_of "1 1\n+1\n" ∷ status_of "1 1\n000001\n" ∷ status_of "1 1\n5 \n" ∷ status_of "1 1\n-32768\n" ∷ status_of "1 1\n-\n" ∷ status_of "1 1\n%\n5\n" ∷ []
    ≡ 12 ∷ 12 ∷ 12 ∷ 12 ∷ 12 ∷ 12 ∷ 12 ∷ 12 ∷ 12 ∷ []
unfolding leading begins_by after_comments size_fine entry_fine entry_of after_entry entries_fine text_status
entries_refused = refl

-- the rows (1, −2) and (30, 0) again, from a text that is not the writer's
two_tanks_read : coefficients_in (first_line ++ ascii "% a comment\n2  2\n01\n00030\n-2\n-0\n") ≡ pos 1 ∷ neg_ℤ (pos 2) ∷ pos 30 ∷ pos 0 ∷ []
unfolding leading after_comments entry_of after_entry entries_of transpose coefficients_in
two_tanks_read = refl
