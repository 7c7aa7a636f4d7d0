-- Definitions only.
-- How a text is read as a matrix of coefficients: document 02, "Matrix Market files". Each part is read from the front of what is left of the text.
use Rattle.std.specs.Prelude.{ℕ, zero, suc, ◌+◌, ◌*◌, ◌-◌, leb, eqb, ℤ, pos, neg_ℤ, length, get_or, drop, Bool, false, ◌&&◌, ◌||◌, not, cond, List, [], ◌∷◌}
use Rattle.limits.specs.Limits.{most_coefficients, coefficient_limit}
use Rattle.buffer.specs.Buffer.{leading, begins_by}
use Rattle.outcome.specs.CallResult.{LentResult, leave_if_accepted, check_room}
use Rattle.outcome.specs.Outcome.{check, first, Status}
use Rattle.outcome.specs.declared.Refusal.TheVariants.{WrongMatrixHeader, WrongMatrixEntry}
use Rattle.decimal.specs.Decimal.{line_feed, digit}
use Rattle.decimal.specs.Reading.{value, negative, digits_in}
use Rattle.casefile.specs.Case.{tanks_are_fine}
use Rattle.matrixfile.specs.Text.{first_line, transpose}

-- ---- "comment lines starting with a percent sign"

abbrev pub no_line_feed : ℕ → Bool
no_line_feed c = not (eqb c 10)

-- What is left behind them. The flag says that the front is inside a comment line, which goes on to its line feed; a comment line that has none leaves
-- nothing.
unfoldable pub after_comments : Bool → List ℕ → List ℕ
after_comments inside [] = []
after_comments inside (c ∷ s) = cond (inside || eqb c 37) (after_comments (no_line_feed c) s) (c ∷ s)

-- ---- "a size line with rows and columns, one digit each with spaces between"

-- the number of rows by its digit, and how many spaces follow it; a byte below the digits, or none, gives 0 rows, and one above 8 too many
abbrev pub size_of : List ℕ → ℕ
size_of s = get_or s 0 0 - digit 0

abbrev pub is_space : ℕ → Bool
is_space c = eqb c 32

abbrev pub spaces_in : List ℕ → ℕ
spaces_in s = leading is_space (drop 1 s)

-- "n and n with n from 1 to 8": a digit from 1 to 8, a space or more, the same digit, a line feed
unfoldable pub size_fine : List ℕ → Bool
size_fine s = tanks_are_fine (size_of s) && (leb 1 (spaces_in s) && begins_by (get_or s 0 0 ∷ line_feed) (drop (1 + spaces_in s) s))

-- what is left behind a size line
abbrev pub behind_size : List ℕ → List ℕ
behind_size s = drop (3 + spaces_in s) s

-- ---- "one entry a line ..: an optional minus and one to five digits"

abbrev pub most_entry_digits : ℕ
most_entry_digits = 5

-- what is left behind the minus, and the digits there
abbrev pub after_minus : List ℕ → List ℕ
after_minus s = cond (negative s) (drop 1 s) s

abbrev pub entry_digits : List ℕ → List ℕ
entry_digits s = digits_in most_entry_digits (after_minus s)

-- one digit or more, within the limits of a coefficient, and a line feed behind the fifth at the latest
unfoldable pub entry_fine : List ℕ → Bool
entry_fine s =
    leb 1 (length (entry_digits s))
    && (leb (value (entry_digits s)) coefficient_limit && begins_by line_feed (drop (length (entry_digits s)) (after_minus s)))

unfoldable pub entry_of : List ℕ → ℤ
entry_of s = cond (negative s) (neg_ℤ (pos (value (entry_digits s)))) (pos (value (entry_digits s)))

-- what is left behind its line
unfoldable pub after_entry : List ℕ → List ℕ
after_entry s = drop (length (entry_digits s) + 1) (after_minus s)

-- so many entries, each on its line, and then the end of the text
unfoldable pub entries_fine : ℕ → List ℕ → Bool
entries_fine zero s = eqb (length s) 0
entries_fine (suc m) s = entry_fine s && entries_fine m (after_entry s)

unfoldable pub entries_of : ℕ → List ℕ → List ℤ
entries_of zero s = []
entries_of (suc m) s = entry_of s ∷ entries_of m (after_entry s)

-- ---- the whole text

-- "after exactly that line, comment lines .., a size line"
abbrev pub at_size_line : List ℕ → List ℕ
at_size_line text = after_comments false (drop (length first_line) text)

abbrev pub tanks_in : List ℕ → ℕ
tanks_in text = size_of (at_size_line text)

abbrev pub at_entries : List ℕ → List ℕ
at_entries text = behind_size (at_size_line text)

-- "refuses with 11 a wrong first line, or a size line that is missing, not so formed or ended, or not n and n .., and then with 12 the first entry that is
-- malformed, out of limits or missing, or anything after the last"
unfoldable pub text_status : List ℕ → Status
text_status text =
    first (check (begins_by first_line text && size_fine (at_size_line text)) WrongMatrixHeader)
    (check (entries_fine (tanks_in text * tanks_in text) (at_entries text)) WrongMatrixEntry)

-- "The list is row after row"
unfoldable pub coefficients_in : List ℕ → List ℤ
coefficients_in text = transpose (tanks_in text) (entries_of (tanks_in text * tanks_in text) (at_entries text))

-- "in reading a list under 64 places, is refusal 1"; "places past n × n stay, and reading returns n"
unfoldable pub matrix_reading : List ℕ → List ℤ → LentResult ℤ
matrix_reading text list =
    leave_if_accepted (check_room most_coefficients (length list) (text_status text)) (λ l. tanks_in text) (coefficients_in text) list
