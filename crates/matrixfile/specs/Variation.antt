-- Definitions only.
-- The writer's text changed in the ways that reading allows: whole comment lines put in behind the first line, further spaces between the two digits of the
-- size line, leading zeros put before an entry's digits, up to five digits, and a minus before a zero.
use Rattle.std.specs.Prelude.{ℕ, leb, eqb, ℤ, nat_abs, length, replicate, Bool, true, false, ◌&&◌, cond, List, ◌∷◌, ◌++◌, map, ◌≡◌}
use Rattle.buffer.specs.Buffer.{joined, all}
use Rattle.decimal.specs.Decimal.{ascii, line_feed, digit, decimal_digits, minus_sign}
use Rattle.matrixfile.specs.Read.{no_line_feed, most_entry_digits, tanks_in, text_status, coefficients_in}
use Rattle.matrixfile.specs.Text.{first_line, transpose}
use Rattle.outcome.specs.Outcome.{Accepted}

-- a comment line, of bytes that are no line feed
abbrev pub comment_line : List ℕ → List ℕ
comment_line comment = 37 ∷ (comment ++ line_feed)

-- a size line with so many spaces more than one
abbrev pub spaced_size_line : ℕ → ℕ → List ℕ
spaced_size_line more n = digit n ∷ (ascii " " ++ (replicate more 32 ++ (digit n ∷ line_feed)))

-- an entry, the leading zeros that are put before its digits, and whether it gets a minus where it is zero
pub record VariedEntry : Type 0 where
  pub entry : ℤ
  pub zeros : ℕ
  pub minus : Bool

abbrev pub varied_minus : VariedEntry → List ℕ
varied_minus f = cond (f.minus && eqb (nat_abs f.entry) 0) (ascii "-") (minus_sign f.entry)

abbrev pub varied_digits : VariedEntry → List ℕ
varied_digits f = replicate f.zeros (digit 0) ++ decimal_digits (nat_abs f.entry)

abbrev pub varied_line : VariedEntry → List ℕ
varied_line f = varied_minus f ++ (varied_digits f ++ line_feed)

abbrev pub varied_fits : VariedEntry → Bool
varied_fits f = leb (length (varied_digits f)) most_entry_digits

-- an entry as the writer has it
abbrev pub unvaried : ℤ → VariedEntry
unvaried z = record { entry = z; zeros = 0; minus = false }

unfoldable pub varied_text : List (List ℕ) → ℕ → ℕ → List VariedEntry → List ℕ
varied_text comments more n lines =
    first_line ++ (joined comment_line comments ++ (spaced_size_line more n ++ joined varied_line lines))

-- a text is that of n and the coefficients A, changed in these ways only
pub record Varied (n : ℕ) (A : List ℤ) (text : List ℕ) : Type 0 where
  pub comments : List (List ℕ)
  pub in_lines : all (all no_line_feed) comments ≡ true
  pub more : ℕ
  pub lines : List VariedEntry
  pub fit : all varied_fits lines ≡ true
  pub entries : map (λ f. f.entry) lines ≡ transpose n A
  pub is : text ≡ varied_text comments more n lines

-- a text is read as n and the coefficients A
pub record ReadAs (n : ℕ) (A : List ℤ) (text : List ℕ) : Type 0 where
  pub accepted : text_status text ≡ Accepted
  pub tanks : tanks_in text ≡ n
  pub coefficients : coefficients_in text ≡ A
