-- Definitions only.
-- What is printed of a judged condition, and of a refusal, byte for byte: document 01's "Printed verdict".
use Rattle.std.specs.Prelude.{ℕ, ◌+◌, ◌*◌, ◌≤◌, ℤ, pos, get_or, length, Bool, cond, List, [], ◌∷◌, ◌++◌}
use Rattle.limits.specs.Limits.{most_tanks, most_exponent}
use Rattle.buffer.specs.Buffer.{run, concat}
use Rattle.judge.specs.Finding.{Finding, finding}
use Rattle.judge.specs.Judgement.{Judgement}
use Rattle.decimal.specs.Decimal.{line_feed, decimal_digits, signed_decimal, fixed_point, ascii}
use Rattle.decimal.specs.Writing.{Writes}
use Rattle.decimal.specs.declared.TextWriter.{TextWriter}

-- what is printed of a condition: the answer's figures Y by tank, from 0, and what was found of it
pub record Report : Type 0 where
  pub n : ℕ
  pub exponent : ℕ
  pub rounds : ℕ
  pub answer : ℕ → ℤ
  pub found : Finding

abbrev pub report : ℕ → ℕ → ℕ → List ℤ → Judgement → Report
report n e rounds answer judgement =
    record { n = n; exponent = e; rounds = rounds; answer = λ j. get_or answer j (pos 0); found = finding judgement }

-- a word and a whole number behind it
abbrev pub labelled : List ℕ → ℕ → List ℕ
labelled word x = word ++ decimal_digits x

-- "`met row 0 rounds 1`", or "`unmet`": the first unmet row, or 0, and the rounds used
abbrev pub verdict_word : Bool → List ℕ
verdict_word met = cond met (ascii "met row ") (ascii "unmet row ")

unfoldable pub verdict_line : Bool → ℕ → ℕ → List ℕ
verdict_line met row rounds = concat (labelled (verdict_word met) row ∷ labelled (ascii " rounds ") rounds ∷ line_feed ∷ [])

-- "`answer 1 -0.4`": the tank's number, counted from 1, and Y / 10^e tonnes
unfoldable pub answer_line : ℕ → ℕ → ℤ → List ℕ
answer_line e tank figure = concat (labelled (ascii "answer ") tank ∷ ascii " " ∷ fixed_point e figure ∷ line_feed ∷ [])

-- "`row 1 residual 0 reach 0`": the row's number, counted from 1, its residual R and its reach T
unfoldable pub row_line : ℕ → ℤ → ℕ → List ℕ
row_line row residual reach =
    concat (labelled (ascii "row ") row ∷ ascii " residual " ∷ signed_decimal residual ∷ labelled (ascii " reach ") reach ∷ line_feed ∷ [])

-- "`factor row 1`", or "`factor none row 1`": the row that decides
abbrev pub factor_word : Bool → List ℕ
factor_word none = cond none (ascii "factor none row ") (ascii "factor row ")

unfoldable pub factor_line : Bool → ℕ → List ℕ
factor_line none row = concat (labelled (factor_word none) row ∷ line_feed ∷ [])

-- "The lines give the verdict, then every tank's answer and then every row by number, then the factor"
abbrev pub answer_lines : ℕ → ℕ → (ℕ → ℤ) → List ℕ
answer_lines n e answer = run n (λ j. answer_line e (j + 1) (answer j))

abbrev pub row_lines : ℕ → (ℕ → ℤ) → (ℕ → ℕ) → List ℕ
row_lines n R T = run n (λ i. row_line (i + 1) (R i) (T i))

unfoldable pub text : Report → List ℕ
text r =
    concat (
    verdict_line r.found.met r.found.unmet r.rounds
    ∷ answer_lines r.n r.exponent r.answer
    ∷ row_lines r.n r.found.R r.found.T
    ∷ factor_line r.found.none r.found.decides
    ∷ []
    )

-- "For a refusal it prints `refused`, a space and the number."
unfoldable pub refusal_text : ℕ → List ℕ
refusal_text number = concat (labelled (ascii "refused ") number ∷ line_feed ∷ [])

-- Room for the longest line of each kind, whatever the widths of its numbers admit (20 digits, or 19 and a minus; an answer has 10 digits,
-- a minus, a point and up to three digits more; in the lines of answers and of rows the tank or row has one digit), and for all lines together.
abbrev pub verdict_room : ℕ
verdict_room = 59

abbrev pub answer_room : ℕ
answer_room = 25

abbrev pub room_of_row : ℕ
room_of_row = 63

abbrev pub factor_room : ℕ
factor_room = 37

abbrev pub text_room : ℕ
text_room = verdict_room + (most_tanks * answer_room + (most_tanks * room_of_row + factor_room))

-- what the printing of a condition from the place `at` on asks: no more tanks and digits than a case has, and room
pub record TextFits (n e at room : ℕ) : Type 0 where
  pub tanks : n ≤ most_tanks
  pub exponent_small : e ≤ most_exponent
  pub enough : at + text_room ≤ room

-- a text was written, and it has at most `limit` bytes
pub record WroteWithin (limit : ℕ) (text : List ℕ) (before after : TextWriter) : Type 0 where
  pub short : length text ≤ limit
  pub wrote : Writes text before after
