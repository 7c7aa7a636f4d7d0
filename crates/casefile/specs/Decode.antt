-- Definitions only.
-- What reading bytes as a case gives: the first refusal in document 01's order ("fields are taken from the front, and at each field 2 to 6 in
-- turn"), or the case; and the case in arrays with zeros behind its figures, which only the round trip returns.
use Rattle.std.specs.Prelude.{ℕ, zero, suc, ℤ, pos, get_or, drop, replicate, List, [], ◌≡◌, Result, Ok, Err, IfOk}
use Rattle.limits.specs.Limits.{most_tanks, most_coefficients, trial_limit}
use Rattle.buffer.specs.Buffer.{onto}
use Rattle.rows.specs.Block.{Block, block, over, together}
use Rattle.outcome.specs.Outcome.{Status, Accepted, status_number, first}
use Rattle.outcome.specs.declared.Refusal.{Refusal}
use Rattle.figures.specs.Figures.{i16_kind, u16_kind, i32_kind, u32_kind, all_within_limit, items, figures, spread}
use Rattle.fields.specs.Due.{Due, due_at, due_status, end_status}
use Rattle.casefile.specs.Case.{Case, case_with, head_is_fine, where_trial_given, rows_fine}
use Rattle.casefile.specs.Layout.{head_tag, head_length, head_value, n_in, exponent_in, rounds_in, rows_at, row_tag, row_length, row_size, tolerances_in, right_side_in, right_tolerance_in, rows_end, row_bytes, trial_tag, trial_kind, trial_length, trial_size}
use Rattle.casefile.specs.declared.CaseFigures.{CaseFigures}
use Rattle.casefile.specs.declared.CaseHead.{CaseHead}
use Rattle.casefile.specs.declared.StoredCase.{StoredCase}

-- ---- the head: n, e, K

pub record HeadFigures : Type 0 where
  pub n : ℕ
  pub exponent : ℕ
  pub rounds : ℕ

abbrev pub head_due : Due HeadFigures
head_due =
    record {
      tag = head_tag;
      len = head_length;
      read = λ v. record { n = get_or v n_in 0; exponent = get_or v exponent_in 0; rounds = get_or v rounds_in 0 };
      fine = λ h. head_is_fine h.n h.exponent h.rounds;
      write = λ h. head_value h.n h.exponent h.rounds;
    }

-- of the head whose field stands at the front of s
abbrev pub head_tanks : List ℕ → ℕ
head_tanks s = (due_at head_due s).n

abbrev pub head_exponent : List ℕ → ℕ
head_exponent s = (due_at head_due s).exponent

abbrev pub head_rounds : List ℕ → ℕ
head_rounds s = (due_at head_due s).rounds

unfoldable pub head_status : List ℕ → Status
head_status s = due_status head_due s

-- ---- rows

-- the row whose value stands at the front of v
unfoldable pub row_of : ℕ → List ℕ → Block
row_of n v =
    block
    (figures i16_kind n v)
    (figures u16_kind n (drop (tolerances_in n) v))
    (figures i32_kind 1 (drop (right_side_in n) v))
    (figures u32_kind 1 (drop (right_tolerance_in n) v))

abbrev pub row_due : ℕ → Due Block
row_due n = record { tag = row_tag; len = row_length n; read = row_of n; fine = rows_fine; write = row_bytes }

-- the row whose field stands at the front of s
abbrev pub row_at : ℕ → List ℕ → Block
row_at n s = due_at (row_due n) s

unfoldable pub row_status : ℕ → List ℕ → Status
row_status n s = due_status (row_due n) s

-- m rows, one field after another: the first refusal, and the rows
unfoldable pub rows_status : ℕ → ℕ → List ℕ → Status
rows_status n zero s = Accepted
rows_status n (suc m) s = first (row_status n s) (rows_status n m (drop (row_size n) s))

abbrev pub rows_of : ℕ → ℕ → List ℕ → List Block
rows_of n m s = items (row_size n) (row_at n) m s

-- ---- the trial, where K is 0

abbrev pub trial_due : ℕ → Due (List ℤ)
trial_due n = record { tag = trial_tag; len = trial_length n; read = figures trial_kind n; fine = all_within_limit trial_limit; write = spread trial_kind }

unfoldable pub trial_status : ℕ → ℕ → List ℕ → Status
trial_status k n s = where_trial_given k (due_status (trial_due n) s) Accepted

unfoldable pub trial_of : ℕ → ℕ → List ℕ → List ℤ
trial_of k n s = where_trial_given k (due_at (trial_due n) s) []

-- what follows the rows: the trial and the end
unfoldable pub tail_status : ℕ → ℕ → List ℕ → Status
tail_status k n s = first (trial_status k n s) (end_status (drop (trial_size k n) s))

-- ---- the whole

-- what is left after the head, and after the rows
abbrev pub after_head : List ℕ → List ℕ
after_head s = drop rows_at s

abbrev pub after_rows : List ℕ → List ℕ
after_rows s = drop (rows_end (head_tanks s)) s

unfoldable pub input_status : List ℕ → Status
input_status s =
    first (head_status s)
    (first (rows_status (head_tanks s) (head_tanks s) (after_head s)) (tail_status (head_rounds s) (head_tanks s) (after_rows s)))

unfoldable pub case_of : List ℕ → Case
case_of s =
    case_with (head_tanks s) (head_exponent s) (head_rounds s)
    (together (rows_of (head_tanks s) (head_tanks s) (after_head s)))
    (trial_of (head_rounds s) (head_tanks s) (after_rows s))

pub data Decoded : Type 0 where
  accepted : Case → Decoded
  refused : Refusal → Decoded

abbrev pub decoded : Status → Case → Decoded
decoded (Ok _) c = accepted c
decoded (Err r) c = refused r

unfoldable pub decode : List ℕ → Decoded
decode s = decoded (input_status s) (case_of s)

-- ---- what was read, in arrays with zeros behind the figures

-- a list at the front of k places that were zero
abbrev pub padded : {X : Type 0} → ℕ → X → List X → List X
padded k z l = onto l (replicate k z)

-- places for the rows of any case
abbrev pub places : Block
places = block (replicate most_coefficients (pos 0)) (replicate most_coefficients 0) (replicate most_tanks (pos 0)) (replicate most_tanks 0)

abbrev pub head_with : ℕ → ℕ → ℕ → CaseHead
head_with n exponent rounds = record { n = n; exponent = exponent; rounds = rounds }

abbrev pub figures_with : Block → List ℤ → CaseFigures
figures_with rows trial =
    record {
      coefficients = rows.A;
      tolerances = rows.E;
      right_sides = rows.b;
      right_tolerances = rows.f;
      trial = trial;
    }

abbrev pub held : ℕ → ℕ → ℕ → Block → List ℤ → StoredCase
held n exponent rounds rows trial = record { head = head_with n exponent rounds; figures = figures_with rows trial }

unfoldable pub stored : Case → StoredCase
stored c = held c.n c.exponent c.rounds (over c.rows places) (padded most_tanks (pos 0) c.Y)

unfoldable pub reading : Decoded → Result StoredCase Refusal
reading (accepted c) = Ok (stored c)
reading (refused r) = Err r

-- what is promised of a reading: the status by the paper's number, and where nothing is refused the case
pub record CaseRead (d : Decoded) (r : Result StoredCase Refusal) : Type 0 where
  pub number : status_number r ≡ status_number (reading d)
  pub case : IfOk r (λ c. Ok c ≡ reading d)
