-- Definitions only.
-- What the readers of the head, the rows, the trial and the end ask and give, and what reading a whole case gives.
use Rattle.std.specs.Prelude.{ℕ, ◌≤◌, ℤ, pos, length, replicate, List, ◌≡◌, Result, Ok, Err, IfOk}
use Rattle.limits.specs.Limits.{most_tanks}
use Rattle.buffer.specs.Buffer.{onto}
use Rattle.rows.specs.Block.{Block, block, over, together}
use Rattle.outcome.specs.Outcome.{status_number, Status}
use Rattle.outcome.specs.declared.Refusal.{Refusal}
use Rattle.fields.specs.Due.{FieldsRead}
use Rattle.casefile.specs.Case.{Case}
use Rattle.casefile.specs.Decode.{head_tanks, head_exponent, head_rounds, head_status, row_at, row_status, rows_status, rows_of, trial_status, trial_of, tail_status, input_status, case_of, Decoded, accepted, refused, places, head_with}
use Rattle.casefile.specs.declared.CaseFigures.{CaseFigures}
use Rattle.casefile.specs.declared.CaseHead.{CaseHead}

-- ---- the parts

-- the head at the front of s
abbrev pub head_of : List ℕ → CaseHead
head_of s = head_with (head_tanks s) (head_exponent s) (head_rounds s)

pub record HeadFound (s : List ℕ) (r : Result CaseHead Refusal) : Type 0 where
  pub number : status_number r ≡ status_number (head_status s)
  pub head : IfOk r (λ head. head ≡ head_of s)

-- one row's field at the front of s
abbrev pub RowFound : ℕ → List ℕ → Status → Block → Type 0
RowFound n s r lists = FieldsRead (row_status n s) (row_at n s) r lists

-- n rows' fields at the front of s, their figures over the lists' fronts
abbrev pub RowsFound : ℕ → List ℕ → Block → Status → Block → Type 0
RowsFound n s entry r exit = FieldsRead (rows_status n n s) (over (together (rows_of n n s)) entry) r exit

-- n within its limit, and room for the figures of a trial
pub record TrialFits (n : ℕ) (Y : List ℤ) : Type 0 where
  pub small : n ≤ most_tanks
  pub room : n ≤ length Y

-- the trial's field at the front of s, where the case brings one
abbrev pub TrialFound : ℕ → ℕ → List ℕ → List ℤ → Status → List ℤ → Type 0
TrialFound rounds n s entry r exit = FieldsRead (trial_status rounds n s) (onto (trial_of rounds n s) entry) r exit

-- the same, and the end field behind it
abbrev pub TailFound : ℕ → ℕ → List ℕ → List ℤ → Status → List ℤ → Type 0
TailFound rounds n s entry r exit = FieldsRead (tail_status rounds n s) (onto (trial_of rounds n s) entry) r exit

-- ---- the whole

-- the lists that a caller lends: document 01's A, E, b and f, and its trial Y
pub record CaseLists : Type 0 where
  pub rows : Block
  pub Y : List ℤ

abbrev pub case_lists : List ℤ → List ℕ → List ℤ → List ℕ → List ℤ → CaseLists
case_lists A E b f Y = record { rows = block A E b f; Y = Y }

-- of the arrays that the program has
abbrev pub rows_in : CaseFigures → Block
rows_in f = block f.coefficients f.tolerances f.right_sides f.right_tolerances

abbrev pub lists_in : CaseFigures → CaseLists
lists_in f = case_lists f.coefficients f.tolerances f.right_sides f.right_tolerances f.trial

abbrev pub zero_lists : CaseLists
zero_lists = record { rows = places; Y = replicate most_tanks (pos 0) }

abbrev pub head_in : Case → CaseHead
head_in c = head_with c.n c.exponent c.rounds

-- what a reading answers, and what it leaves in the lists: the case's figures over their fronts and the places beyond as they were, or beside a
-- refusal zeros
abbrev pub head_read : Decoded → Result CaseHead Refusal
head_read (accepted c) = Ok (head_in c)
head_read (refused q) = Err q

abbrev pub lists_read : Decoded → CaseLists → CaseLists
lists_read (accepted c) before = record { rows = over c.rows before.rows; Y = onto c.Y before.Y }
lists_read (refused q) before = zero_lists

-- what is promised of it: the refusal by the paper's number, where nothing is refused n, the exponent and the rounds, and the lists
pub record CaseReadInto (d : Decoded) (before : CaseLists) (r : Result CaseHead Refusal) (after : CaseLists) : Type 0 where
  pub number : status_number r ≡ status_number (head_read d)
  pub head : IfOk r (λ head. Ok head ≡ head_read d)
  pub lists : after ≡ lists_read d before

-- all fields of s, before the lists are cleared beside a refusal: the first refusal, or the head and the figures over the lists' fronts
pub record CaseFound (s : List ℕ) (before : CaseLists) (r : Result CaseHead Refusal) (after : CaseLists) : Type 0 where
  pub number : status_number r ≡ status_number (input_status s)
  pub made : IfOk r (λ head. (head ≡ head_in (case_of s)) × (after ≡ lists_read (accepted (case_of s)) before))
