-- Definitions only.
-- The papers' number of each refusal, of each outcome and of each status, and the first of two checks that refuses.
use Rattle.std.specs.Prelude.{ℕ, ◌-◌, get_or, Bool, true, false, List, [], ◌∷◌, Result, Ok, Err, ⊤}
use Rattle.outcome.specs.declared.Refusal.{Refusal}
use Rattle.outcome.specs.declared.Refusal.TheVariants.{BufferTooShort, FieldMissing, WrongTag, WrongLength, ValueCutShort, OutsideLimits, TrailingBytes, ZeroPivot, OutsideRange, OutsideTable, WrongMatrixHeader, WrongMatrixEntry}

-- the answer of a call: a count, or why it refuses
abbrev pub Outcome : Type 0
Outcome = Result ℕ Refusal

-- the answer of a check: nothing, or why it refuses
abbrev pub Status : Type 0
Status = Result ⊤ Refusal

abbrev pub Accepted : Status
Accepted = Ok tt

-- document 01, "Refused, in this order"
abbrev pub number_of : Refusal → ℕ
number_of BufferTooShort = 1
number_of FieldMissing = 2
number_of WrongTag = 3
number_of WrongLength = 4
number_of ValueCutShort = 5
number_of OutsideLimits = 6
number_of TrailingBytes = 7
number_of ZeroPivot = 8
number_of OutsideRange = 9
-- document 02, "Soundings for the mate": "It refuses, with 10 and after 1 to 9"
number_of OutsideTable = 10
-- document 02, "Matrix Market files": "Reading refuses with 11 .. and then with 12 .."
number_of WrongMatrixHeader = 11
number_of WrongMatrixEntry = 12

-- the refusals in the order of their numbers
abbrev pub refusals : List Refusal
refusals =
    BufferTooShort
    ∷ FieldMissing
    ∷ WrongTag
    ∷ WrongLength
    ∷ ValueCutShort
    ∷ OutsideLimits
    ∷ TrailingBytes
    ∷ ZeroPivot
    ∷ OutsideRange
    ∷ OutsideTable
    ∷ WrongMatrixHeader
    ∷ WrongMatrixEntry
    ∷ []

-- the refusal that has a number; of those that none has, 0 goes to the first and the others to the last
abbrev pub refusal_of : ℕ → Refusal
refusal_of k = get_or refusals (k - 1) WrongMatrixEntry

-- "Every outcome says whether its number is a count or a refusal": whether it refuses, and its number
abbrev pub refuses : Outcome → Bool
refuses (Ok m) = false
refuses (Err r) = true

abbrev pub outcome_number : Outcome → ℕ
outcome_number (Ok m) = m
outcome_number (Err r) = number_of r

-- an outcome as the paper has it, in which every promise of a call is made
pub record ReportedOutcome : Type 0 where
  pub refused : Bool
  pub number : ℕ

abbrev pub reported_outcome : Outcome → ReportedOutcome
reported_outcome o = record { refused = refuses o; number = outcome_number o }

-- a status as the paper has it, in which every promise of a check is made: 0 where nothing is refused, whatever is answered then
abbrev pub status_number : {A : Type 0} → Result A Refusal → ℕ
status_number (Ok _) = 0
status_number (Err r) = number_of r

-- a test, and the refusal where it fails
abbrev pub check : Bool → Refusal → Status
check true r = Accepted
check false r = Err r

-- the first refusal of two checks
abbrev pub first : Status → Status → Status
first (Ok _) t = t
first (Err r) t = Err r
