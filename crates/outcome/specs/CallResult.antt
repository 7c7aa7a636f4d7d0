-- Definitions only.
-- What a call that writes into a lent list, its buffer, answers, and what the list then holds.
use Rattle.std.specs.Prelude.{ℕ, leb, length, List, Ok, Err}
use Rattle.buffer.specs.Buffer.{onto}
use Rattle.outcome.specs.Outcome.{Outcome, Status, ReportedOutcome, reported_outcome, check, first}
use Rattle.outcome.specs.declared.Refusal.TheVariants.{BufferTooShort}

-- the answer as the paper has it, and what the list holds
pub record LentResult (X : Type 0) : Type 0 where
  pub outcome : ReportedOutcome
  pub buffer : List X

-- of a list of bytes
abbrev pub CallResult : Type 0
CallResult = LentResult ℕ

-- a call's answer and its list, as one
abbrev pub call_result : {X : Type 0} → Outcome → List X → LentResult X
call_result outcome buffer = record { outcome = reported_outcome outcome; buffer = buffer }

-- elements laid over a list's front, with the count that the call returns by its rule, and the places beyond them as they were; "Any refusal .. returns its
-- number and changes no byte"
abbrev pub leave_if_accepted : {X : Type 0} → Status → (List X → ℕ) → List X → List X → LentResult X
leave_if_accepted (Ok _) count elements out = call_result (Ok (count elements)) (onto elements out)
leave_if_accepted (Err r) count elements out = call_result (Err r) out

-- bytes written at a buffer's front: the number is their length
abbrev pub write_if_accepted : Status → List ℕ → List ℕ → CallResult
write_if_accepted t bytes out = leave_if_accepted t length bytes out

-- refusal 1 of a buffer that is shorter than the room asked, "checked once", and then as it goes on
abbrev pub check_room : ℕ → ℕ → Status → Status
check_room asked room next = first (check (leb asked room) BufferTooShort) next
