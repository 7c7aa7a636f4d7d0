-- Definitions only.
-- The writing of a case: what refuses it, and what the call answers and leaves in the buffer.
use Rattle.std.specs.Prelude.{ℕ, length, List}
use Rattle.outcome.specs.CallResult.{CallResult, write_if_accepted, check_room}
use Rattle.casefile.specs.Case.{Case, case_status}
use Rattle.casefile.specs.Layout.{encode, longest_case}
use Rattle.outcome.specs.Outcome.{Status}

-- "It refuses with 1 a buffer shorter than 388 bytes", and then as a case is refused
unfoldable pub write_status : Case → ℕ → Status
write_status c room = check_room longest_case room (case_status c)

-- "returns the case's length", "Bytes beyond the case stay untouched"
unfoldable pub write : Case → List ℕ → CallResult
write c out = write_if_accepted (write_status c (length out)) (encode c) out
