-- Definitions only.
-- What the program `verdict` prints for the bytes of a case, and what the call that prints it answers and leaves.
use Rattle.std.specs.Prelude.{ℕ, length, List, Err, Ok}
use Rattle.outcome.specs.CallResult.{CallResult, write_if_accepted, check_room}
use Rattle.outcome.specs.Outcome.{number_of, Accepted, Status}
use Rattle.casefile.specs.Decode.{decode}
use Rattle.ballast.specs.Call.{Answer, answer_of}
use Rattle.report.specs.Text.{report, text, refusal_text, text_room}

-- "For a refusal it prints `refused`, a space and the number"; otherwise the lines of the answer
abbrev pub text_by : Status → Answer → List ℕ
text_by (Ok _) a = text (report a.n a.exponent a.solution.rounds a.solution.trial a.solution.judgement)
text_by (Err r) a = refusal_text (number_of r)

unfoldable pub text_of : Answer → List ℕ
text_of a = text_by a.solution.status a

-- the whole text of any bytes, sound or spoiled
unfoldable pub printed_text : List ℕ → List ℕ
printed_text input = text_of (answer_of (decode input))

-- refusal 1 for a buffer that is shorter than the room, and otherwise the text over the buffer's front
unfoldable pub text_call : List ℕ → List ℕ → CallResult
text_call input out = write_if_accepted (check_room text_room (length out) Accepted) (printed_text input) out
