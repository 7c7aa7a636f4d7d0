-- Definitions only.
-- What the round trips give.
use Rattle.std.specs.Prelude.{ℕ, length, List, ◌≡◌, Result, Err}
use Rattle.outcome.specs.CallResult.{CallResult, write_if_accepted, check_room}
use Rattle.outcome.specs.Outcome.{Accepted}
use Rattle.outcome.specs.declared.Refusal.{Refusal}
use Rattle.casefile.specs.Case.{Case}
use Rattle.casefile.specs.Decode.{Decoded, accepted, refused, decoded, CaseRead}
use Rattle.casefile.specs.Layout.{longest_case}
use Rattle.casefile.specs.Write.{write_status, write}
use Rattle.casefile.specs.declared.StoredCase.{StoredCase}

-- "what the writer wrote into any buffer is read back as what was meant"; where it refused, the refusal; and what the buffer holds
pub record WrittenAndRead (c : Case) (entry : List ℕ) (read : Result StoredCase Refusal) (exit : List ℕ) : Type 0 where
  pub back : CaseRead (decoded (write_status c (length entry)) c) read
  pub buffer : exit ≡ (write c entry).buffer

-- "what was read and written again has its old bytes": s over the front of out, where out has the room that the writer asks
abbrev pub written_again : Decoded → List ℕ → List ℕ → CallResult
written_again (accepted c) s out = write_if_accepted (check_room longest_case (length out) Accepted) s out
written_again (refused r) s out = write_if_accepted (Err r) s out
