-- Demand 2's round trip, over what the writer and the reader promise: what was written is read back as what was meant, and what was read and is
-- written again has its old bytes. Assumes nothing.
use Rattle.std.specs.Prelude.{ℕ, ◌≤◌, take, List, ◌≡◌, Err, Ok}
use Rattle.std.proofs.Common.{leb-true, arith}
use Rattle.std.proofs.Math.ListN.{length}
use Rattle.buffer.specs.Laws.{length_onto}
use Rattle.outcome.specs.CallResult.{write_if_accepted, check_room}
use Rattle.outcome.proofs.CallResultLaws.{WrittenCount, written_count, written_refusal}
use Rattle.outcome.proofs.Laws.{check_accepted, first_left, first_right}
use Rattle.outcome.specs.Outcome.{reported_outcome, Accepted}
use Rattle.outcome.specs.declared.Refusal.{Refusal}
use Rattle.bigendian.specs.Number.{Bytes}
use Rattle.casefile.specs.Case.{Case, case_status}
use Rattle.casefile.proofs.CaseLaws.{decode_encode, encode_decode, decode_fine, longest}
use Rattle.casefile.specs.Decode.{accepted, decode}
use Rattle.casefile.specs.Layout.{longest_case, encode}
use Rattle.casefile.specs.Write.{write_status, write}

-- ---- written, then read

module _ (c : Case) (out : List ℕ) (m : ℕ) (e : (write c out).outcome ≡ reported_outcome (Ok m)) where
  written : WrittenCount (write_status c (length out)) (encode c) out m
  unfolding write
  written = written_count (write_status c (length out)) (encode c) out m e

  pub count_accepted : write_status c (length out) ≡ Accepted
  count_accepted = written.accepted

  fine : (longest_case ≤ length out) × (case_status c ≡ Accepted)
  unfolding write_status
  fine = search (written.accepted, first_left, first_right, check_accepted, leb-true)

  -- the count is within the longest case and the buffer
  pub count_le : m ≤ longest_case
  count_le = rw written.count (longest c fine.1)

  pub count_fits : m ≤ length (write c out).buffer
  unfolding write
  count_fits =
      let l : length (encode c) ≤ length out = omega (arith, written.count, count_le, fine.0) in
      rw (written.buffer, written.count, length_onto (encode c) out l) l

  -- what the writer wrote into any buffer is read back as what was meant
  pub written_read : decode (take m (write c out).buffer) ≡ accepted c
  unfolding write
  written_read = rw written.front (decode_encode c fine.1)

pub refused_status : (c : Case) (out : List ℕ) (r : Refusal) → (write c out).outcome ≡ reported_outcome (Err r) → write_status c (length out) ≡ Err r
unfolding write
refused_status c out r e = written_refusal (write_status c (length out)) (encode c) out r e

-- ---- read, then written

-- what was read and is written again has its old bytes, and those beyond them stay
pub read_written : (s : List ℕ) (c : Case) (out : List ℕ) → Bytes s → decode s ≡ accepted c
    → write c out ≡ write_if_accepted (check_room longest_case (length out) Accepted) s out
unfolding write write_status
read_written s c out bs e = rw (decode_fine s c e, encode_decode s c bs e)
