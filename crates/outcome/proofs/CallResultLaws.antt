-- What the result of a call that writes into a buffer tells, and the three ways through such a call. Assumes nothing.
use Rattle.std.specs.Prelude.{Ok, Err, ℕ, ◌≤◌, ◌<◌, length, take, List, ◌≡◌, refl}
use Rattle.std.proofs.Common.{le-leb, sym, ap, zero-add}
use Rattle.std.proofs.lemmas.Bool.{lt-leb}
use Rattle.buffer.specs.Buffer.{onto, Wrote}
use Rattle.buffer.specs.Laws.{take_onto}
use Rattle.outcome.specs.CallResult.{call_result, leave_if_accepted, write_if_accepted, check_room}
use Rattle.outcome.proofs.Laws.{no_count, same_refusal}
use Rattle.outcome.specs.Outcome.{Status, Accepted, reported_outcome}
use Rattle.outcome.specs.declared.Refusal.{Refusal}
use Rattle.outcome.specs.declared.Refusal.TheVariants.{BufferTooShort}

-- a count comes only where nothing is refused, and is the one that belongs to the elements at the list's front
pub record LentCount {X : Type 0} (t : Status) (count : List X → ℕ) (elements out : List X) (m : ℕ) : Type 0 where
  pub accepted : t ≡ Accepted
  pub number : m ≡ count elements
  pub buffer : (leave_if_accepted t count elements out).buffer ≡ onto elements out

pub lent_count : {X : Type 0} (t : Status) (count : List X → ℕ) (elements out : List X) (m : ℕ) → (leave_if_accepted t count elements out).outcome ≡ reported_outcome (Ok m)
    → LentCount t count elements out m
lent_count (Ok _) count elements out m e = record { accepted = refl; number = sym (ap (λ s. s.number) e); buffer = refl }
lent_count (Err r) count elements out m e = no_count r m e

-- of bytes, whose number is their length
pub record WrittenCount (t : Status) (bytes out : List ℕ) (m : ℕ) : Type 0 where
  pub accepted : t ≡ Accepted
  pub count : m ≡ length bytes
  pub buffer : (write_if_accepted t bytes out).buffer ≡ onto bytes out
  pub front : take m (write_if_accepted t bytes out).buffer ≡ bytes

pub written_count : (t : Status) (bytes out : List ℕ) (m : ℕ) → (write_if_accepted t bytes out).outcome ≡ reported_outcome (Ok m) → WrittenCount t bytes out m
written_count t bytes out m e =
    let w = lent_count t length bytes out m e in
    record { accepted = w.accepted; count = w.number; buffer = w.buffer; front = rw w.buffer (take_onto bytes out m (sym w.number)) }

-- a refusal is that of the status
pub written_refusal : (t : Status) (bytes out : List ℕ) (r : Refusal) → (write_if_accepted t bytes out).outcome ≡ reported_outcome (Err r) → t ≡ Err r
written_refusal (Ok _) bytes out r e = no_count r (length bytes) (sym e)
written_refusal (Err q) bytes out r e = ap Err (same_refusal q r e)

-- the three ways through a call that tests the room and then a status
module _ {X : Type 0} (asked : ℕ) (next : Status) (count : List X → ℕ) (elements out : List X) where
  pub lent_short : length out < asked → call_result (Err BufferTooShort) out ≡ leave_if_accepted (check_room asked (length out) next) count elements out
  lent_short h = rw (lt-leb asked (length out) h)

  pub lent_refused : (r : Refusal) → asked ≤ length out → next ≡ Err r → call_result (Err r) out ≡ leave_if_accepted (check_room asked (length out) next) count elements out
  lent_refused r h e = rw (le-leb asked (length out) h, e)

  pub lent_whole : {exit : List X} → asked ≤ length out → next ≡ Accepted → exit ≡ onto elements out
      → call_result (Ok (count elements)) exit ≡ leave_if_accepted (check_room asked (length out) next) count elements out
  lent_whole h e w = rw (le-leb asked (length out) h, e, w)

-- of bytes
module _ (asked : ℕ) (next : Status) (bytes out : List ℕ) where
  pub written_short : length out < asked → call_result (Err BufferTooShort) out ≡ write_if_accepted (check_room asked (length out) next) bytes out
  written_short h = lent_short asked next length bytes out h

  pub written_refused : (r : Refusal) → asked ≤ length out → next ≡ Err r → call_result (Err r) out ≡ write_if_accepted (check_room asked (length out) next) bytes out
  written_refused r h e = lent_refused asked next length bytes out r h e

  pub written_whole : {m : ℕ} {exit : List ℕ} → asked ≤ length out → next ≡ Accepted → Wrote bytes 0 out m exit
      → call_result (Ok m) exit ≡ write_if_accepted (check_room asked (length out) next) bytes out
  written_whole h e w = rw (le-leb asked (length out) h, e, w.place, w.bytes, zero-add (length bytes))
