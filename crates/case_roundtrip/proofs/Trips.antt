-- What a caller learns from the reader's and the writer's contracts.
-- Assumes nothing.
use Prim.Native.Nat.{ℕ, ◌*◌, ◌≤◌}
use lib.IntN.{pos}
use lib.ListN.{length, take, replicate}
use mathlib.Core.List.{List}
use mathlib.Core.Path.{◌≡◌, refl, sym, ap, ◌∙◌}
use native.Mathlib.Omega.{arith}
use Rattle.std.specs.Prelude.{Result, Err, Ok}
use Rattle.limits.specs.Limits.{most_tanks, most_coefficients}
use Rattle.buffer.specs.Laws.{take_onto, holds}
use Rattle.rows.specs.Block.{Block, block, RowsRoom, front}
use Rattle.rows.specs.BlockLaws.{front_over, room_over}
use Rattle.outcome.proofs.Laws.{same_answer}
use Rattle.outcome.specs.CallResult.{call_result}
use Rattle.outcome.specs.Outcome.{reported_outcome, Outcome}
use Rattle.outcome.specs.declared.Refusal.{Refusal}
use Rattle.bigendian.specs.Number.{Bytes}
use Rattle.casefile.specs.Case.{Case, case_with, trial_count_due}
use Rattle.casefile.proofs.CaseLaws.{Good, decode_good}
use Rattle.casefile.specs.Decode.{Decoded, accepted, refused, decode, places, stored, reading, CaseRead}
use Rattle.casefile.proofs.RowsLaws.{square_fits}
use Rattle.casefile.specs.SoundLaws.{counts}
use Rattle.casefile.proofs.TailLaws.{given_trial_most}
use Rattle.casefile.specs.Write.{write}
use Rattle.casefile.proofs.WriteLaws.{count_accepted, count_fits, written_read, refused_status, read_written}
use Rattle.casefile.specs.declared.CaseFigures.{CaseFigures}
use Rattle.casefile.specs.declared.StoredCase.{StoredCase}
use Rattle.case_roundtrip.specs.Trip.{WrittenAndRead, written_again}

-- ---- what a reading answers

pub record Held (d : Decoded) (w : StoredCase) : Type 0 where
  pub figures : Case
  pub decoded : d ≡ accepted figures
  pub same : w ≡ stored figures

pub held_case : (d : Decoded) {w : StoredCase} → CaseRead d (Ok w) → Held d w
unfolding reading
held_case (accepted c) {w} q =
    let e : ◌≡◌ {A = Result StoredCase Refusal} (Ok w) (Ok (stored c)) = q.case in
    let f : w ≡ stored c = cc in
    record { figures = c; decoded = refl; same = f }
held_case (refused x) {w} q =
    let e : ◌≡◌ {A = Result StoredCase Refusal} (Ok w) (Err x) = q.case in
    cc

told : (d : Decoded) {q : Refusal} → CaseRead d (Err q) → d ≡ refused q
unfolding reading
told (accepted c) {q} r =
    let e : ◌≡◌ {A = Result StoredCase Refusal} (Err q) (Ok (stored c)) = same_answer (Err q) (Ok (stored c)) r.number tt in
    cc
told (refused x) {q} r =
    let e : ◌≡◌ {A = Result StoredCase Refusal} (Err q) (Err x) = same_answer (Err q) (Err x) r.number tt in
    let f : q ≡ x = cc in
    ap refused (sym f)

pub not_read : (s out : List ℕ) {q : Refusal} → CaseRead (decode s) (Err q) → {o : Outcome} → o ≡ Err q → call_result o out ≡ written_again (decode s) s out
not_read s out r k = rw (k, told (decode s) r)

-- ---- written, then read

module _ (c : Case) (out : List ℕ) {exit : List ℕ} where
  answer : (o : Outcome) → call_result o exit ≡ write c out → (write c out).outcome ≡ reported_outcome o
  answer o e = sym (ap (λ w. w.outcome) e)

  module _ (m : ℕ) (e : call_result (Ok m) exit ≡ write c out) where
    pub fits : m ≤ length exit
    fits = rw (← (ap (λ w. w.buffer) e)) at (count_fits c out m (answer (Ok m) e))

    pub is_read : {r : Result StoredCase Refusal} → CaseRead (decode (take m exit)) r → WrittenAndRead c out r exit
    is_read q =
        let d : decode (take m exit) ≡ accepted c = rw (← (ap (λ w. w.buffer) e)) at (written_read c out m (answer (Ok m) e)) in
        record { back = rw (count_accepted c out m (answer (Ok m) e)) (rw d at q); buffer = ap (λ w. w.buffer) e }

  pub is_refused : (q : Refusal) → call_result (Err q) exit ≡ write c out → {r : Result StoredCase Refusal} → r ≡ Err q → WrittenAndRead c out r exit
  unfolding reading
  is_refused q e k =
      record { back = rw (refused_status c out q (answer (Err q) e), k) (record { number = refl; case = tt }); buffer = ap (λ w. w.buffer) e }

-- ---- read, then written

abbrev rows_in : CaseFigures → Block
rows_in f = block f.coefficients f.tolerances f.right_sides f.right_tolerances

-- the case of the lists that are handed on, k figures of its trial
abbrev handed : StoredCase → ℕ → Case
handed w k =
    case_with w.head.n w.head.exponent w.head.rounds (front (w.head.n * w.head.n) w.head.n (rows_in w.figures))
    (take k w.figures.trial)

pub record Small (w : StoredCase) : Type 0 where
  pub rows : RowsRoom w.head.n (rows_in w.figures)
  pub square : w.head.n * w.head.n ≤ most_coefficients
  pub trial_count_lem : trial_count_due w.head.rounds w.head.n ≤ most_tanks
  pub trial : trial_count_due w.head.rounds w.head.n ≤ length w.figures.trial

module _ (s : List ℕ) {w : StoredCase} (h : Held (decode s) w) where
  abbrev c : Case
  c = h.figures

  fine : Good c
  fine = decode_good s c h.decoded

  pub small : Small w
  unfolding stored
  small =
      rw h.same
      (record {
        rows = record { small = fine.limits.small; room = room_over c.rows places (counts fine.rows) };
        square = square_fits _ fine.limits.small;
        trial_count_lem = omega (arith, fine.limits.small, given_trial_most c.rounds c.n);
        trial = holds _ c.Y (replicate most_tanks (pos 0)) fine.trial.count;
      })

  given_is : (k : ℕ) → k ≡ trial_count_due w.head.rounds w.head.n → handed w k ≡ c
  unfolding stored
  given_is k q =
      ap (handed w) q
      ∙ ap (λ x. handed x (trial_count_due x.head.rounds x.head.n)) h.same
      ∙ rw (front_over c.rows places (counts fine.rows), take_onto c.Y (replicate most_tanks (pos 0)) _ fine.trial.count)

  pub again : (k : ℕ) → k ≡ trial_count_due w.head.rounds w.head.n → Bytes s → (out : List ℕ) → write (handed w k) out ≡ written_again (decode s) s out
  again k q bs out = rw (given_is k q, h.decoded) (read_written s c out bs h.decoded)
