-- Every input has its whole text, which fits the room and is not empty; and the call's definition as the code meets it. Assumes nothing.
use Rattle.std.specs.Prelude.{ℕ, ◌^◌, ◌≤◌, ◌<◌, length, List, ◌≡◌, Err, Ok}
use Rattle.std.proofs.Common.{le-leb, lit≤, lit<, sym, ap, ◌∙◌, lt_of_lt_of_le, lt_of_le_of_lt, arith}
use Rattle.std.proofs.Math.Path.{refl}
use Rattle.buffer.specs.Buffer.{onto, Room, Wrote}
use Rattle.buffer.specs.Laws.{holds}
use Rattle.outcome.specs.CallResult.{check_room, call_result}
use Rattle.outcome.proofs.CallResultLaws.{written_count, written_short, written_whole}
use Rattle.outcome.specs.Outcome.{number_of, reported_outcome, Accepted, Outcome, Status}
use Rattle.outcome.specs.declared.Refusal.{Refusal}
use Rattle.outcome.specs.declared.Refusal.TheVariants.{BufferTooShort, FieldMissing, WrongTag, WrongLength, ValueCutShort, OutsideLimits, TrailingBytes, ZeroPivot, OutsideRange, OutsideTable, WrongMatrixHeader, WrongMatrixEntry}
use Rattle.casefile.specs.Decode.{decode}
use Rattle.ballast.proofs.AnswerBounds.{AnswerBounded, answer_bounded}
use Rattle.ballast.specs.Call.{Answer, answer_of}
use Rattle.report.specs.Text.{report, text, refusal_text, text_room, TextFits}
use Rattle.report.proofs.TextLaws.{ReportFits, length_text, length_refusal, some_text, some_refusal}
use Rattle.verdict_text.specs.Verdict.{text_by, text_of, printed_text, text_call}

-- ---- the text of every input

number_small : (r : Refusal) → number_of r < 10 ^ 3
number_small BufferTooShort = lit< tt
number_small FieldMissing = lit< tt
number_small WrongTag = lit< tt
number_small WrongLength = lit< tt
number_small ValueCutShort = lit< tt
number_small OutsideLimits = lit< tt
number_small TrailingBytes = lit< tt
number_small ZeroPivot = lit< tt
number_small OutsideRange = lit< tt
number_small OutsideTable = lit< tt
number_small WrongMatrixHeader = lit< tt
number_small WrongMatrixEntry = lit< tt

refusal_short : (r : Refusal) → length (refusal_text (number_of r)) ≤ text_room
refusal_short r = length_refusal (number_of r) (number_small r)

answer_fits : (x : Answer) → AnswerBounded x → ReportFits (report x.n x.exponent x.solution.rounds x.solution.trial x.solution.judgement)
answer_fits x b =
    record {
      tanks = b.recordable.rows;
      exponent_small = b.exponent_small;
      rounds_wide = lt_of_lt_of_le b.recordable.rounds_byte (lit≤ tt);
      unmet_wide = lt_of_lt_of_le b.recordable.unmet_byte (lit≤ tt);
      decides_wide = lt_of_lt_of_le b.recordable.decides_byte (lit≤ tt);
      answer_wide = λ j h. lt_of_le_of_lt (b.figures j) (lit< tt);
      residual_wide = λ i h. lt_of_lt_of_le (b.residuals i h) (lit≤ tt);
      reach_wide = λ i h. lt_of_lt_of_le (b.reaches i h) (lit≤ tt);
    }

-- by the answer's status
short_by : (t : Status) (x : Answer) → (t ≡ Accepted → AnswerBounded x) → length (text_by t x) ≤ text_room
short_by (Ok _) x b = length_text _ (answer_fits x (b refl))
short_by (Err r) x b = refusal_short r

some_by : (t : Status) (x : Answer) → 0 < length (text_by t x)
some_by (Ok _) x = some_text (report x.n x.exponent x.solution.rounds x.solution.trial x.solution.judgement)
some_by (Err r) x = some_refusal (number_of r)

module _ (input : List ℕ) where
  abbrev answer : Answer
  answer = answer_of (decode input)

  -- with the room that the call asks, no text is cut
  pub printed_fits : length (printed_text input) ≤ text_room
  unfolding printed_text text_of
  printed_fits = short_by answer.solution.status answer (answer_bounded input answer refl)

  -- and none is empty
  pub printed_some : 0 < length (printed_text input)
  unfolding printed_text text_of
  printed_some = some_by answer.solution.status answer

-- ---- the call

module _ (input out : List ℕ) where
  -- with the room, there is a count, and it is the whole text's
  pub text_whole : text_room ≤ length out → text_call input out ≡ call_result (Ok (length (printed_text input))) (onto (printed_text input) out)
  unfolding text_call
  text_whole h = rw (le-leb text_room (length out) h)

  -- every count is within the room
  pub text_count_le : (m : ℕ) → (text_call input out).outcome ≡ reported_outcome (Ok m) → m ≤ text_room
  unfolding text_call
  text_count_le m e = rw (written_count (check_room text_room (length out) Accepted) (printed_text input) out m e).count (printed_fits input)

-- a count's text lies within the buffer
pub text_inside : (input out exit : List ℕ) (o : Outcome) (m : ℕ) → call_result o exit ≡ text_call input out → o ≡ Ok m → m ≤ length exit
unfolding text_call
text_inside input out exit o m p e =
    let f = written_count (check_room text_room (length out) Accepted) (printed_text input) out m (ap (λ w. w.outcome) (sym p) ∙ ap reported_outcome e) in
    rw (ap (λ w. w.buffer) p, f.buffer) (holds m (printed_text input) out (sym f.count))

-- ---- as the code meets it

module _ (input out : List ℕ) where
  pub text_short : length out < text_room → call_result (Err BufferTooShort) out ≡ text_call input out
  unfolding text_call
  text_short h = written_short text_room Accepted (printed_text input) out h

  pub text_written : {t exit : List ℕ} {m : ℕ} → text_room ≤ length out → t ≡ printed_text input → Wrote t 0 out m exit → call_result (Ok m) exit ≡ text_call input out
  unfolding text_call
  text_written h e w = written_whole text_room Accepted (printed_text input) out h refl (rw e at w)

module _ (input : List ℕ) (x : Answer) (same : x ≡ answer_of (decode input)) where
  -- a refusal's line
  module _ (r : Refusal) (t : x.solution.status ≡ Err r) (k : ℕ) (e : k ≡ number_of r) where
    pub refusal_printed : refusal_text k ≡ printed_text input
    unfolding printed_text text_of
    refusal_printed = rw (← same, t, e)

    pub refusal_room : (out : List ℕ) → text_room ≤ length out → Room (refusal_text k) 0 out
    refusal_room out h = record { room = rw e (omega (arith, refusal_short r)) }

  -- an answer's lines
  module _ (t : x.solution.status ≡ Accepted) where
    pub answer_printed : text (report x.n x.exponent x.solution.rounds x.solution.trial x.solution.judgement) ≡ printed_text input
    unfolding printed_text text_of
    answer_printed = rw (← same, t)

    pub answer_room_lem : (room : ℕ) → text_room ≤ room → TextFits x.n x.exponent 0 room
    answer_room_lem room h =
        let b = answer_bounded input x same t in
        record { tanks = b.recordable.rows; exponent_small = b.exponent_small; enough = h }
