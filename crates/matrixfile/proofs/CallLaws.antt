-- The calls as their users see them: what was written is read as what was meant, which texts are read alike, what a reading leaves, and that the case writer
-- takes it. Assumes nothing.
use Rattle.std.specs.Prelude.{ℕ, ◌*◌, ◌≤◌, leb, ℤ, pos, replicate, List, ◌≡◌, refl, Ok}
use Rattle.std.proofs.Common.{eq-eqb, drop_at, sym, ◌∙◌}
use Rattle.std.proofs.Math.ListN.{length, take, drop}
use Rattle.std.proofs.lemmas.List.{length-replicate}
use Rattle.std.proofs.Math.Path.{ap}
use Rattle.limits.specs.Limits.{most_coefficients, coefficient_limit}
use Rattle.buffer.specs.AllLaws.{all_replicate}
use Rattle.buffer.specs.Buffer.{onto}
use Rattle.buffer.specs.Laws.{take_onto}
use Rattle.outcome.specs.CallResult.{call_result, check_room}
use Rattle.outcome.proofs.CallResultLaws.{lent_count, lent_whole}
use Rattle.outcome.proofs.Laws.{first_right}
use Rattle.outcome.specs.Outcome.{check, reported_outcome, Accepted}
use Rattle.outcome.specs.declared.Refusal.TheVariants.{BufferTooShort}
use Rattle.figures.specs.Figures.{within_limit}
use Rattle.casefile.specs.Case.{case_of_lists, counted, rows_fine, figures_fine, case_status}
use Rattle.casefile.specs.Layout.{longest_case}
use Rattle.casefile.specs.Write.{write_status}
use Rattle.matrixfile.specs.Read.{tanks_in, text_status, coefficients_in, matrix_reading}
use Rattle.matrixfile.specs.Text.{matrix_text, matrix_status, matrix_writing}
use Rattle.matrixfile.specs.TextLaws.{MatrixFine, matrix_accepted, matrix_written, written_fine}
use Rattle.matrixfile.specs.Variation.{Varied, ReadAs}
use Rattle.matrixfile.proofs.VariationLaws.{varied_read, read_fine, read_varied, text_read}

-- ---- what was written is read as what was meant, whatever the list held

read_as : {n : ℕ} {A : List ℤ} {text : List ℕ} (list : List ℤ) → ReadAs n A text → most_coefficients ≤ length list → matrix_reading text list ≡ call_result (Ok n) (onto A list)
unfolding matrix_reading
read_as list r h = sym (rw (r.tanks, r.coefficients) (lent_whole most_coefficients _ _ _ list h r.accepted refl))

module _ (n : ℕ) (A : List ℤ) (out : List ℕ) (m : ℕ) (e : (matrix_writing n A out).outcome ≡ reported_outcome (Ok m)) (list : List ℤ) where
  pub read_written : most_coefficients ≤ length list → matrix_reading (take m (matrix_writing n A out).buffer) list ≡ call_result (Ok n) (onto A list)
  unfolding matrix_writing
  read_written h = rw (matrix_written n A out m e).front (read_as list (text_read (written_fine n A out m e)) h)

-- ---- a text changed in the ways of `Variation` is read as the writer's text is, into any list

pub varied_alike : {n : ℕ} {A : List ℤ} {text : List ℕ} → MatrixFine n A → Varied n A text → (list : List ℤ) → matrix_reading text list ≡ matrix_reading (matrix_text n A) list
unfolding matrix_reading
varied_alike good v list =
    let a = varied_read good v in
    let b = text_read good in
    rw (a.accepted, a.tanks, a.coefficients, b.accepted, b.tanks, b.coefficients)

-- ---- a matrix within the limits in a case: the case's status is that of the case whose coefficients are all 0

case_takes : (n : ℕ) (A : List ℤ) → MatrixFine n A → (exponent rounds : ℕ) (E : List ℕ) (b : List ℤ) (f : List ℕ) (Y : List ℤ)
    → case_status (case_of_lists n exponent rounds A E b f Y) ≡ case_status (case_of_lists n exponent rounds (replicate (n * n) (pos 0)) E b f Y)
unfolding case_status counted figures_fine rows_fine
case_takes n A good exponent rounds E b f Y =
    rw (
      eq-eqb (length A) (n * n) good.entries.count,
      good.entries.fine,
      eq-eqb (length (replicate (n * n) (pos 0))) (n * n) (length-replicate (n * n) (pos 0)),
      all_replicate (within_limit coefficient_limit) (n * n) (pos 0) refl,
    )

-- ---- what a reading leaves: n and its coefficients at the list's front, the places behind them as they were, within the limits, so that the writer refuses
-- nothing, and of a text that is theirs, changed in these ways only

pub record MatrixRead (n : ℕ) (text : List ℕ) (list left : List ℤ) : Type 0 where
  pub limits : MatrixFine n (take (n * n) left)
  pub accepted : matrix_status n (take (n * n) left) ≡ Accepted
  pub varied : Varied n (take (n * n) left) text
  pub kept : drop (n * n) left ≡ drop (n * n) list

module _ (text : List ℕ) (list : List ℤ) (n : ℕ) (e : (matrix_reading text list).outcome ≡ reported_outcome (Ok n)) where
  pub matrix_read : MatrixRead n text list (matrix_reading text list).buffer
  unfolding matrix_reading
  matrix_read =
      let A = coefficients_in text in
      let w = lent_count (check_room most_coefficients (length list) (text_status text)) (λ l. tanks_in text) A list n e in
      let accepted = first_right (check (leb most_coefficients (length list)) BufferTooShort) (text_status text) w.accepted in
      let good : MatrixFine n A = rw w.number (read_fine text accepted) in
      let count : length A ≡ n * n = good.entries.count in
      let front : take (n * n) (onto A list) ≡ A = take_onto A list (n * n) count in
      record {
        limits = rw (w.buffer, front) good;
        accepted = rw (w.buffer, front) (matrix_accepted n A good);
        varied = rw (w.buffer, front, w.number) (read_varied text accepted);
        kept = rw w.buffer (drop_at A (drop (length A) list) (n * n) count ∙ ap (λ (m : ℕ). drop m list) count);
      }

  -- the case writer takes it as coefficients: whatever the other figures and the buffer are, it refuses or not as if every coefficient were 0
  pub read_taken : (exponent rounds : ℕ) (E : List ℕ) (b : List ℤ) (f : List ℕ) (Y : List ℤ) (room : ℕ)
      → write_status (case_of_lists n exponent rounds (take (n * n) (matrix_reading text list).buffer) E b f Y) room ≡ write_status (case_of_lists n exponent rounds (replicate (n * n) (pos 0)) E b f Y) room
  unfolding write_status
  read_taken exponent rounds E b f Y room =
      ap (check_room longest_case room) (case_takes n (take (n * n) (matrix_reading text list).buffer) matrix_read.limits exponent rounds E b f Y)
