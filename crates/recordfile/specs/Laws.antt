-- How long the parts of a condition and a record are, where the fields end, and a field whose value begins with a flag, stored. Assumes nothing.
use Rattle.std.specs.Prelude.{ℕ, ◌+◌, ◌≤◌, ℤ, pos, length, get_or, Bool, List, [], ◌∷◌, ◌≡◌}
use Rattle.std.proofs.Math.ListN.{length-append}
use Rattle.std.proofs.lemmas.List.Edits.{sets}
use Rattle.std.proofs.Common.{ap, ◌∙◌, arith}
use Rattle.limits.specs.Limits.{most_tanks}
use Rattle.buffer.specs.Buffer.{onto, run}
use Rattle.buffer.specs.RunLaws.{length_run}
use Rattle.judge.specs.Judgement.{Judgement}
use Rattle.figures.proofs.FigureLaws.{length_figure}
use Rattle.figures.specs.Figures.{i32_kind, i64_kind, u64_kind, figure_bytes}
use Rattle.fields.specs.Field.{header_size, header, field, end_tag, end_field}
use Rattle.fields.proofs.FieldLaws.{length_field, field_stored}
use Rattle.recordfile.specs.Layout.{answer_length, pair_size, rows_length, answer_place, condition_rows_at, factor_at, condition_length, verdict_tag, answer_tag, rows_tag, factor_tag, flag, answer_bytes, pair_at, verdict_field, answer_field, rows_field, factor_field, condition_fields, record_of, record_length, longest_record}

pub length_answer : (Y : List ℤ) (j : ℕ) → length (answer_bytes Y j) ≡ i32_kind.width
length_answer Y j = length_figure i32_kind (get_or Y j (pos 0))

pub length_pair : (R : List ℤ) (T : List ℕ) (i : ℕ) → length (pair_at R T i) ≡ pair_size
length_pair R T i =
    let r = get_or R i (pos 0) in
    let t = get_or T i 0 in
    length-append (figure_bytes i64_kind r) (figure_bytes u64_kind t) ∙ omega (arith, length_figure i64_kind r, length_figure u64_kind t)

pub length_answers : (n : ℕ) (Y : List ℤ) → length (run n (answer_bytes Y)) ≡ answer_length n
length_answers n Y = length_run i32_kind.width (answer_bytes Y) (length_answer Y) n

pub length_pairs : (n : ℕ) (R : List ℤ) (T : List ℕ) → length (run n (pair_at R T)) ≡ rows_length n
length_pairs n R T = length_run pair_size (pair_at R T) (length_pair R T) n

-- ---- the fields one behind the other

module _ (n rounds : ℕ) (Y : List ℤ) (j : Judgement) where
  -- each ends where the next begins, and the last with the condition
  pub record Ends : Type 0 where
    pub verdict : length (verdict_field j.met j.unmet rounds) ≡ answer_place
    pub answer : answer_place + length (answer_field n Y) ≡ condition_rows_at n
    pub rows : condition_rows_at n + length (rows_field n j.residuals j.reaches) ≡ factor_at n
    pub factor : factor_at n + length (factor_field j.none j.decides) ≡ condition_length n

  pub ends : Ends
  ends =
      let R = j.residuals in
      let T = j.reaches in
      record {
        verdict = length_field verdict_tag (flag j.met ∷ j.unmet ∷ rounds ∷ []);
        answer = omega (arith, length_field answer_tag (run n (answer_bytes Y)), length_answers n Y);
        rows = omega (arith, length_field rows_tag (run n (pair_at R T)), length_pairs n R T);
        factor = omega (arith, length_field factor_tag (flag j.none ∷ j.decides ∷ []));
      }

  pub length_condition : length (condition_fields n rounds Y j) ≡ condition_length n
  unfolding condition_fields
  length_condition = simp length-append (omega (arith, ends))

  -- "It has 20 + 20n bytes, at most 180"
  pub length_record : length (record_of n rounds Y j) ≡ record_length n
  unfolding record_of
  length_record = omega (arith, length-append (condition_fields n rounds Y j) end_field, length_condition, length_field end_tag [])

pub longest_record_lem : (n : ℕ) → n ≤ most_tanks → record_length n ≤ longest_record
longest_record_lem n h = omega arith

-- a flag and the bytes behind it, stored behind the header
pub flag_stored : (tag : ℕ) (b : Bool) (v out l : List ℕ) {m : ℕ} → m ≡ flag b → header_size + length (m ∷ v) ≤ length l
    → l ≡ onto (header tag (length (m ∷ v))) out → sets l header_size (m ∷ v) ≡ onto (field tag (flag b ∷ v)) out
flag_stored tag b v out l {m} e h g = field_stored tag (m ∷ v) out l h g ∙ ap (λ x. onto (field tag (x ∷ v)) out) e
