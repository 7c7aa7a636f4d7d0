-- Definitions only.
-- The bytes of a record: document 01, "A record is". The fields 10 to 13 are those of one condition, and their places are counted from where they
-- begin.
use Rattle.std.specs.Prelude.{ℕ, ◌+◌, ◌*◌, ◌≤◌, ◌<◌, ℤ, pos, get_or, Bool, true, false, List, [], ◌∷◌, ◌++◌, ◌≡◌}
use Rattle.limits.specs.Limits.{most_tanks}
use Rattle.buffer.specs.Buffer.{run, concat}
use Rattle.judge.specs.Judgement.{Judgement}
use Rattle.figures.specs.Figures.{i32_kind, i64_kind, u64_kind, figure_bytes}
use Rattle.fields.specs.Field.{header_size, field, end_field}
use Rattle.recordfile.specs.declared.ConditionPlaces.{ConditionPlaces}

-- the tags 10, 11, 12 and 13, hexadecimal
abbrev pub verdict_tag : ℕ
verdict_tag = 0x10

abbrev pub answer_tag : ℕ
answer_tag = 0x11

abbrev pub rows_tag : ℕ
rows_tag = 0x12

abbrev pub factor_tag : ℕ
factor_tag = 0x13

-- lengths of the values of n figures and rows: "residual (8 bytes, signed) and reach (8 bytes, unsigned)" for each row
abbrev pub verdict_length : ℕ
verdict_length = 3

abbrev pub answer_length : ℕ → ℕ
answer_length n = i32_kind.width * n

-- where a row's reach stands in its pair, and how long the pair is: "that row's sixteen bytes"
abbrev pub reach_at : ℕ
reach_at = i64_kind.width

abbrev pub pair_size : ℕ
pair_size = reach_at + u64_kind.width

abbrev pub rows_length : ℕ → ℕ
rows_length n = pair_size * n

abbrev pub factor_length : ℕ
factor_length = 2

-- where the parts of field 10 stand, with which a condition's fields begin
abbrev pub met_at : ℕ
met_at = header_size

abbrev pub unmet_at : ℕ
unmet_at = met_at + 1

abbrev pub rounds_at : ℕ
rounds_at = unmet_at + 1

-- where the other fields begin, each behind the one before it
abbrev pub answer_place : ℕ
answer_place = header_size + verdict_length

abbrev pub condition_rows_at : ℕ → ℕ
condition_rows_at n = answer_place + header_size + answer_length n

abbrev pub factor_at : ℕ → ℕ
factor_at n = condition_rows_at n + header_size + rows_length n

-- how long the fields 10 to 13 are together: where the end field begins
abbrev pub condition_length : ℕ → ℕ
condition_length n = factor_at n + header_size + factor_length

-- the lengths and places of the fields of a condition with n figures and rows, as the program holds them
pub record ConditionPlaced (n : ℕ) (r : ConditionPlaces) : Type 0 where
  pub answer_len : r.answer_len ≡ answer_length n
  pub rows : r.rows ≡ condition_rows_at n
  pub rows_len : r.rows_len ≡ rows_length n
  pub factor : r.factor ≡ factor_at n
  pub len : r.len ≡ condition_length n

-- where the parts of field 13 stand
abbrev pub none_at : ℕ → ℕ
none_at n = factor_at n + header_size

abbrev pub decides_at : ℕ → ℕ
decides_at n = none_at n + 1

abbrev pub flag : Bool → ℕ
flag true = 1
flag false = 0

abbrev pub pair : ℤ → ℕ → List ℕ
pair R T = figure_bytes i64_kind R ++ figure_bytes u64_kind T

-- "1 for met or 0 for not met; the first unmet row or 0; rounds used"
abbrev pub verdict_field : Bool → ℕ → ℕ → List ℕ
verdict_field met unmet rounds = field verdict_tag (flag met ∷ unmet ∷ rounds ∷ [])

-- "the answer, 4 bytes each": tank j's, from 0, and the first n figures of Y
abbrev pub answer_bytes : List ℤ → ℕ → List ℕ
answer_bytes Y j = figure_bytes i32_kind (get_or Y j (pos 0))

abbrev pub answer_field : ℕ → List ℤ → List ℕ
answer_field n Y = field answer_tag (run n (answer_bytes Y))

-- "Each row's pair is written into that row's sixteen bytes": row i's, from 0
abbrev pub pair_at : List ℤ → List ℕ → ℕ → List ℕ
pair_at R T i = pair (get_or R i (pos 0)) (get_or T i 0)

abbrev pub rows_field : ℕ → List ℤ → List ℕ → List ℕ
rows_field n R T = field rows_tag (run n (pair_at R T))

-- "0 for a factor or 1 for none; the row that decides"
abbrev pub factor_field : Bool → ℕ → List ℕ
factor_field none decides = field factor_tag (flag none ∷ decides ∷ [])

-- the fields 10 to 13 of one condition, in this order: an answer of n figures, the rounds used and its judgement
unfoldable pub condition_fields : ℕ → ℕ → List ℤ → Judgement → List ℕ
condition_fields n rounds Y j =
    concat
    (verdict_field j.met j.unmet rounds
    ∷ answer_field n Y
    ∷ rows_field n j.residuals j.reaches
    ∷ factor_field j.none j.decides
    ∷ [])

-- "A record is": those fields, and "FF, length 0"
unfoldable pub record_of : ℕ → ℕ → List ℤ → Judgement → List ℕ
record_of n rounds Y j = condition_fields n rounds Y j ++ end_field

-- "It has 20 + 20n bytes, at most 180"
abbrev pub record_length : ℕ → ℕ
record_length n = 20 + 20 * n

abbrev pub longest_record : ℕ
longest_record = 180

-- what the writers ask of the figures: at most 8 rows, and the rounds, the unmet row and the row that decides of a byte each
pub record Recordable (n rounds : ℕ) (j : Judgement) : Type 0 where
  pub rows : n ≤ most_tanks
  pub rounds_byte : rounds < 256
  pub unmet_byte : j.unmet < 256
  pub decides_byte : j.decides < 256

-- and room: for a condition's fields, and for a record
pub record ConditionFits (n rounds : ℕ) (j : Judgement) (room : ℕ) : Type 0 where
  pub figures : Recordable n rounds j
  pub enough : condition_length n ≤ room

pub record RecordFits (n rounds : ℕ) (j : Judgement) (room : ℕ) : Type 0 where
  pub figures : Recordable n rounds j
  pub enough : record_length n ≤ room
