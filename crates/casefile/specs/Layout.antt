-- Definitions only.
-- The bytes of a case: document 01, "Layout of case and record".
use Rattle.std.specs.Prelude.{ℕ, ◌+◌, ◌*◌, ℤ, List, [], ◌∷◌, ◌++◌, map, ◌≡◌}
use Rattle.buffer.specs.Buffer.{concat}
use Rattle.rows.specs.Block.{Block, split}
use Rattle.figures.specs.Figures.{Kind, i16_kind, u16_kind, i32_kind, u32_kind, spread}
use Rattle.fields.specs.Field.{header_size, field, end_field}
use Rattle.casefile.specs.Case.{Case, where_trial_given, trial_count_due}
use Rattle.casefile.specs.declared.RowPlaces.{RowPlaces}
use Rattle.casefile.specs.declared.TailPlaces.{TailPlaces}

-- ---- fields and their lengths

-- "01, length 3: n, e, K, one byte each"
abbrev pub head_tag : ℕ
head_tag = 0x01

abbrev pub head_length : ℕ
head_length = 3

abbrev pub head_value : ℕ → ℕ → ℕ → List ℕ
head_value n exponent rounds = n ∷ exponent ∷ rounds ∷ []

abbrev pub head_field : ℕ → ℕ → ℕ → List ℕ
head_field n exponent rounds = field head_tag (head_value n exponent rounds)

-- where they stand in the value
abbrev pub n_in : ℕ
n_in = 0

abbrev pub exponent_in : ℕ
exponent_in = n_in + 1

abbrev pub rounds_in : ℕ
rounds_in = exponent_in + 1

-- where the first row stands
abbrev pub rows_at : ℕ
rows_at = header_size + head_length

-- "02, length 4n + 8, one for each row"
abbrev pub row_tag : ℕ
row_tag = 0x02

abbrev pub row_length : ℕ → ℕ
row_length n = 4 * n + 8

abbrev pub row_size : ℕ → ℕ
row_size n = header_size + row_length n

-- where the tolerances, b and f stand in a row's value: each behind the figures before it
abbrev pub tolerances_in : ℕ → ℕ
tolerances_in n = i16_kind.width * n

abbrev pub right_side_in : ℕ → ℕ
right_side_in n = tolerances_in n + u16_kind.width * n

abbrev pub right_tolerance_in : ℕ → ℕ
right_tolerance_in n = right_side_in n + i32_kind.width * 1

-- the places and lengths of a row of n tanks, as the program holds them
pub record RowPlaced (n : ℕ) (r : RowPlaces) : Type 0 where
  pub tolerances : r.tolerances ≡ tolerances_in n
  pub right_side : r.right_side ≡ right_side_in n
  pub right_tolerance_lem : r.right_tolerance ≡ right_tolerance_in n
  pub len : r.len ≡ row_length n
  pub size : r.size ≡ row_size n

abbrev pub rows_end : ℕ → ℕ
rows_end n = rows_at + n * row_size n

-- "03, length 4n, present exactly if K is 0"
abbrev pub trial_tag : ℕ
trial_tag = 0x03

-- "n trial figures of 4 bytes", signed
abbrev pub trial_kind : Kind ℤ
trial_kind = i32_kind

abbrev pub trial_length : ℕ → ℕ
trial_length n = trial_kind.width * n

abbrev pub trial_size : ℕ → ℕ → ℕ
trial_size k n = where_trial_given k (header_size + trial_length n) 0

-- where the end field stands
abbrev pub end_at : ℕ → ℕ → ℕ
end_at k n = rows_end n + trial_size k n

-- the places, the count and the length of what follows n rows, as the program holds them
pub record TailPlaced (k n : ℕ) (r : TailPlaces) : Type 0 where
  pub trial : r.trial ≡ rows_end n
  pub trial_count_lem : r.trial_count ≡ trial_count_due k n
  pub trial_len : r.trial_len ≡ trial_length n
  pub end : r.end ≡ end_at k n

-- "The longest case has 388 bytes."
abbrev pub longest_case : ℕ
longest_case = 388

-- ---- rows

-- "n coefficients of 2 bytes, n tolerances of 2 bytes (unsigned), b (4 bytes), f (4 bytes, unsigned)"
unfoldable pub row_bytes : Block → List ℕ
row_bytes r =
    spread i16_kind r.A
    ++ (spread u16_kind r.E ++ (spread i32_kind r.b ++ spread u32_kind r.f))

abbrev pub row_field : Block → List ℕ
row_field r = field row_tag (row_bytes r)

-- the rows of a case
abbrev pub rows_in : Case → List Block
rows_in c = split c.n c.n c.rows

-- ---- the whole

abbrev pub trial_field : List ℤ → List ℕ
trial_field Y = field trial_tag (spread trial_kind Y)

-- "present exactly if K is 0"
abbrev pub trial_fields : ℕ → List ℤ → List (List ℕ)
trial_fields k Y = where_trial_given k (trial_field Y ∷ []) []

-- the bytes of the trial's field, or none
abbrev pub trial_bytes : ℕ → List ℤ → List ℕ
trial_bytes k Y = concat (trial_fields k Y)

-- "A case is, in this order"
abbrev pub fields_of : Case → List (List ℕ)
fields_of c =
    head_field c.n c.exponent c.rounds
    ∷ (map row_field (rows_in c) ++ (trial_fields c.rounds c.Y ++ (end_field ∷ [])))

unfoldable pub encode : Case → List ℕ
encode c = concat (fields_of c)
