-- Definitions only.
-- What is said of a condition whose fields begin at a place of the bytes, read off by position from there and big-endian value.
use Rattle.std.specs.Prelude.{ℕ, ◌+◌, ◌*◌, eqb, ℤ, get_or, drop, List}
use Rattle.judge.specs.Finding.{Finding}
use Rattle.figures.specs.Figures.{i32_kind, i64_kind, u64_kind, figure_at}
use Rattle.fields.specs.Field.{header_size}
use Rattle.recordfile.specs.Layout.{pair_size, reach_at, met_at, unmet_at, rounds_at, answer_place, condition_rows_at, none_at, decides_at}

-- a value begins behind its field's header: the rounds of field 10
abbrev pub recorded_rounds : ℕ → List ℕ → ℕ
recorded_rounds at bytes = get_or (drop at bytes) rounds_at 0

-- tank j, from 0
abbrev pub recorded_answer : ℕ → List ℕ → ℕ → ℤ
recorded_answer at bytes j = figure_at i32_kind (drop (answer_place + header_size + i32_kind.width * j) (drop at bytes))

-- verdict, named row, none and the row that decides; of row i, from 0, its residual and reach
abbrev pub recorded_finding : ℕ → ℕ → List ℕ → Finding
recorded_finding n at bytes =
    record {
      met = eqb (get_or (drop at bytes) met_at 0) 1;
      unmet = get_or (drop at bytes) unmet_at 0;
      none = eqb (get_or (drop at bytes) (none_at n) 0) 1;
      decides = get_or (drop at bytes) (decides_at n) 0;
      R = λ i. figure_at i64_kind (drop (condition_rows_at n + header_size + pair_size * i) (drop at bytes));
      T = λ i. figure_at u64_kind (drop (condition_rows_at n + header_size + pair_size * i + reach_at) (drop at bytes));
    }
