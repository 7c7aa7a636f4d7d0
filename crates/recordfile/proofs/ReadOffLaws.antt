-- What is read off a condition's fields, wherever they begin, is what was written into them. Assumes nothing.
use Rattle.std.specs.Prelude.{ℕ, ◌+◌, ◌*◌, ◌^◌, ◌<◌, ℤ, pos, length, drop, Bool, true, false, List, ◌++◌, ◌≡◌, refl}
use Rattle.std.proofs.Math.Dec.{eqb}
use Rattle.std.proofs.Math.ListN.{get_or}
use Rattle.std.proofs.Common.{drop_at, drop-drop, get_or-drop, append_assoc, append-nil, sym, ◌∙◌, SFits}
use Rattle.std.proofs.Math.Path.{ap}
use Rattle.std.specs.Int.{w32, w64}
use native.Mathlib.Omega.{arith}
use Rattle.buffer.specs.Buffer.{run}
use Rattle.buffer.specs.RunLaws.{Piece, run_piece}
use Rattle.judge.specs.Judgement.{Judgement}
use Rattle.bigendian.specs.Number.{be_bytes}
use Rattle.figures.proofs.FigureLaws.{length_figure, figure_back, signed_back}
use Rattle.figures.specs.Figures.{i32_kind, i64_kind, u64_kind, figure_at, figure_bytes}
use Rattle.fields.specs.Field.{header_size, field, end_field}
use Rattle.fields.proofs.FieldLaws.{field_value}
use Rattle.recordfile.specs.Laws.{length_answer, length_pair, ends}
use Rattle.recordfile.specs.Layout.{answer_tag, rows_tag, pair_size, reach_at, met_at, unmet_at, rounds_at, answer_place, condition_rows_at, factor_at, flag, answer_bytes, pair_at, verdict_field, answer_field, rows_field, factor_field, condition_fields, record_of}
use Rattle.recordfile.specs.ReadOff.{recorded_rounds, recorded_answer, recorded_finding}

flag_eqb : (b : Bool) → eqb (flag b) 1 ≡ b
flag_eqb true = refl
flag_eqb false = refl

-- the fields of a condition begin at a place of the bytes, whatever follows them
pub record HoldsCondition (n rounds : ℕ) (Y : List ℤ) (j : Judgement) (at : ℕ) (bytes : List ℕ) : Type 0 where
  pub rest : List ℕ
  pub here : drop at bytes ≡ condition_fields n rounds Y j ++ rest

-- those of a record begin it
pub record_holds : (n rounds : ℕ) (Y : List ℤ) (j : Judgement) → HoldsCondition n rounds Y j 0 (record_of n rounds Y j)
unfolding record_of
record_holds n rounds Y j = record { rest = end_field; here = refl }

module _ {n rounds : ℕ} {Y : List ℤ} {j : Judgement} {at : ℕ} {bytes : List ℕ} (c : HoldsCondition n rounds Y j at bytes) where
  abbrev R : ℕ → ℤ
  R i = get_or j.residuals i (pos 0)

  abbrev T : ℕ → ℕ
  T i = get_or j.reaches i 0

  -- ---- the bytes from each field on

  abbrev figures : List ℕ
  figures = run n (answer_bytes Y)

  abbrev pairs : List ℕ
  pairs = run n (pair_at j.residuals j.reaches)

  abbrev last : List ℕ
  last = factor_field j.none j.decides ++ c.rest

  abbrev rows : List ℕ
  rows = rows_field n j.residuals j.reaches ++ last

  abbrev whole : List ℕ
  whole = drop at bytes

  from_verdict : whole ≡ verdict_field j.met j.unmet rounds ++ (answer_field n Y ++ rows)
  unfolding condition_fields
  from_verdict = simp (append_assoc, append-nil) at c.here

  -- k bytes further than a place, and behind the part that begins there
  further : (from k : ℕ) {front : List ℕ} → drop from whole ≡ front → drop (from + k) whole ≡ drop k front
  further from k e = sym (drop-drop k from whole) ∙ ap (drop k) e

  past : (from : ℕ) (a : List ℕ) {behind : List ℕ} {next : ℕ} → drop from whole ≡ a ++ behind → from + length a ≡ next → drop next whole ≡ behind
  past from a {behind} e h = rw (← h) (further from (length a) e ∙ drop_at a behind (length a) refl)

  from_answer : drop answer_place whole ≡ answer_field n Y ++ rows
  from_answer = ap (drop answer_place) from_verdict ∙ drop_at (verdict_field j.met j.unmet rounds) (answer_field n Y ++ rows) answer_place (ends n rounds Y j).verdict

  from_rows : drop (condition_rows_at n) whole ≡ rows
  from_rows = past answer_place (answer_field n Y) from_answer (ends n rounds Y j).answer

  from_factor : drop (factor_at n) whole ≡ last
  from_factor = past (condition_rows_at n) (rows_field n j.residuals j.reaches) from_rows (ends n rounds Y j).rows

  -- ---- field 10

  pub recorded_met : (recorded_finding n at bytes).met ≡ j.met
  unfolding field be_bytes
  recorded_met = ap (λ l. eqb (get_or l met_at 0) 1) from_verdict ∙ flag_eqb j.met

  pub recorded_unmet : (recorded_finding n at bytes).unmet ≡ j.unmet
  unfolding field be_bytes
  recorded_unmet = ap (λ l. get_or l unmet_at 0) from_verdict

  pub recorded_rounds_lem : recorded_rounds at bytes ≡ rounds
  unfolding field be_bytes
  recorded_rounds_lem = ap (λ l. get_or l rounds_at 0) from_verdict

  -- ---- field 11

  pub recorded_answer_lem : (i : ℕ) → i < n → SFits w32 (get_or Y i (pos 0)) → recorded_answer at bytes i ≡ get_or Y i (pos 0)
  recorded_answer_lem i h f =
      let p = run_piece i32_kind.width (answer_bytes Y) (length_answer Y) n i rows h in
      let v = further answer_place header_size from_answer ∙ field_value answer_tag figures rows in
      ap (figure_at i32_kind) (further (answer_place + header_size) (i32_kind.width * i) v ∙ p.here) ∙ signed_back w32 (get_or Y i (pos 0)) f p.behind

  -- ---- field 12

  module _ (i : ℕ) (h : i < n) where
    abbrev piece : ℕ → List ℕ
    piece = pair_at j.residuals j.reaches

    pair_place : Piece pair_size i piece (pairs ++ last)
    pair_place = run_piece pair_size piece (length_pair j.residuals j.reaches) n i last h

    abbrev from_reach : List ℕ
    from_reach = figure_bytes u64_kind (T i) ++ pair_place.behind

    -- row i's pair, with what follows it
    row_place : drop (condition_rows_at n + header_size + pair_size * i) whole ≡ figure_bytes i64_kind (R i) ++ from_reach
    row_place =
        let v = further (condition_rows_at n) header_size from_rows ∙ field_value rows_tag pairs last in
        further (condition_rows_at n + header_size) (pair_size * i) v ∙ pair_place.here ∙ append_assoc (figure_bytes i64_kind (R i)) (figure_bytes u64_kind (T i)) pair_place.behind

    pub recorded_residual : SFits w64 (R i) → (recorded_finding n at bytes).R i ≡ R i
    recorded_residual f = ap (figure_at i64_kind) row_place ∙ signed_back w64 (R i) f from_reach

    reach_place : drop (condition_rows_at n + header_size + pair_size * i + reach_at) whole ≡ from_reach
    reach_place =
        further (condition_rows_at n + header_size + pair_size * i) reach_at row_place
        ∙ drop_at (figure_bytes i64_kind (R i)) from_reach reach_at (length_figure i64_kind (R i))

    pub recorded_reach : T i < 256 ^ u64_kind.width → (recorded_finding n at bytes).T i ≡ T i
    recorded_reach f = ap (figure_at u64_kind) reach_place ∙ figure_back u64_kind (T i) f refl pair_place.behind

  -- ---- field 13

  last_byte : (k : ℕ) → get_or whole (factor_at n + k) 0 ≡ get_or last k 0
  last_byte k = sym (get_or-drop (factor_at n) whole k 0) ∙ ap (λ l. get_or l k 0) from_factor

  pub recorded_none : (recorded_finding n at bytes).none ≡ j.none
  unfolding field be_bytes
  recorded_none =
      ap (λ x. eqb x 1) (last_byte header_size) ∙ flag_eqb j.none

  pub recorded_decides : (recorded_finding n at bytes).decides ≡ j.decides
  unfolding field be_bytes
  recorded_decides =
      let e : factor_at n + header_size + 1 ≡ factor_at n + (header_size + 1) = omega arith in
      ap (λ k. get_or whole k 0) e ∙ last_byte (header_size + 1)
