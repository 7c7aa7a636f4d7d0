-- `case_reader::row_fields::read_row` meets its contract: the field's refusal, then four runs of figures, one behind the other.
-- Assumes nothing.
use Prim.Native.Nat.{ℕ, ◌+◌, ◌^◌, ◌≤◌, ◌<◌}
use lib.IntN.{ℤ}
use lib.ListN.{length, drop}
use lib.Seq.{drop-drop}
use mathlib.Core.Bool.{Bool, ◌&&◌}
use mathlib.Core.List.{List}
use mathlib.Core.Path.{◌≡◌, refl}
use native.Mathlib.Omega.{arith}
use Rattle.std.proofs.lemmas.Result.{err_from_is_err_and}
use Rattle.limits.specs.Limits.{coefficient_limit, tolerance_limit, right_side_limit, right_tolerance_limit}
use Rattle.rows.specs.Block.{Block, block, RowLists}
use Rattle.outcome.specs.Outcome.{Accepted}
use Rattle.outcome.specs.declared.Refusal.TheVariants.{OutsideLimits}
use Rattle.figures.proofs.FigureLaws.{run_at}
use Rattle.figures.specs.Figures.{i16_kind, u16_kind, i32_kind, u32_kind, within_limit, up_to_limit, RunRead}
use Rattle.fields.proofs.AnswerLaws.{answer_stops, answer_goes_on}
use Rattle.fields.specs.Field.{header_size, value_of}
use Rattle.fields.proofs.FieldLaws.{Checked, checked}
use Rattle.casefile.specs.Case.{rows_fine}
use Rattle.casefile.specs.Decode.{row_of, row_status}
use Rattle.casefile.specs.Layout.{row_tag, row_length, tolerances_in, right_side_in, right_tolerance_in, row_size, RowPlaced}
use Rattle.case_reader.proofs.row_fields.read_row.Goals.{In_ok-check_field}
use Rattle.case_reader.proofs.row_fields.read_row.Goals as goal

-- four runs of figures, each with its test, are a row with its own
row_answered : (r : Block) {a b : List ℤ} {t f : List ℕ} {b1 b2 b3 b4 : Bool}
    → RunRead (within_limit coefficient_limit) r.A b1 a
    → RunRead (up_to_limit tolerance_limit) r.E b2 t
    → RunRead (within_limit right_side_limit) r.b b3 b
    → RunRead (up_to_limit right_tolerance_limit) r.f b4 f
    → ((b1 && (b2 && (b3 && b4))) ≡ rows_fine r) × (block a t b f ≡ r)
unfolding rows_fine
row_answered r w1 w2 w3 w4 = search (w1.made, w2.made, w3.made, w4.made)

-- a place of the field's value
in_value : (s value : List ℕ) (at q : ℕ) {p : ℕ} → drop (at + header_size) s ≡ value → p ≡ q → drop (at + header_size + p) s ≡ drop q value
in_value s value at q v e = rw (e, ← (drop-drop q (at + header_size) s), v)

-- the field is not refused: it is whole, and its parts stand inside s
whole : (c : In_ok-check_field) → Checked row_tag (row_length c.args.n) c.args.s.now c.args.at c.args.at Accepted
whole c = checked row_tag (row_length c.args.n) c.args.s.now c.args.at refl c.row_places-row.ensures.len c.in_ok-check_field.ensures

inside : (c : In_ok-check_field)
    → RowPlaced c.args.n c.row_places-row.result
    × (c.args.at + row_size c.args.n ≤ length c.args.s.now)
    × RowLists c.args.n (block c.args.a.now c.args.t.now c.args.b.now c.args.f.now)
    × (length c.args.s.now < 2 ^ 64)
inside c = (c.row_places-row.ensures, (whole c).room refl, c.requires, omega (arith, c.well_formed))

pub returns-in_err-check_field : goal.returns-in_err-check_field
unfolding row_status
returns-in_err-check_field c =
    let p = err_from_is_err_and c.from_residual.result c.from_residual.ensures.1 in
    let field = checked row_tag (row_length c.args.n) c.args.s.now c.args.at refl c.row_places-row.ensures.len c.in_err-check_field.ensures in
    rw (p.1, p.2) (answer_stops {out = block c.args.a.now c.args.t.now c.args.b.now c.args.f.now} field.is _ refl)

pub returns : goal.returns
unfolding row_status row_of
returns c =
    let field = whole (goal.at.returns c).In_ok-check_field in
    let places = c.row_places-row.ensures in
    let l = c.requires.counts in
    let at = c.args.at in
    let s : List ℕ = c.args.s.now in
    let value : List ℕ = value_of (drop at s) in
    let w =
    row_answered (row_of c.args.n value)
    (run_at i16_kind _ field.value l.l_a c.read-coefficients.ensures)
    (run_at u16_kind _ (in_value s value at (tolerances_in c.args.n) field.value places.tolerances) l.l_e c.read-tolerances.ensures)
    (run_at i32_kind _ (in_value s value at (right_side_in c.args.n) field.value places.right_side) l.lb c.read-right_side.ensures)
    (run_at u32_kind _ (in_value s value at (right_tolerance_in c.args.n) field.value places.right_tolerance_lem) l.lf c.read-right_tolerance.ensures) in
    answer_goes_on field.is OutsideLimits refl w.0 (λ _. w.1) c.check.ensures

pub overflow_add-value : goal.overflow_add-value
overflow_add-value c = omega (arith, inside c)

pub read-coefficients-requires : goal.read-coefficients-requires
read-coefficients-requires c = omega (arith, inside (goal.at.read-coefficients-requires c).In_ok-check_field)

pub overflow_add-value-2 : goal.overflow_add-value-2
overflow_add-value-2 c = omega (arith, inside (goal.at.overflow_add-value-2 c).In_ok-check_field)

pub read-tolerances-requires : goal.read-tolerances-requires
read-tolerances-requires c = omega (arith, inside (goal.at.read-tolerances-requires c).In_ok-check_field)

pub overflow_add-value-3 : goal.overflow_add-value-3
overflow_add-value-3 c = omega (arith, inside (goal.at.overflow_add-value-3 c).In_ok-check_field)

pub read-right_side-requires : goal.read-right_side-requires
read-right_side-requires c = omega (arith, inside (goal.at.read-right_side-requires c).In_ok-check_field)

pub overflow_add-value-4 : goal.overflow_add-value-4
overflow_add-value-4 c = omega (arith, inside (goal.at.overflow_add-value-4 c).In_ok-check_field)

pub read-right_tolerance-requires : goal.read-right_tolerance-requires
read-right_tolerance-requires c = omega (arith, inside (goal.at.read-right_tolerance-requires c).In_ok-check_field)
