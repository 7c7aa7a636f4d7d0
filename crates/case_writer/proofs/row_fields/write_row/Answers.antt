-- `case_writer::row_fields::write_row` meets its contract: the header and four runs of figures, one behind the other.
-- Assumes nothing.
use Prim.Native.Nat.{ℕ, ◌+◌, ◌*◌, ◌-◌}
use mathlib.Core.List.{append_assoc}
use mathlib.Core.Path.{◌≡◌, refl, sym, ◌∙◌}
use native.Mathlib.Omega.{arith}
use Rattle.buffer.specs.WroteLaws.{wrote_front, wrote_more}
use Rattle.rows.specs.Block.{Block, Counts, row_in}
use Rattle.figures.proofs.FigureLaws.{length_spread}
use Rattle.figures.specs.Figures.{i16_kind, u16_kind, i32_kind, u32_kind, spread}
use Rattle.fields.specs.Field.{header_size, header as field_header}
use Rattle.fields.proofs.FieldLaws.{length_header, field_is_header}
use Rattle.casefile.specs.Layout.{row_tag, row_bytes}
use Rattle.casefile.proofs.RowLaws.{length_row}
use Rattle.case_writer.specs.Given.{given}
use Rattle.case_writer.proofs.WritingRows.{row_counts}
use Rattle.case_writer.proofs.row_fields.write_row.Goals as goal

pub returns : goal.returns
unfolding row_bytes
returns c =
    let i : ℕ = c.args.i in
    let n : ℕ = c.args.case.head.n in
    let row : Block = row_in n (given c.args.case).rows i in
    let p = c.row_places-row.result in
    let q = c.row_places-row.ensures in
    let counts : Counts n 1 row = row_counts c.requires.rows_room c.requires.i_in_bounds in
    let k : i * n + n - i * n ≡ n = omega arith in
    let j : i + 1 - i ≡ 1 = omega arith in
    let w0 = wrote_front (field_header row_tag p.len) c.args.out.now c.write_header.ensures (length_header row_tag p.len) in
    let w1 = wrote_more (spread i16_kind row.A) (header_size + p.tolerances) w0 (rw k at c.write.ensures) (omega (arith, length_spread i16_kind row.A, counts, q)) in
    let w2 = wrote_more (spread u16_kind row.E) (header_size + p.right_side) w1 (rw k at c.write-2.ensures) (omega (arith, length_spread u16_kind row.E, counts, q)) in
    let w3 = wrote_more (spread i32_kind row.b) (header_size + p.right_tolerance) w2 (rw j at c.write-3.ensures) (omega (arith, length_spread i32_kind row.b, counts, q)) in
    let w4 = wrote_more (spread u32_kind row.f) _ w3 (rw j at c.write-4.ensures) refl in
    rw (← (field_is_header row_tag (row_bytes row) p.len (length_row counts ∙ sym q.len))) (simp append_assoc at w4).bytes
