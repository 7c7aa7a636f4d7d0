-- `matrix_writer::write_entries` meets its contract. The loop's invariant: the lines of the first k entries are written.
-- Assumes nothing.
use Rattle.std.specs.Prelude.{ℕ, ◌*◌, ◌≤◌, ◌<◌, ℤ, pos, length, get_or, List, ◌≡◌}
use Rattle.std.proofs.Common.{rules, w16, to_z, of_z, sym, ◌∙◌, arith}
use mir.Facts.{to_z-of_z}
use mir.Val.{SFits}
use Rattle.limits.specs.Limits.{most_coefficients}
use Rattle.buffer.specs.RunLaws.{run_joined}
use Rattle.casefile.proofs.RowsLaws.{square_fits}
use Rattle.decimal.proofs.WritingLaws.{run_of_none, run_room, run_one_more}
use Rattle.matrixfile.specs.Text.{entry_line, longest_entry_line, transposed_place, transpose, matrix_status}
use Rattle.matrixfile.specs.TextLaws.{matrix_fine, place_below, length_transpose, transpose_at, entry_line_fits}
use Rattle.matrix_writer.proofs.write_entries.Invariants.{line}
use Rattle.matrix_writer.proofs.write_entries.Goals as goal
use Rattle.outcome.specs.Outcome.{Accepted}

module _ (n : ℕ) (A : List ℤ) (accepted : matrix_status n A ≡ Accepted) (k : ℕ) (h : k < length A) where
  -- the place that is read
  place : (1 ≤ n) × ((transposed_place n k < length A) × (length A ≤ most_coefficients))
  place =
      let f = matrix_fine n A accepted in
      let inside : k < n * n = omega (arith, f.entries.count) in
      omega (arith, place_below n k inside, square_fits n f.small, f.least, f.entries.count)

  -- what is read there is entry k
  entry : SFits w16 (get_or A (transposed_place n k) (pos 0)) → to_z w16 (of_z w16 (get_or A (transposed_place n k) (pos 0))) ≡ get_or (transpose n A) k (pos 0)
  entry f = to_z-of_z f ∙ sym (transpose_at n A k (omega (arith, (matrix_fine n A accepted).entries.count)))

  short : length (line n A k) ≤ longest_entry_line
  short = entry_line_fits n A (matrix_fine n A accepted) k

pub loop-k-init : goal.loop-k-init
loop-k-init c = run_of_none c.requires.1

pub write_entry-requires : goal.write_entry-requires
write_entry-requires c =
    let n = c.args.n in
    let A = c.args.coefficients.now in
    rw (entry n A c.requires.0 c.loop-k.k c.loop-k-test.true (search rules))
    (run_room c.loop-k.invariant c.loop-k-test.true (short n A c.requires.0 c.loop-k.k c.loop-k-test.true))

pub loop-k-preserved : goal.loop-k-preserved
loop-k-preserved c =
    let n = c.args.n in
    let A = c.args.coefficients.now in
    run_one_more c.loop-k.invariant c.loop-k-test.true (short n A c.requires.0 c.loop-k.k c.loop-k-test.true)
    (rw (entry n A c.requires.0 c.loop-k.k c.loop-k-test.true (search rules)) at c.write_entry.ensures)

pub returns : goal.returns
returns c =
    let f = matrix_fine c.args.n c.args.coefficients.now c.requires.0 in
    let T = transpose c.args.n c.args.coefficients.now in
    record {
      same = c.loop-k.invariant.same;
      wrote = run_joined entry_line (pos 0) T (length_transpose _ _ ∙ sym f.entries.count) c.loop-k.invariant.running c.loop-k-test.false;
    }

pub nonzero_rem-k : goal.nonzero_rem-k
nonzero_rem-k c = omega (arith, place c.args.n c.args.coefficients.now c.requires.0 c.loop-k.k c.loop-k-test.true)

pub overflow_mul-k : goal.overflow_mul-k
overflow_mul-k c = omega (arith, place c.args.n c.args.coefficients.now c.requires.0 c.loop-k.k c.loop-k-test.true)

pub nonzero_div-k : goal.nonzero_div-k
nonzero_div-k c = omega (arith, place c.args.n c.args.coefficients.now c.requires.0 c.loop-k.k c.loop-k-test.true)

pub overflow_add-k : goal.overflow_add-k
overflow_add-k c = omega (arith, place c.args.n c.args.coefficients.now c.requires.0 c.loop-k.k c.loop-k-test.true)

pub offset_bounds-coefficients-k : goal.offset_bounds-coefficients-k
offset_bounds-coefficients-k c = omega (arith, place c.args.n c.args.coefficients.now c.requires.0 c.loop-k.k c.loop-k-test.true)

pub bounds-coefficients-k : goal.bounds-coefficients-k
bounds-coefficients-k c = omega (arith, place c.args.n c.args.coefficients.now c.requires.0 c.loop-k.k c.loop-k-test.true)
