-- `matrix_writer::write_matrix` meets its contract: the buffer's refusal, the matrix's, or its text in the buffer.
-- Assumes nothing.
use borrow.Author.Rules.{rules}
use native.Mathlib.Omega.{arith}
use mathlib.Core.Path.{◌≡◌, sym, ◌∙◌}
use Rattle.std.specs.Prelude.{Err}
use Rattle.outcome.proofs.CallResultLaws.{written_short, written_refused, written_whole}
use Rattle.outcome.proofs.Laws.{same_status}
use Rattle.matrixfile.specs.Text.{longest_text, matrix_status, matrix_text, matrix_writing}
use Rattle.matrix_writer.proofs.write_matrix.Goals as goal

pub returns-then-out-lt-LONGEST_TEXT : goal.returns-then-out-lt-LONGEST_TEXT
unfolding matrix_writing
returns-then-out-lt-LONGEST_TEXT c =
    let a = c.args in
    written_short longest_text (matrix_status a.n a.coefficients.now) (matrix_text a.n a.coefficients.now) a.out.now (omega arith)

pub returns-in_err-check_matrix : goal.returns-in_err-check_matrix
unfolding matrix_writing
returns-in_err-check_matrix c =
    let a = c.args in
    let refused : c.from_residual.result ≡ Err c.in_err-check_matrix.field-0.0 = search rules in
    rw refused
    (written_refused longest_text (matrix_status a.n a.coefficients.now) (matrix_text a.n a.coefficients.now) a.out.now _ (omega arith)
    (sym (same_status _ _ c.check_matrix.ensures) ∙ c.in_err-check_matrix.was))

pub returns : goal.returns
unfolding matrix_writing
returns c =
    let a = c.args in
    written_whole longest_text (matrix_status a.n a.coefficients.now) (matrix_text a.n a.coefficients.now) a.out.now (omega arith)
    (sym (same_status _ _ c.check_matrix.ensures) ∙ c.in_ok-check_matrix.was) c.write_text.ensures
