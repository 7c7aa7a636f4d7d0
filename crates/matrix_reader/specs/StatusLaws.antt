-- What header and entries, as they were read, make of the whole text. Assumes nothing.
use Rattle.std.specs.Prelude.{ℕ, ◌*◌, ◌≤◌, ℤ, drop, Bool, true, false, ◌&&◌, List, ◌≡◌, Err, Option, None, Some, is_some}
use Rattle.std.proofs.Math.Path.{sym, ap}
use Rattle.std.proofs.Common.{◌∙◌}
use Rattle.limits.specs.Limits.{most_tanks, most_coefficients}
use Rattle.buffer.specs.AllLaws.{and_true}
use Rattle.buffer.specs.Buffer.{begins_by}
use Rattle.outcome.specs.declared.Refusal.TheVariants.{WrongMatrixHeader, WrongMatrixEntry}
use Rattle.casefile.proofs.RowsLaws.{square_fits}
use Rattle.matrixfile.specs.Read.{size_fine, at_size_line, tanks_in, at_entries, text_status, coefficients_in}
use Rattle.matrixfile.proofs.SizeLaws.{size_tests}
use Rattle.matrixfile.specs.Text.{first_line, transpose}
use Rattle.matrixfile.specs.TextLaws.{transpose_front}
use Rattle.matrix_reader.specs.Parts.{LeavesBehind, HeaderRead, EntriesRead, Square}
use Rattle.matrix_reader.specs.declared.Size.{Size}
use Rattle.outcome.specs.Outcome.{Accepted}

module _ (text : List ℕ) {r : Option Size} (h : HeaderRead text r) where
  pub header_status : r ≡ None → text_status text ≡ Err WrongMatrixHeader
  unfolding text_status
  header_status q = rw (sym h.fine ∙ ap is_some q)

  module _ {z : Size} (q : r ≡ Some z) where
    passed : (begins_by first_line text && size_fine (at_size_line text)) ≡ true
    passed = sym h.fine ∙ ap is_some q

    -- n is the one that stands there
    pub tanks : z.n ≡ tanks_in text
    tanks = rw q at h.tanks

    behind : LeavesBehind text z.len (at_entries text)
    behind = rw q at h.behind

    -- n is within its limits
    pub square : Square z.n most_coefficients
    square =
        let tests = size_tests (at_size_line text) (and_true (begins_by first_line text) (size_fine (at_size_line text)) passed).1 in
        let small : z.n ≤ most_tanks = rw tanks tests.small in
        record { least = rw tanks tests.least; small = small; room = square_fits z.n small }

    module _ {fine : Bool} {columns : List ℤ} (e : EntriesRead (z.n * z.n) (drop z.len text) fine columns) where
      -- over the definition's names
      same : EntriesRead (tanks_in text * tanks_in text) (at_entries text) fine columns
      same = rw (tanks, behind.is) at e

      pub entries_status : fine ≡ false → text_status text ≡ Err WrongMatrixEntry
      unfolding text_status
      entries_status w = rw (passed, sym same.fine ∙ w)

      pub whole_status : fine ≡ true → text_status text ≡ Accepted
      unfolding text_status
      whole_status w = rw (passed, sym same.fine ∙ w)

      pub whole_coefficients : fine ≡ true → transpose z.n columns ≡ coefficients_in text
      unfolding coefficients_in
      whole_coefficients w =
          rw tanks (sym (transpose_front (tanks_in text) columns) ∙ ap (transpose (tanks_in text)) (same.entries w))
