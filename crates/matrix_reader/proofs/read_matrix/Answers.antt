-- `matrix_reader::read_matrix` meets its contract: the list's refusal, the header's, the entries', or the coefficients in the list.
-- Assumes nothing.
use Prim.Native.Nat.{ℕ, ◌*◌}
use Rattle.std.specs.Prelude.{Ok, Err}
use borrow.Author.Rules.{rules}
use lib.IntN.{ℤ}
use lib.ListN.{drop}
use mathlib.Core.List.{List}
use mathlib.Core.Path.{◌≡◌, ap, ◌∙◌}
use native.Mathlib.Omega.{arith}
use Rattle.limits.specs.Limits.{most_coefficients}
use Rattle.buffer.specs.Buffer.{onto}
use Rattle.buffer.specs.Laws.{part_is}
use Rattle.outcome.specs.CallResult.{call_result}
use Rattle.outcome.proofs.CallResultLaws.{lent_short, lent_refused, lent_whole}
use Rattle.outcome.specs.declared.Refusal.TheVariants.{WrongMatrixHeader}
use Rattle.matrixfile.specs.Read.{text_status, tanks_in, coefficients_in, matrix_reading}
use Rattle.matrix_reader.specs.Parts.{EntriesRead, Square}
use Rattle.matrix_reader.specs.StatusLaws.{header_status, tanks, square, entries_status, whole_status, whole_coefficients}
use Rattle.matrix_reader.proofs.read_matrix.Goals as goal
use Rattle.matrix_reader.proofs.read_matrix.Goals.{In_ok-header, After-read_entries}

-- n rows of n fit the columns and the list
room : (c : In_ok-header) → Square c.in_ok-header.header.n most_coefficients
room c = square c.args.text.now c.read_header.ensures c.in_ok-header.ensures.ok_part

entries : (c : After-read_entries) → let n = c.in_ok-header.header.n in EntriesRead (n * n) (drop c.in_ok-header.header.len c.args.text.now) c.read_entries.result c.read_entries.new.columns
entries c = rw (part_is c.args.text.now c.in_ok-header.header.len) at c.read_entries.ensures

pub returns-then-coefficients-lt-MOST_COEFFICIENTS : goal.returns-then-coefficients-lt-MOST_COEFFICIENTS
unfolding matrix_reading
returns-then-coefficients-lt-MOST_COEFFICIENTS c =
    let text : List ℕ = c.args.text.now in
    lent_short most_coefficients (text_status text) (λ l. tanks_in text) (coefficients_in text) c.args.coefficients.now (omega arith)

pub returns-in_err-header : goal.returns-in_err-header
unfolding matrix_reading
returns-in_err-header c =
    let text : List ℕ = c.args.text.now in
    let refused : c.from_residual.result ≡ Err WrongMatrixHeader = search rules in
    rw refused
    (lent_refused most_coefficients (text_status text) (λ l. tanks_in text) (coefficients_in text) c.args.coefficients.now _ (omega arith)
    (header_status text c.read_header.ensures c.in_err-header.ensures.ok_part))

pub overflow_mul-n : goal.overflow_mul-n
overflow_mul-n c = omega (arith, (room (goal.at.overflow_mul-n c).In_ok-header).room)

pub read_entries-requires : goal.read_entries-requires
read_entries-requires c = (room (goal.at.read_entries-requires c).In_ok-header).room

pub returns-then-not-read_entries : goal.returns-then-not-read_entries
unfolding matrix_reading
returns-then-not-read_entries c =
    let text : List ℕ = c.args.text.now in
    lent_refused most_coefficients (text_status text) (λ l. tanks_in text) (coefficients_in text) c.args.coefficients.now _ (omega arith)
    (entries_status text c.read_header.ensures c.in_ok-header.ensures.ok_part (entries (goal.at.returns-then-not-read_entries c).After-read_entries) c.if-not-read_entries.true)

pub write_rows-requires : goal.write_rows-requires
write_rows-requires c =
    let r = room (goal.at.write_rows-requires c).In_ok-header in
    record { least = r.least; small = r.small; room = omega (arith, r.room) }

pub returns : goal.returns
unfolding matrix_reading
returns c =
    let text : List ℕ = c.args.text.now in
    let list : List ℤ = c.args.coefficients.now in
    let e = entries (goal.at.returns c).After-read_entries in
    let h = c.read_header.ensures in
    let q = c.in_ok-header.ensures.ok_part in
    let f = c.if-not-read_entries.false in
    ap (λ (m : ℕ). call_result (Ok m) c.write_rows.new.out) (tanks text h q)
    ∙ lent_whole most_coefficients (text_status text) (λ l. tanks_in text) (coefficients_in text) list (omega arith) (whole_status text h q e f)
    (c.write_rows.ensures ∙ ap (λ (l : List ℤ). onto l list) (whole_coefficients text h q e f))
