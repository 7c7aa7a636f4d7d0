-- `matrix_reader::read_header` meets its contract: the first line, the comment lines, and the size line where they end.
-- Assumes nothing.
use Prim.Native.Nat.{◌+◌}
use lib.ListN.{length, drop}
use mathlib.Core.Bool.{true}
use mathlib.Core.Path.{◌≡◌, sym, ◌∙◌}
use Rattle.buffer.specs.Buffer.{begins_by}
use Rattle.buffer.specs.Laws.{part_is}
use Rattle.matrixfile.specs.Text.{first_line}
use Rattle.matrix_reader.specs.Parts.{CommentsRead, SizeRead}
use Rattle.matrix_reader.specs.PartLaws.{starts_begins, header_refused, header_size_refused, header_accepted}
use Rattle.matrix_reader.proofs.read_header.Goals as goal
use Rattle.matrix_reader.proofs.read_header.Goals.{Else-not-starts_with, After-comment_bytes, After-read_size}

first : (c : Else-not-starts_with) → begins_by first_line c.args.text.now ≡ true
first c = sym (starts_begins first_line c.args.text.now) ∙ sym c.starts_with.ensures.value ∙ c.if-not-starts_with.false

comments : (c : After-comment_bytes) → CommentsRead (drop (length first_line) c.args.text.now) c.comment_bytes.result
comments c = rw (part_is c.args.text.now (length first_line)) at c.comment_bytes.ensures

size : (c : After-read_size) → SizeRead (drop (length first_line + c.comment_bytes.result) c.args.text.now) c.read_size.result
size c = rw (part_is c.args.text.now (length first_line + c.comment_bytes.result)) at c.read_size.ensures

-- the first line stands there
pub returns-then-not-starts_with : goal.returns-then-not-starts_with
returns-then-not-starts_with c = header_refused _ (sym (starts_begins first_line c.args.text.now) ∙ sym c.starts_with.ensures.value ∙ c.if-not-starts_with.true)

-- and the comment lines behind it

-- and the size line
pub returns-in_err-size : goal.returns-in_err-size
returns-in_err-size c =
    let p = goal.at.returns-in_err-size c in
    rw c.from_residual.ensures (header_size_refused c.args.text.now (first p.Else-not-starts_with) (comments p.After-comment_bytes) (size p.After-read_size) c.in_err-size.was)

pub returns : goal.returns
returns c =
    let p = goal.at.returns c in
    header_accepted c.args.text.now (first p.Else-not-starts_with) (comments p.After-comment_bytes) (size p.After-read_size) c.in_ok-size.was
