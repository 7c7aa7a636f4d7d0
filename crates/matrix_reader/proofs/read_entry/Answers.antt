-- `matrix_reader::read_entry` meets its contract: the sign, the digits and the line feed behind them.
-- Assumes nothing.
use Prim.Native.Nat.{◌+◌}
use lib.IntN.{pos, neg_ℤ}
use lib.ListN.{drop}
use mathlib.Core.Bool.{Bool, true, false, cond}
use mathlib.Core.Path.{◌≡◌, refl, sym, ap, ◌∙◌}
use mir.Facts.{to_z-of_z}
use mir.Syntax.{w16}
use mir.Val.{bool_byte}
use Rattle.buffer.specs.Buffer.{begins_by}
use Rattle.buffer.specs.Laws.{part_is}
use Rattle.decimal.specs.Decimal.{line_feed}
use Rattle.decimal.specs.Reading.{negative, DigitsRead}
use Rattle.matrixfile.specs.Read.{most_entry_digits}
use Rattle.matrix_reader.specs.EntryLaws.{entry_tested, entry_accepted, entry_refused}
use Rattle.matrix_reader.specs.PartLaws.{part_begins}
use Rattle.matrix_reader.proofs.read_entry.Goals as goal
use Rattle.matrix_reader.proofs.read_entry.Goals.{After-starts_with-ended}

as_number : (b : Bool) → bool_byte b ≡ cond b 1 0
as_number true = refl
as_number false = refl

sign : (c : After-starts_with-ended) → c.from-sign.result ≡ cond (negative c.args.text.now) 1 0
sign c = c.from-sign.ensures ∙ as_number c.is_negative-minus.result ∙ ap (λ (b : Bool). cond b 1 0) c.is_negative-minus.ensures

digits : (c : After-starts_with-ended) → DigitsRead most_entry_digits (drop c.from-sign.result c.args.text.now) c.read_digits-digits.result
digits c = rw (part_is c.args.text.now c.from-sign.result) at c.read_digits-digits.ensures

ended : (c : After-starts_with-ended) → c.starts_with-ended.result ≡ begins_by line_feed (drop (c.from-sign.result + c.read_digits-digits.result.count) c.args.text.now)
ended c = part_begins c.args.text.now (c.from-sign.result + c.read_digits-digits.result.count) line_feed c.starts_with-ended.ensures.value

pub returns-then-not-count-magnitude : goal.returns-then-not-count-magnitude
returns-then-not-count-magnitude c =
    let p = (goal.at.returns-then-not-count-magnitude c).After-starts_with-ended in
    entry_refused _ (sym (entry_tested _ (sign p) (digits p) (ended p)) ∙ c.if-not-count-magnitude.true)

pub returns : goal.returns
returns c =
    let p = (goal.at.returns c).After-starts_with-ended in
    let d = c.read_digits-digits.result in
    let value = c.with_sign.ensures ∙ ap (λ (b : Bool). cond b (neg_ℤ (pos d.value)) (pos d.value)) c.is_negative-minus.ensures in
    entry_accepted _ (sign p) (digits p) (sym (entry_tested _ (sign p) (digits p) (ended p)) ∙ c.if-not-count-magnitude.false)
    (to_z-of_z {w = w16} (record { sfits = c.with_sign.type_inv }) ∙ value)
