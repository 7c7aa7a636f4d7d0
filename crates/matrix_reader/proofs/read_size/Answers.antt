-- `matrix_reader::read_size` meets its contract: its tests are the definition's, where the text has a byte.
-- Assumes nothing.
use Prim.Native.Nat.{ℕ, ◌+◌, ◌-◌, ◌≤◌, ◌<◌}
use lib.Dec.{leb}
use lib.ListN.{length, drop, get_or, length-drop}
use mathlib.Core.Bool.{◌&&◌}
use mathlib.Core.List.{List, ◌∷◌}
use mathlib.Core.Path.{◌≡◌, sym, ap, ◌∙◌}
use native.Mathlib.Omega.{arith}
use Rattle.buffer.specs.Buffer.{leading}
use Rattle.buffer.specs.Laws.{part, part_is}
use Rattle.buffer.specs.LeadingLaws.{leading_le}
use Rattle.decimal.specs.Decimal.{line_feed}
use Rattle.matrixfile.specs.Read.{is_space, size_of, spaces_in, size_fine}
use Rattle.matrix_reader.specs.PartLaws.{part_begins, size_missing, size_refused, size_tested, size_accepted}
use Rattle.matrix_reader.proofs.read_size.Goals as goal
use Rattle.matrix_reader.proofs.read_size.Goals.{After-tanks_fine}

-- from what the calls ensure of the parts that they are lent
spaces : (s : List ℕ) {k : ℕ} → k ≡ leading is_space (part s 1) → k ≡ spaces_in s
spaces s e = rw (part_is s 1) at e

inside : (s : List ℕ) {k : ℕ} → 0 < length s → k ≡ leading is_space (part s 1) → 1 + k ≤ length s
inside s h e = omega (arith, spaces s e, leading_le is_space (drop 1 s), length-drop 1 s)

number : (c : After-tanks_fine) → c.saturating_sub-n.result ≡ size_of c.args.text.now
number c = c.saturating_sub-n.ensures ∙ ap (λ (m : ℕ). m - 48) (c.in_ok-first.ensures.item.3.1 0)

tested : (c : After-tanks_fine) → (c.tanks_fine.result && (leb 1 c.count_spaces-spaces.result && c.starts_with-ended.result)) ≡ size_fine c.args.text.now
tested c =
    let s : List ℕ = c.args.text.now in
    let k : ℕ = c.count_spaces-spaces.result in
    let first : c.in_ok-first.field-0.now ≡ get_or s 0 0 = c.in_ok-first.ensures.item.3.1 0 in
    let ended = part_begins s (1 + k) (c.in_ok-first.field-0.now ∷ line_feed) c.starts_with-ended.ensures.value in
    size_tested s (number c) (spaces s c.count_spaces-spaces.ensures) c.tanks_fine.ensures (rw first at ended)

pub returns-in_err-first : goal.returns-in_err-first
returns-in_err-first c = rw c.from_residual.ensures (size_missing _ (omega (arith, c.in_err-first.ensures.item)))

pub overflow_add-spaces : goal.overflow_add-spaces
overflow_add-spaces c = omega (arith, inside _ c.in_ok-first.ensures.item.3.0 c.count_spaces-spaces.ensures)

pub slice_bounds-starts_with-count : goal.slice_bounds-starts_with-count
slice_bounds-starts_with-count c = inside _ c.in_ok-first.ensures.item.3.0 c.count_spaces-spaces.ensures

pub slice_bounds-starts_with-start : goal.slice_bounds-starts_with-start
slice_bounds-starts_with-start c = omega (arith, inside _ c.in_ok-first.ensures.item.3.0 c.count_spaces-spaces.ensures)

pub returns-then-not-tanks_fine-spaces : goal.returns-then-not-tanks_fine-spaces
returns-then-not-tanks_fine-spaces c =
    size_refused _ (sym (tested (goal.at.returns-then-not-tanks_fine-spaces c).After-tanks_fine) ∙ c.if-not-tanks_fine-spaces.true)

pub returns : goal.returns
returns c =
    let p = (goal.at.returns c).After-tanks_fine in
    size_accepted _ (sym (tested p) ∙ c.if-not-tanks_fine-spaces.false) (number p) (spaces _ c.count_spaces-spaces.ensures)
