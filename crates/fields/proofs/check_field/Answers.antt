-- `fields::check_field` meets its contract: each test that was made is the definition's test at that place.
-- Assumes nothing.
use Prim.Native.Nat.{ℕ, ◌+◌, ◌-◌}
use borrow.Author.Rules.{rules}
use borrow.Author.Tests.{le-leb, lt-leb, eq-eqb, ne_eqb}
use lib.Dec.{leb, eqb}
use lib.ListN.{length, get_or, take, drop, length-drop}
use lib.Seq.{get_or-drop, drop-drop}
use mathlib.Core.Bool.{Bool}
use mathlib.Core.List.{List}
use mathlib.Core.Path.{◌≡◌, refl, sym, ◌∙◌}
use native.Mathlib.Nat.{add-zero}
use native.Mathlib.Omega.{arith}
use Rattle.outcome.specs.Outcome.{status_number}
use Rattle.bigendian.specs.Number.{be}
use Rattle.fields.specs.Field.{length_at, length_size, header_size, in_turn, field_status}
use Rattle.fields.proofs.check_field.Goals as goal

-- the definition's four tests, as the code makes them at the place
at_place : (tag len at : ℕ) (s : List ℕ) {b1 b2 b3 b4 : Bool}
    → leb header_size (length s - at) ≡ b1
    → eqb (get_or s at 0) tag ≡ b2
    → eqb (be (take length_size (drop (at + length_at) s))) len ≡ b3
    → leb len (length s - at - header_size) ≡ b4
    → status_number (in_turn b1 b2 b3 b4) ≡ status_number (field_status tag len (drop at s))
unfolding field_status
at_place tag len at s e1 e2 e3 e4 = rw (length-drop at s, get_or-drop at s 0 0, add-zero at, drop-drop length_at at s, e1, e2, e3, e4)

pub returns-then-s-at : goal.returns-then-s-at
returns-then-s-at c =
    let g = c.args in
    at_place g.tag g.len g.at g.s.now (lt-leb header_size (length g.s.now - g.at) (omega arith)) refl refl refl

pub returns-then-left-lt-HEADER_SIZE : goal.returns-then-left-lt-HEADER_SIZE
returns-then-left-lt-HEADER_SIZE c =
    let g = c.args in
    at_place g.tag g.len g.at g.s.now (lt-leb _ _ c.if-left-lt-HEADER_SIZE.true) refl refl refl

pub returns-then-s-at-2 : goal.returns-then-s-at-2
returns-then-s-at-2 c =
    let g = c.args in
    at_place g.tag g.len g.at g.s.now (le-leb _ _ c.if-left-lt-HEADER_SIZE.false) (ne_eqb _ _ c.if-s-at-2.true) refl refl

pub returns-then-read-len : goal.returns-then-read-len
returns-then-read-len c =
    let g = c.args in
    let length_is = ne_eqb _ _ (λ e. c.if-read-len.true (c.read.ensures ∙ e)) in
    at_place g.tag g.len g.at g.s.now (le-leb _ _ c.if-left-lt-HEADER_SIZE.false) (eq-eqb _ _ c.if-s-at-2.false) length_is refl

pub returns : goal.returns
returns c =
    let g = c.args in
    let length_is = eq-eqb _ _ (sym c.read.ensures ∙ c.if-read-len.false) in
    c.check.ensures ∙ at_place g.tag g.len g.at g.s.now (le-leb _ _ c.if-left-lt-HEADER_SIZE.false) (eq-eqb _ _ c.if-s-at-2.false) length_is refl
