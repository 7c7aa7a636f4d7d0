-- `matrix_reader::read_entries` meets its contract. The loop's invariant: the entries that are read and those of the rest of the text are all.
-- Assumes nothing.
use borrow.Author.Rules.{rules}
use mathlib.Core.Path.{refl}
use native.Mathlib.Omega.{arith}
use Rattle.buffer.specs.Laws.{part_is}
use Rattle.matrix_reader.specs.EntryLaws.{entries_begun, entries_refused, entries_turn, entries_ended}
use Rattle.matrix_reader.proofs.read_entries.Goals as goal

pub loop-k-init : goal.loop-k-init
loop-k-init c = entries_begun

pub loop-k-preserved : goal.loop-k-preserved
loop-k-preserved c =
    entries_turn c.loop-k.invariant (rw (part_is c.args.text.now c.loop-k.p) at c.read_entry.ensures) c.in-Some.is c.loop-k-test.true
    (omega (arith, c.loop-k.invariant.same, c.requires, c.loop-k-test.true)) (search rules)

pub returns-in_default : goal.returns-in_default
returns-in_default c =
    entries_refused c.loop-k.invariant (rw (part_is c.args.text.now c.loop-k.p) at c.read_entry.ensures) c.loop-k-test.true c.in_default.is

pub returns : goal.returns
returns c = entries_ended c.loop-k.invariant (omega arith) refl
