-- `matrix_reader::write_rows` meets its contract.
-- The loop's invariant: the first k places hold the entries row after row, and the others what they held.
-- Assumes nothing.
use borrow.Author.Rules.{rules}
use native.Mathlib.Omega.{arith}
use Rattle.matrix_reader.specs.RowLaws.{rows_begun, rows_turn, rows_ended}
use Rattle.matrix_reader.proofs.write_rows.Goals as goal

pub loop-k-preserved : goal.loop-k-preserved
loop-k-preserved c = rows_turn c.loop-k.invariant c.loop-k-test.true (search rules)

pub loop-k-init : goal.loop-k-init
loop-k-init c = rows_begun c.requires

pub returns : goal.returns
returns c = rows_ended c.loop-k.invariant (omega arith)
