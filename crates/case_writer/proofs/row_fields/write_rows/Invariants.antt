use Rattle.case_writer.specs.Given.{given}
use Rattle.case_writer.proofs.WritingRows.{WritingRows}
use Rattle.case_writer.proofs.row_fields.write_rows.Given as goal

abbrev pub invariant-loop-i : goal.invariant-loop-i
invariant-loop-i l = WritingRows l.initial.out (given l.case) l.size l.out l.i
