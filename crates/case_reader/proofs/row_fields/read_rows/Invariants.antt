use Rattle.std.specs.Prelude.{◌-◌, ◌≡◌}
use Rattle.casefile.specs.Layout.{rows_at}
use Rattle.case_reader.specs.Read.{rows_in}
use Rattle.case_reader.proofs.ReadingRows.{ReadingRows}
use Rattle.case_reader.proofs.row_fields.read_rows.Given as goal

abbrev pub invariant-loop-i : goal.invariant-loop-i
invariant-loop-i l = ReadingRows l.s rows_at l.n (rows_in l.initial.figures) (rows_in l.figures) l.i × (l.figures.trial ≡ l.initial.figures.trial)

abbrev pub decreases-loop-i : goal.decreases-loop-i
decreases-loop-i l = l.n - l.i
