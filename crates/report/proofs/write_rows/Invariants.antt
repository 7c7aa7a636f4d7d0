use Rattle.std.specs.Prelude.{ℕ, ◌+◌, ℤ, pos, get_or, List}
use Rattle.decimal.proofs.WritingLaws.{Run}
use Rattle.report.specs.Text.{row_line, room_of_row}
use Rattle.report.proofs.write_rows.Given as goal

abbrev pub line : List ℤ → List ℕ → ℕ → List ℕ
line residuals reaches i = row_line (i + 1) (get_or residuals i (pos 0)) (get_or reaches i 0)

abbrev pub invariant-loop-i : goal.invariant-loop-i
invariant-loop-i l = Run room_of_row (line l.trial.residuals l.trial.reaches) l.n l.initial.to l.to l.i
