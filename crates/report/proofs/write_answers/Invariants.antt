use Rattle.std.specs.Prelude.{ℕ, ◌+◌, ℤ, pos, get_or, List}
use Rattle.decimal.proofs.WritingLaws.{Run}
use Rattle.report.specs.Text.{answer_line, answer_room}
use Rattle.report.proofs.write_answers.Given as goal

abbrev pub line : ℕ → List ℤ → ℕ → List ℕ
line e answer j = answer_line e (j + 1) (get_or answer j (pos 0))

abbrev pub invariant-loop-j : goal.invariant-loop-j
invariant-loop-j l = Run answer_room (line l.e l.answer) l.n l.initial.to l.to l.j
