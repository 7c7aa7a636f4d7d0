use Rattle.std.specs.Prelude.{ℕ, ℤ, pos, length, get_or, List}
use Rattle.decimal.proofs.WritingLaws.{Run}
use Rattle.matrixfile.specs.Text.{entry_line, longest_entry_line, transpose}
use Rattle.matrix_writer.proofs.write_entries.Given as goal

abbrev pub line : ℕ → List ℤ → ℕ → List ℕ
line n A k = entry_line (get_or (transpose n A) k (pos 0))

abbrev pub invariant-loop-k : goal.invariant-loop-k
invariant-loop-k l = Run longest_entry_line (line l.n l.coefficients) (length l.coefficients) l.initial.to l.to l.k
