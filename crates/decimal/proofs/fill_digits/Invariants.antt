use Rattle.std.specs.Prelude.{length}
use Rattle.decimal.proofs.DigitLaws.{Filling}
use Rattle.decimal.proofs.fill_digits.Given as goal

abbrev pub invariant-loop-i : goal.invariant-loop-i
invariant-loop-i l = Filling l.x (length l.initial.part) l.rest l.i l.part
