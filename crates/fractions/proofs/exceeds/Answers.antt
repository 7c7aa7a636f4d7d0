-- `fractions::exceeds` meets its contract: by the numerators and denominators alone, or by the comparison. Assumes nothing.
use mathlib.Core.Path.{sym}
use Rattle.fractions.proofs.RankLaws.{smaller, larger}
use Rattle.fractions.proofs.exceeds.Goals as goal

pub returns-then-d-b : goal.returns-then-d-b
returns-then-d-b c = sym (smaller _ _ _ _ c.if-a-c.true c.if-d-b.true)

pub returns-then-b-gt0 : goal.returns-then-b-gt0
returns-then-b-gt0 c = sym (larger _ _ _ _ c.if-a-c.false c.if-b-d.true c.if-b-gt0.true)
