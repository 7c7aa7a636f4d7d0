-- `rounding::rounds_up` meets its contract: it is the test of the rule for halves. Assumes nothing.
use mathlib.Core.Path.{refl}
use Rattle.rounding.specs.Half.{is_rounded_up}
use Rattle.rounding.proofs.rounds_up.Goals as goal

pub returns : goal.returns
unfolding is_rounded_up
returns c = refl
