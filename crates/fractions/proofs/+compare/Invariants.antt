-- The measure of `fractions::compare` is the smaller denominator: at the call each denominator is a remainder by one of the old ones, so both are
-- smaller than it.
use Prim.Native.Nat.{min}
use Rattle.fractions.proofs.+compare.Given as goal

abbrev pub decreases-compare : goal.decreases-compare
decreases-compare l = min l.b l.d
