use lib.IntN.{pos}
use lib.ListN.{get_or}
use mathlib.Core.Path.{◌≡◌}
use Rattle.substitution.specs.Passes.{after_losses}
use Rattle.substitution.proofs.reduced_entry.Given as goal

abbrev pub invariant-loop-j : goal.invariant-loop-j
invariant-loop-j l = l.s ≡ after_losses l.row l.z (get_or l.z l.i (pos 0)) l.j
