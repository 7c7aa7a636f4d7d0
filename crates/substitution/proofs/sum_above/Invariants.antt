use Prim.Native.Nat.{suc, ◌-◌}
use mathlib.Core.Path.{◌≡◌}
use Rattle.integers.specs.Sums.{sum}
use Rattle.substitution.specs.Passes.{product_above}
use Rattle.substitution.proofs.sum_above.Given as goal

abbrev pub invariant-loop-j : goal.invariant-loop-j
invariant-loop-j l = l.s ≡ sum (l.j - suc l.i) (product_above l.row l.d l.i)
