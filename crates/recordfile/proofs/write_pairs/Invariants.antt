use Prim.Native.Nat.{◌*◌, ◌-◌}
use Rattle.buffer.specs.RunLaws.{Running}
use Rattle.recordfile.specs.Layout.{pair_at, pair_size}
use Rattle.recordfile.proofs.write_pairs.Given as goal

abbrev pub invariant-loop-i : goal.invariant-loop-i
invariant-loop-i l = Running pair_size (pair_at l.trial.residuals l.trial.reaches) l.n 0 l.initial.out l.out l.i (l.i * pair_size)

abbrev pub decreases-loop-i : goal.decreases-loop-i
decreases-loop-i l = l.n - l.i
