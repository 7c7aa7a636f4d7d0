-- `recordfile::write_pairs` meets its contract. The loop's invariant: the pairs of the rows below i stand at the front. Assumes nothing.
use Rattle.std.specs.Prelude.{◌+◌, ◌*◌, ◌≡◌}
use native.Mathlib.Omega.{arith}
use Rattle.buffer.specs.RunLaws.{run_begun, run_turn_lent}
use Rattle.recordfile.specs.Laws.{length_pair}
use Rattle.recordfile.specs.Layout.{pair_size}
use Rattle.recordfile.proofs.write_pairs.Goals as goal

pub loop-i-preserved : goal.loop-i-preserved
loop-i-preserved c =
    let i = c.loop-i.i in
    let trial = c.args.trial.now in
    let next : (i + 1) * pair_size ≡ i * pair_size + pair_size = omega arith in
    rw next (run_turn_lent c.loop-i.invariant (omega arith) (length_pair trial.residuals trial.reaches i) c.write_pair.ensures)

pub loop-i-init : goal.loop-i-init
loop-i-init c = run_begun (omega arith)
