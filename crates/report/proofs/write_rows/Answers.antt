-- `report::write_rows` meets its contract. The loop's invariant: the lines of the rows before i are written.
-- Assumes nothing.
use Rattle.std.specs.Prelude.{get_or, pos}
use Rattle.std.proofs.Common.{rules, w64}
use mir.Val.{SFits}
use mir.Facts.{to_z-of_z}
use Rattle.decimal.proofs.WritingLaws.{run_of_none}
use Rattle.report.proofs.Lines.{lines_turn}
use Rattle.report.proofs.write_rows.Goals as goal

pub loop-i-init : goal.loop-i-init
loop-i-init c = run_of_none c.requires.1

pub loop-i-preserved : goal.loop-i-preserved
loop-i-preserved c =
    let fits : SFits w64 (get_or c.args.trial.now.residuals c.loop-i.i (pos 0)) = search rules in
    lines_turn c.loop-i.invariant c.loop-i-test.true (rw (to_z-of_z {w = w64} fits) at c.write_row_line.ensures)
