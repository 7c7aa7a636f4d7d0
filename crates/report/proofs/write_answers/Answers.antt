-- `report::write_answers` meets its contract. The loop's invariant: the lines of the tanks before j are written.
-- Assumes nothing.
use Rattle.std.specs.Prelude.{get_or, pos}
use Rattle.std.proofs.Common.{rules, w32}
use mir.Val.{SFits}
use mir.Facts.{to_z-of_z}
use Rattle.decimal.proofs.WritingLaws.{run_of_none}
use Rattle.report.proofs.Lines.{lines_turn}
use Rattle.report.proofs.write_answers.Goals as goal

pub loop-j-init : goal.loop-j-init
loop-j-init c = run_of_none c.requires.1.1

pub loop-j-preserved : goal.loop-j-preserved
loop-j-preserved c =
    let fits : SFits w32 (get_or c.args.answer.now c.loop-j.j (pos 0)) = search rules in
    lines_turn c.loop-j.invariant c.loop-j-test.true (rw (to_z-of_z {w = w32} fits) at c.write_answer_line.ensures)
