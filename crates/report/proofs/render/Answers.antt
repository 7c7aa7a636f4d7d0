-- `report::render` meets its contract: the verdict, the answers, the rows and the factor, one after another.
-- Assumes nothing.
use Rattle.std.proofs.Common.{rules}
use Rattle.decimal.proofs.WritingLaws.{wrote_back}
use Rattle.report.specs.Text.{text}
use Rattle.report.proofs.Lines.{text_written}
use Rattle.report.proofs.render.Goals as goal

pub returns : goal.returns
unfolding text
returns c =
    let w = text_written c.requires.tanks c.requires.enough c.write_verdict_line.ensures c.write_answers.ensures c.write_rows.ensures c.write_factor_line.ensures in
    wrote_back w (search (rules, w.same))
