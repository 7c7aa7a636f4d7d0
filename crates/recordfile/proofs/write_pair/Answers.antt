-- `recordfile::write_pair` meets its contract: the reach behind the residual. Assumes nothing.
use lib.IntN.{pos}
use lib.ListN.{get_or}
use mir.Facts.{to_z-of_z}
use mir.Syntax.{w64}
use mir.Val.{SFits}
use Rattle.buffer.specs.WroteLaws.{onto_two}
use Rattle.figures.proofs.FigureLaws.{length_figure}
use Rattle.figures.specs.Figures.{i64_kind, u64_kind, figure_bytes}
use Rattle.recordfile.proofs.write_pair.Goals as goal

pub returns : goal.returns
returns c =
    let a = c.args in
    let R = get_or a.trial.now.residuals a.i (pos 0) in
    let f : SFits w64 R = record { sfits = c.write-arg-1.given } in
    let e = simp to_z-of_z at c.write.ensures in
    onto_two (figure_bytes i64_kind R) (figure_bytes u64_kind (get_or a.trial.now.reaches a.i 0)) a.out.now e (length_figure i64_kind R) c.write-2.ensures
