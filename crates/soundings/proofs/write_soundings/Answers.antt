-- `soundings::write_soundings` meets its contract: refusal 10, or the depths of answers that are all inside. Assumes nothing.
use mathlib.Core.Path.{sym, ◌∙◌}
use Rattle.soundings.proofs.SoundingLaws.{written_inside}
use Rattle.soundings.proofs.write_soundings.Goals as goal

pub returns : goal.returns
returns c =
    let e = c in
    let a = e.args in
    written_inside a.table.now a.scale a.answer.now a.out.now (sym e.all_inside.ensures ∙ e.if-not-all_inside.false) c.write_depths.ensures
