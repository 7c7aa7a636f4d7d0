-- `ballast_c::ballast_soundings` meets its contract: what the call leaves, under its number. Assumes nothing.
use borrow.Author.Rules.{rules}
use mathlib.Core.Path.{◌∙◌}
use mir.Facts.{to_z-of_z}
use Rattle.ballast_c.proofs.Laws.{soundings_small}
use Rattle.ballast_c.proofs.ResultLaws.{returned}
use Rattle.ballast_c.proofs.ballast_soundings.Goals as goal

pub result-requires : goal.result-requires
result-requires c = soundings_small _ _ _ _ c.soundings.ensures
