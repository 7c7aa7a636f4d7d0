-- `ballast_c::ballast_verdict_text` meets its contract: what the text call leaves, under its number. Assumes nothing.
use borrow.Author.Rules.{rules}
use mathlib.Core.Path.{◌∙◌}
use mir.Facts.{to_z-of_z}
use Rattle.ballast_c.proofs.Laws.{text_small}
use Rattle.ballast_c.proofs.ResultLaws.{returned}
use Rattle.ballast_c.proofs.ballast_verdict_text.Goals as goal

pub result-requires : goal.result-requires
result-requires c = text_small _ _ _ _ c.verdict_text.ensures
