-- `ballast_c::ballast_write_case` meets its contract: what the writer leaves, under its number. Assumes nothing.
use borrow.Author.Rules.{rules}
use mathlib.Core.Path.{◌∙◌}
use mir.Facts.{to_z-of_z}
use Rattle.ballast_c.proofs.Laws.{written_small, written}
use Rattle.ballast_c.proofs.ballast_write_case.Goals as goal

pub result-requires : goal.result-requires
result-requires c = written_small _ _ _ _ c.write_case.ensures
