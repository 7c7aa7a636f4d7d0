-- `ballast_c::ballast_read_matrix` meets its contract: what the reader leaves, under its number. Assumes nothing.
use borrow.Author.Rules.{rules}
use mathlib.Core.Path.{◌∙◌}
use mir.Facts.{to_z-of_z}
use Rattle.ballast_c.proofs.Laws.{matrix_read_small}
use Rattle.ballast_c.proofs.ResultLaws.{returned}
use Rattle.ballast_c.proofs.ballast_read_matrix.Goals as goal

pub result-requires : goal.result-requires
result-requires c = matrix_read_small _ _ _ _ c.read_matrix.ensures
