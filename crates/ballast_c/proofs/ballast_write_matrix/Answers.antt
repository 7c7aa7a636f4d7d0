-- `ballast_c::ballast_write_matrix` meets its contract: what the writer leaves, under its number. Assumes nothing.
use borrow.Author.Rules.{rules}
use mathlib.Core.Path.{◌∙◌}
use mir.Facts.{to_z-of_z}
use Rattle.ballast_c.proofs.Laws.{matrix_written_small}
use Rattle.ballast_c.proofs.ResultLaws.{returned}
use Rattle.ballast_c.proofs.ballast_write_matrix.Goals as goal

pub result-requires : goal.result-requires
result-requires c = matrix_written_small _ _ _ _ _ c.write_matrix.ensures
