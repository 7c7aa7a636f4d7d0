-- `ballast_c::ballast_judge_case` meets its contract: the call's promise under the call's number. Assumes nothing.
use borrow.Author.Rules.{rules}
use mathlib.Core.Path.{◌∙◌}
use mir.Facts.{to_z-of_z}
use Rattle.ballast_c.proofs.Laws.{judged_small, judged}
use Rattle.ballast_c.proofs.ballast_judge_case.Goals as goal

pub result-requires : goal.result-requires
result-requires c = judged_small _ _ _ _ c.judge_case.ensures
