-- `case_reader::read_case` meets its contract: a refusal of the fields clears the lists, and without one they hold the case.
-- Assumes nothing.
use mathlib.Core.Path.{sym, ◌∙◌}
use Rattle.case_reader.proofs.Whole.{refused_whole, accepted_whole}
use Rattle.case_reader.proofs.read_case.Goals as goal

pub returns-then-is_err : goal.returns-then-is_err
returns-then-is_err c = refused_whole _ _ _ _ (sym c.is_err.ensures.value ∙ c.if-is_err.true) c.read_fields-read.ensures

pub returns-else-is_err : goal.returns-else-is_err
returns-else-is_err c = accepted_whole _ _ _ _ (sym c.is_err.ensures.value ∙ c.if-is_err.false) c.read_fields-read.ensures
