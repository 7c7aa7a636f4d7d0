-- Definitions only.
-- The case that a caller hands over to be written.
use Rattle.casefile.specs.Case.{Case, case_of_lists}
use Rattle.casefile.specs.declared.CaseLists.{CaseLists}

abbrev pub given : CaseLists → Case
given l = case_of_lists l.head.n l.head.exponent l.head.rounds l.coefficients.now l.tolerances.now l.right_sides.now l.right_tolerances.now l.trial.now
