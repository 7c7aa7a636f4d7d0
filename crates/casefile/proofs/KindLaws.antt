-- Each kind of figure of a case holds the figures within its limits.
-- Assumes nothing.
use Rattle.std.proofs.Common.{lit<}
use Rattle.std.specs.Int.{w16, w32}
use Rattle.limits.specs.Limits.{coefficient_limit, tolerance_limit, right_side_limit, right_tolerance_limit, trial_limit}
use Rattle.figures.proofs.FigureLaws.{Lawful, unsigned_lawful, signed_lawful}
use Rattle.figures.specs.Figures.{i16_kind, u16_kind, i32_kind, u32_kind, up_to_limit, within_limit}
use Rattle.casefile.specs.Layout.{trial_kind}

pub coefficient_lawful : Lawful i16_kind (within_limit coefficient_limit)
coefficient_lawful = signed_lawful w16 coefficient_limit (lit< tt)

pub tolerance_lawful : Lawful u16_kind (up_to_limit tolerance_limit)
tolerance_lawful = unsigned_lawful w16 tolerance_limit (lit< tt)

pub right_side_lawful : Lawful i32_kind (within_limit right_side_limit)
right_side_lawful = signed_lawful w32 right_side_limit (lit< tt)

pub right_tolerance_lawful : Lawful u32_kind (up_to_limit right_tolerance_limit)
right_tolerance_lawful = unsigned_lawful w32 right_tolerance_limit (lit< tt)

pub trial_lawful : Lawful trial_kind (within_limit trial_limit)
trial_lawful = signed_lawful w32 trial_limit (lit< tt)
