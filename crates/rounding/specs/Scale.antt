-- Definitions only.
-- The scale of the multipliers, which the steps divide by.
use Rattle.std.specs.Prelude.{ℕ}

-- document 01, "The steps": a multiplier M counts in units of 1 / 16,384
abbrev pub multiplier_scale : ℕ
multiplier_scale = 16384
