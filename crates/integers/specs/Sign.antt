-- Definitions only.
-- The sign of one number on another.
use Rattle.std.specs.Prelude.{zero, suc, ℤ, pos, negsuc, neg_ℤ}

-- x with its sign turned where y is below zero, and 0 where y is 0
abbrev pub turned : ℤ → ℤ → ℤ
turned (pos zero) x = pos 0
turned (pos (suc y)) x = x
turned (negsuc y) x = neg_ℤ x
