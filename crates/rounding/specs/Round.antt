-- Definitions only.
-- Rounded division: rnd(p/q) of document 01, the nearest whole number to p/q.
use Rattle.std.specs.Prelude.{ℕ, zero, suc, ◌+◌, ◌/◌, ◌%◌, ◌<◌, ℤ, pos, negsuc, neg_ℤ, nat_abs, cond}
use Rattle.std.specs.Int.{w64}
use Rattle.std.proofs.Common.{SFits}
use Rattle.rounding.specs.Half.{is_rounded_up}

-- of naturals: the whole quotient, or the next number. (A quotient by 0 is taken as 0; no step divides by 0.)
unfoldable pub near : ℕ → ℕ → ℕ
near a zero = 0
near a (suc b) = a / suc b + cond (is_rounded_up (a / suc b) (a % suc b) (suc b)) 1 0

-- of integers: the magnitude is rounded, and the sign is that of the quotient
unfoldable pub rnd : ℤ → ℤ → ℤ
rnd (pos a) (pos b) = pos (near a b)
rnd (pos a) (negsuc b) = neg_ℤ (pos (near a (suc b)))
rnd (negsuc a) (pos b) = neg_ℤ (pos (near (suc a) b))
rnd (negsuc a) (negsuc b) = pos (near (suc a) (suc b))

-- the result is defined, and fits a signed 64-bit number
pub record Defined (p q : ℤ) : Type 0 where
  pub divisor : 0 < nat_abs q
  pub fits : SFits w64 (rnd p q)
