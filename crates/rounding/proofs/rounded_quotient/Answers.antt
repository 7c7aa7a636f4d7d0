-- `rounding::rounded_quotient` meets its contract: the magnitudes are rounded, and the test of the signs gives the sign. Assumes nothing.
use Rattle.std.specs.Prelude.{ℕ, ℤ, pos, neg_ℤ, nat_abs, true, false, ◌≡◌}
use Rattle.std.proofs.Common.{sym, ap, ap₂, ◌∙◌, to_z-of_z}
use Rattle.std.specs.Int.Signed.{lt_z}
use mathlib.Core.Bool.{beq}
use mir.Syntax.{w64}
use mir.Val.{SFits}
use Rattle.integers.specs.Ring.{zero_sub_ℤ}
use Rattle.integers.specs.Signed.{read, to_z_fits}
use Rattle.rounding.proofs.Laws.{rnd_same_sign, rnd_other_sign}
use Rattle.rounding.specs.Round.{near, rnd}
use Rattle.rounding.proofs.rounded_quotient.Goals as goal

-- numbers that fit, and as the code has them their magnitudes a and b, and the magnitude m of the quotient
module _ {p q : ℤ} (f : SFits w64 p) (g : SFits w64 q) {a b m : ℕ} (d : a ≡ nat_abs (read p)) (e : b ≡ nat_abs (read q)) (k : m ≡ near a b) where
  m_is : m ≡ near (nat_abs p) (nat_abs q)
  m_is = k ∙ ap₂ near (d ∙ ap nat_abs (to_z-of_z f)) (e ∙ ap nat_abs (to_z-of_z g))

  same_sign : beq (lt_z (read p) (pos 0)) (lt_z (read q) (pos 0)) ≡ true → rnd p q ≡ pos m
  same_sign t = rnd_same_sign p q (rw (to_z-of_z f, to_z-of_z g) at t) ∙ sym (ap pos m_is)

  other_sign : beq (lt_z (read p) (pos 0)) (lt_z (read q) (pos 0)) ≡ false → rnd p q ≡ neg_ℤ (pos m)
  other_sign t = rnd_other_sign p q (rw (to_z-of_z f, to_z-of_z g) at t) ∙ sym (ap (λ (n : ℕ). neg_ℤ (pos n)) m_is)

pub overflow_cast-result : goal.overflow_cast-result
overflow_cast-result c =
    let e = same_sign c.ranges.p c.ranges.q c.magnitude.ensures c.magnitude-2.ensures c.nearest-m.ensures c.if-p-q.true in
    rw e at c.requires.fits

pub strict_sub_unsigned-requires : goal.strict_sub_unsigned-requires
strict_sub_unsigned-requires c =
    let e = other_sign c.ranges.p c.ranges.q c.magnitude.ensures c.magnitude-2.ensures c.nearest-m.ensures c.if-p-q.false in
    rw (zero_sub_ℤ (pos c.nearest-m.result), ← e) c.requires.fits

pub returns-then-p-q : goal.returns-then-p-q
returns-then-p-q c =
    let e = same_sign c.ranges.p c.ranges.q c.magnitude.ensures c.magnitude-2.ensures c.nearest-m.ensures c.if-p-q.true in
    to_z_fits w64 _ (rw e at c.requires.fits) ∙ sym e

pub returns-else-p-q : goal.returns-else-p-q
returns-else-p-q c =
    let e = other_sign c.ranges.p c.ranges.q c.magnitude.ensures c.magnitude-2.ensures c.nearest-m.ensures c.if-p-q.false in
    let r = c.strict_sub_unsigned.ensures ∙ zero_sub_ℤ (pos c.nearest-m.result) ∙ sym e in
    rw r (to_z-of_z c.requires.fits)
