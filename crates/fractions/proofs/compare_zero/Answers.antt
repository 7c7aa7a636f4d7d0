-- `fractions::compare_zero` meets its contract: 0 over anything is below what has a numerator, and what has one is above all others over 0.
-- Assumes nothing.
use Rattle.std.specs.Prelude.{ℕ, zero, suc, ◌<◌, ◌⊎◌, ◌≡◌}
use Rattle.std.proofs.Common.{inl, inr, sym, arith, mul-pos}
use Rattle.fractions.specs.Fraction.{◌over◌, ◌≺◌}
use Rattle.fractions.proofs.Laws.{order_less, order_equal, order_greater, proper_base, over_zero_above, over_zero_alike}
use Rattle.fractions.proofs.compare_zero.Goals as goal

zero_below : (b c d : ℕ) → 0 < c → (0 over b) ≺ (c over d)
zero_below zero c d h = omega arith
zero_below (suc b) c d h = omega (arith, mul-pos {m = c} {n = suc b} h (omega arith))

-- the second denominator, where the first is not the one that is 0
second : (b d : ℕ) → (b ≡ 0) ⊎ (d ≡ 0) → (b ≡ 0 → ⊥) → d ≡ 0
second b d (inl e) n = absurd (n e)
second b d (inr e) n = e

pub returns-in-0-default-eq0-default : goal.returns-in-0-default-eq0-default
returns-in-0-default-eq0-default c = sym (order_equal _ _ (rw (c.in-0-default-eq0-default.is-0, c.in-0-default-eq0-default.is-2) (omega arith)))

pub returns-in-0-default-default-default : goal.returns-in-0-default-default-default
returns-in-0-default-default-default c =
    sym (order_less _ _ (rw c.in-0-default-default-default.is-0 (zero_below _ _ _ (omega arith))))

pub returns-in_default-default-eq0-default : goal.returns-in_default-default-eq0-default
returns-in_default-default-eq0-default c =
    sym (order_greater _ _ (rw c.in_default-default-eq0-default.is-2 (zero_below _ _ _ (omega arith))))

pub returns-in_default-eq0-default-eq0 : goal.returns-in_default-eq0-default-eq0
returns-in_default-eq0-default-eq0 c =
    let z = c.in_default-eq0-default-eq0 in
    sym (rw (z.is-1, z.is-3) (over_zero_alike _ _ (omega arith) (omega arith)))

pub returns-in_default-eq0-default-default : goal.returns-in_default-eq0-default-default
returns-in_default-eq0-default-default c =
    let a = c.args in
    sym (order_greater _ _ (rw c.in_default-eq0-default-default.is-1 (over_zero_above a.a a.c a.d (omega arith) (rw (proper_base a.c a.d (omega arith)) (omega arith)))))

pub returns-in_default : goal.returns-in_default
returns-in_default c =
    let a = c.args in
    let e = second a.b a.d c.requires c.in_default.is-1.1 in
    sym (order_less _ _ (rw e (over_zero_above a.c a.a a.b (omega arith) (rw (proper_base a.a a.b (omega arith)) (omega arith)))))
