-- `fractions::compare` meets its contract, in one proof with its own call. Assumes nothing.
use Rattle.std.specs.Prelude.{ℕ, ◌/◌, ◌<◌, ◌≡◌, refl}
use Rattle.std.specs.declared.cmp.Ordering.{Ordering}
use Rattle.std.specs.declared.cmp.Ordering.TheVariants.{Less, Equal, Greater}
use Rattle.std.specs.Ordering.{MatchOrdering}
use Rattle.std.proofs.Common.{sym, ◌∙◌, arith}
use Rattle.std.proofs.lemmas.Cmp.{ranked}
use Rattle.fractions.specs.Fraction.{◌over◌, order}
use Rattle.fractions.proofs.Laws.{order_less, order_greater, by_quotient, by_remainder}
use Rattle.fractions.proofs.+compare.Goals as goal

-- unequal whole quotients are in the order of the fractions
by_quotients : (a b c d : ℕ) → 0 < b → 0 < d → (o : Ordering) → MatchOrdering o (a / b < c / d) (a / b ≡ c / d) (c / d < a / b) → (o ≡ Equal → ⊥)
    → o ≡ order (a over b) (c over d)
by_quotients a b c d h k Less l n = sym (order_less _ _ (by_quotient a b c d h k l))
by_quotients a b c d h k Equal l n = absurd (n refl)
by_quotients a b c d h k Greater l n = sym (order_greater _ _ (by_quotient c d a b k h l))

pub returns-in-Equal : goal.returns-in-Equal
returns-in-Equal t c =
    let a = c.args in
    let e : a.a / a.b ≡ a.c / a.d = rw c.in-Equal.is at (ranked (a.a / a.b) (a.c / a.d) c.cmp.result c.cmp.ensures) in
    c.compare.ensures ∙ sym (by_remainder a.a a.b a.c a.d (omega arith) (omega arith) e)

pub returns-in_default : goal.returns-in_default
returns-in_default t c =
    let a = c.args in
    by_quotients a.a a.b a.c a.d (omega arith) (omega arith) _ (ranked _ _ _ c.cmp.ensures) c.in_default.not-Equal
