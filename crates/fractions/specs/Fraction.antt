-- Definitions only.
-- Fractions of naturals and their order, by cross products of any size.
use Prim.Native.Nat.{ℕ, zero, suc, ◌*◌, ◌≤◌, ◌<◌, compare, Ordering as Compared}
use Rattle.std.specs.declared.cmp.Ordering.{Ordering}
use Rattle.std.specs.declared.cmp.Ordering.TheVariants.{Less, Equal, Greater}

infix 50 ◌over◌ ◌≼◌ ◌≺◌
pub record Fraction : Type 0 where
  pub num : ℕ
  pub den : ℕ

abbrev pub ◌over◌ : ℕ → ℕ → Fraction
a over b = record { num = a; den = b }

-- The denominator as the order reads it. 0 / 0 is zero: it is read as 0 / 1. Anything else over 0 stays so, and its cross products put it
-- above every fraction and beside every other such.
abbrev pub ordered_denominator : ℕ → ℕ → ℕ
ordered_denominator zero zero = 1
ordered_denominator zero (suc b) = suc b
ordered_denominator (suc a) b = b

abbrev pub base : Fraction → ℕ
base f = ordered_denominator f.num f.den

-- f is at most g; f is less than g
abbrev pub ◌≼◌ : Fraction → Fraction → Type 0
f ≼ g = f.num * base g ≤ g.num * base f

abbrev pub ◌≺◌ : Fraction → Fraction → Type 0
f ≺ g = f.num * base g < g.num * base f

-- the order of two naturals
abbrev pub order_named : Compared → Ordering
order_named Compared.lt = Less
order_named Compared.eq = Equal
order_named Compared.gt = Greater

unfoldable pub order_of_numbers : ℕ → ℕ → Ordering
order_of_numbers x y = order_named (compare x y)

-- the order of two fractions
unfoldable pub order : Fraction → Fraction → Ordering
order f g = order_of_numbers (f.num * base g) (g.num * base f)
