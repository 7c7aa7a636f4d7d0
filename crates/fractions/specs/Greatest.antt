-- Definitions only.
-- The first of the greatest among the first n fractions of a sequence: the first row that has no factor and the first with the greatest factor are
-- one rule, since a fraction over 0 is above every other.
use Rattle.std.specs.Prelude.{ℕ, Bool, true, false}
use Rattle.fractions.specs.First.{first_best, First}
use Rattle.fractions.specs.Fraction.{Fraction, ◌≼◌, ◌≺◌, order}
use Rattle.std.specs.declared.cmp.Ordering.{Ordering}
use Rattle.std.specs.declared.cmp.Ordering.TheVariants.{Less, Equal, Greater}

abbrev pub is_greater_order : Ordering → Bool
is_greater_order Less = false
is_greater_order Equal = false
is_greater_order Greater = true

abbrev pub greater : Fraction → Fraction → Bool
greater f h = is_greater_order (order f h)

-- its place, from 0
abbrev pub first_greatest : (ℕ → Fraction) → ℕ → ℕ
first_greatest g n = first_best greater g n

-- b is a place below k, no fraction below k is greater, and those before b are less
abbrev pub FirstGreatest : (ℕ → Fraction) → ℕ → ℕ → Type 0
FirstGreatest g k b = First (λ f h. f ≼ h) (λ f h. f ≺ h) g k b
