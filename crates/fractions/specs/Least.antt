-- Definitions only.
-- The first of the least among the first n fractions of a sequence. A fraction over 0 is behind all others: so the first trial with the least factor
-- and, where no trial has one, the first of them are one rule.
use Rattle.std.specs.Prelude.{ℕ, Bool}
use Rattle.fractions.specs.First.{first_best, First}
use Rattle.fractions.specs.Fraction.{Fraction, ◌≼◌, ◌≺◌}
use Rattle.fractions.specs.Greatest.{greater}

abbrev pub less : Fraction → Fraction → Bool
less f h = greater h f

-- its place, from 0
abbrev pub first_least : (ℕ → Fraction) → ℕ → ℕ
first_least g n = first_best less g n

-- b is a place below k, no fraction below k is less, and those before b are greater
abbrev pub FirstLeast : (ℕ → Fraction) → ℕ → ℕ → Type 0
FirstLeast g k b = First (λ f h. h ≼ f) (λ f h. h ≺ f) g k b
