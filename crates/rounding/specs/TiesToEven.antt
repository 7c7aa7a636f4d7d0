-- Definitions only.
-- IEEE 754's default rule, roundTiesToEven, for whole numbers: the nearest, and of two equally near ones the even one.
use Rattle.std.specs.Prelude.{ℕ, ◌%◌, ◌≤◌, ℤ, nat_abs, ◌-ℤ◌, ◌*ℤ◌, ◌≡◌}

abbrev pub Even : ℤ → Type 0
Even z = nat_abs z % 2 ≡ 0

-- how far the whole number z is from p / q, in units of 1 / |q|
abbrev pub distance : ℤ → ℤ → ℤ → ℕ
distance p q z = nat_abs (q *ℤ z -ℤ p)

-- z is p / q by this rule
pub record TiesToEven (p q z : ℤ) : Type 0 where
  pub nearest : (y : ℤ) → distance p q z ≤ distance p q y
  pub even_of_two : (y : ℤ) → (y ≡ z → ⊥) → distance p q y ≡ distance p q z → Even z
