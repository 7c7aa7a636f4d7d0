-- Definitions only.
-- Finite sums by prefixes: the sum of the first n terms of a sequence, formed from the first term on. Over ℤ `sum`, over ℕ `total`.
-- That one term more adds exactly that term is the definition itself.
use Rattle.std.specs.Prelude.{ℕ, zero, suc, ◌+◌, ℤ, pos, ◌+ℤ◌}

abbrev pub sum : ℕ → (ℕ → ℤ) → ℤ
sum zero f = pos 0
sum (suc n) f = sum n f +ℤ f n

abbrev pub total : ℕ → (ℕ → ℕ) → ℕ
total zero f = 0
total (suc n) f = total n f + f n
