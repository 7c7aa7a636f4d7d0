-- Definitions only.
-- How decimal text is read back.
use Rattle.std.specs.Prelude.{ℕ, zero, suc, ◌+◌, ◌*◌, ◌-◌, ◌^◌, eqb, leb, ℤ, pos, neg_ℤ, length, get_or, take, drop, Bool, cond, ◌&&◌, List, [], ◌∷◌, ◌≡◌}
use Rattle.buffer.specs.Buffer.{leading}
use Rattle.decimal.specs.Decimal.{digit}
use Rattle.decimal.specs.declared.Digits.{Digits}

-- the number of a row of digits, each ten times what is before it and itself
abbrev pub value_from : ℕ → List ℕ → ℕ
value_from a [] = a
value_from a (c ∷ s) = value_from (a * 10 + (c - 48)) s

abbrev pub value : List ℕ → ℕ
value s = value_from 0 s

-- the same for e digits after a point, in parts of 10^e: the digits before the point, and the last e, which follow it; with e = 0 all are digits
unfoldable pub scaled_value : ℕ → List ℕ → ℕ
scaled_value zero s = value s
scaled_value (suc k) s = value (take (length s - suc (suc k)) s) * 10 ^ suc k + value (drop (length s - suc k) s)

-- whether a text begins with a minus
abbrev pub negative : List ℕ → Bool
negative s = eqb (get_or s 0 0) 45

-- an optional minus, and then what m reads
abbrev pub read_by : (List ℕ → ℕ) → List ℕ → ℤ
read_by m s = cond (negative s) (neg_ℤ (pos (m (drop 1 s)))) (pos (m s))

-- a whole number; and, in parts of 10^e, a number with e digits after the point
abbrev pub read_signed : List ℕ → ℤ
read_signed s = read_by value s

abbrev pub read_fixed_point : ℕ → List ℕ → ℤ
read_fixed_point e s = read_by (scaled_value e) s

-- whether a byte is a digit
abbrev pub is_digit_byte : ℕ → Bool
is_digit_byte c = leb (digit 0) c && leb c (digit 9)

-- the digits at a text's front, at most so many of them
abbrev pub digits_in : ℕ → List ℕ → List ℕ
digits_in most s = take (leading is_digit_byte (take most s)) s

-- so many fit 64 bits, whatever they are
abbrev pub most_digits : ℕ
most_digits = 19

-- what is read of them: how many there are, and their number
pub record DigitsRead (most : ℕ) (s : List ℕ) (r : Digits) : Type 0 where
  pub count : r.count ≡ length (digits_in most s)
  pub number : r.value ≡ value (digits_in most s)
