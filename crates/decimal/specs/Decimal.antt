-- Definitions only.
-- Text and decimal numbers as bytes, for numbers of any size.
use Prim.Native.Char.{code}
use Rattle.std.specs.Prelude.{ℕ, zero, suc, ◌+◌, ◌/◌, ◌%◌, ◌^◌, ltb, ℤ, pos, negsuc, nat_abs, true, false, List, [], ◌∷◌, ◌++◌}
use Prim.Native.String as string

-- the bytes of a text of ASCII characters
abbrev pub ascii : string.String → List ℕ
ascii string.[] = []
ascii (string.◌∷◌ c s) = code c ∷ ascii s

-- "A line feed ends every line."
abbrev pub line_feed : List ℕ
line_feed = 10 ∷ []

-- the byte of a digit
abbrev pub digit : ℕ → ℕ
digit d = 48 + d

-- A number below ten is one digit; another one is the digits of its tenth part and then the last digit. The count limits the
-- recursion; the number itself is always enough.
unfoldable pub digits_within : ℕ → ℕ → List ℕ
digits_within zero n = digit n ∷ []
digits_within (suc k) n =
    elim (ltb n 10) [ true ↦ digit n ∷ [] | false ↦ digits_within k (n / 10) ++ (digit (n % 10) ∷ []) ]

-- document 01: "whole decimal numbers without leading zeros"
unfoldable pub decimal_digits : ℕ → List ℕ
decimal_digits n = digits_within n n

-- the last e digits of n, with leading zeros: "e digits"
unfoldable pub last_digits : ℕ → ℕ → List ℕ
last_digits zero n = []
last_digits (suc e) n = last_digits e (n / 10) ++ (digit (n % 10) ∷ [])

-- "a minus only below zero": the sign is the number's, and not that of a part of it
abbrev pub minus_sign : ℤ → List ℕ
minus_sign (pos n) = []
minus_sign (negsuc n) = 45 ∷ []

unfoldable pub signed_decimal : ℤ → List ℕ
signed_decimal z = minus_sign z ++ decimal_digits (nat_abs z)

-- "for e above 0 a point and e digits"
abbrev pub fraction : ℕ → ℕ → List ℕ
fraction zero n = []
fraction (suc k) n = 46 ∷ last_digits (suc k) n

-- z / 10^e: "a minus exactly if Y is negative, then the whole tonnes, and for e above 0 a point and e digits"
unfoldable pub fixed_point : ℕ → ℤ → List ℕ
fixed_point e z = minus_sign z ++ (decimal_digits (nat_abs z / 10 ^ e) ++ fraction e (nat_abs z % 10 ^ e))
