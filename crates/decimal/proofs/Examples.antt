-- Worked numbers, by computation on the definitions. Nothing is exported. Assumes nothing.
use Rattle.std.specs.Prelude.{◌^◌, pos, negsuc, neg_ℤ, [], ◌∷◌, ◌≡◌, refl}
use Rattle.decimal.specs.Decimal.{digits_within, decimal_digits, last_digits, signed_decimal, fixed_point, ascii}
use Rattle.decimal.specs.Reading.{scaled_value, read_fixed_point}

-- answers: document 01's −4 with e = 1 keeps its minus, though its whole tonnes are 0
answers : fixed_point 1 (negsuc 3) ∷ fixed_point 1 (pos 4) ∷ fixed_point 1 (pos 0) ∷ fixed_point 0 (negsuc 6) ∷ fixed_point 3 (pos 5) ∷ fixed_point 3 (neg_ℤ (pos 10000000)) ∷ fixed_point 2 (pos 12345) ∷ []
    ≡ ascii "-0.4" ∷ ascii "0.4" ∷ ascii "0.0" ∷ ascii "-7" ∷ ascii "0.005" ∷ ascii "-10000.000" ∷ ascii "123.45" ∷ []
unfolding digits_within decimal_digits last_digits fixed_point
answers = refl

-- whole numbers, to the ends of 64 bits
whole_numbers : signed_decimal (pos 0) ∷ signed_decimal (negsuc 0) ∷ signed_decimal (pos 10) ∷ signed_decimal (neg_ℤ (pos (2 ^ 63))) ∷ decimal_digits 18446744073709551615 ∷ []
    ≡ ascii "0" ∷ ascii "-1" ∷ ascii "10" ∷ ascii "-9223372036854775808" ∷ ascii "18446744073709551615" ∷ []
unfolding digits_within decimal_digits signed_decimal
whole_numbers = refl

-- read back
readings : read_fixed_point 1 (ascii "-0.4") ∷ read_fixed_point 3 (ascii "0.005") ∷ read_fixed_point 0 (ascii "-7") ∷ []
    ≡ negsuc 3 ∷ pos 5 ∷ negsuc 6 ∷ []
unfolding scaled_value
readings = refl
