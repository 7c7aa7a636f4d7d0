-- Reading back what is printed gives the number, so no two numbers print alike; the minus stands exactly below zero; and how long a text is.
-- Assumes nothing.
use Rattle.std.specs.Prelude.{ℕ, zero, suc, ◌+◌, ◌*◌, ◌-◌, ◌/◌, ◌%◌, ◌^◌, ◌≤◌, ◌<◌, ℤ, pos, negsuc, nat_abs, length, get_or, false, List, [], ◌∷◌, ◌++◌, ◌≡◌, refl}
use Rattle.std.proofs.Common.{ne_eqb, le-ltb, lit<, lit≤, length-append, take_at, append-nil, sym, ap, ◌∙◌, mod-lt, div-one, div-add-mod', div-le_self, div-lt_iff_lt-mul, pow-suc, lt_of_le_of_lt, arith}
use Rattle.std.proofs.Math.Arith.{lt-one}
use Rattle.std.proofs.Math.ListN.{get_or-append}
use Rattle.std.proofs.Math.Seq.{drop-append-add}
use Rattle.std.specs.Int.Signed.{lt_z}
use Rattle.std.proofs.Math.Nat.{one-le-pow}
use Rattle.decimal.specs.Decimal.{digit, decimal_digits, last_digits, minus_sign, signed_decimal, fraction, fixed_point}
use Rattle.decimal.proofs.DigitLaws.{digits_one, digits_more, by_tenths, digits_some, first_is_digit, length_digits, length_last_digits}
use Rattle.decimal.specs.Reading.{value_from, value, scaled_value, negative, read_by, read_signed, read_fixed_point}

-- ---- digits

pub value_snoc : (a : ℕ) (s : List ℕ) (c : ℕ) → value_from a (s ++ (c ∷ [])) ≡ value_from a s * 10 + (c - 48)
value_snoc a [] c = refl
value_snoc a (x ∷ s) c = value_snoc (a * 10 + (x - 48)) s c

-- what is before the last digit, and it
value_more : (s : List ℕ) (n : ℕ) → value s ≡ n / 10 → value (s ++ (digit (n % 10) ∷ [])) ≡ n
value_more s n h = value_snoc 0 s (digit (n % 10)) ∙ omega arith

pub value_digits : (n : ℕ) → value (decimal_digits n) ≡ n
value_digits =
    by_tenths (λ n. value (decimal_digits n) ≡ n) (λ n h. rw (digits_one n h) (omega arith))
    (λ n h i. rw (digits_more n h) (value_more (decimal_digits (n / 10)) n i))

pub value_last_digits : (e n : ℕ) → n < 10 ^ e → value (last_digits e n) ≡ n
unfolding last_digits
value_last_digits zero n h = sym (lt-one h)
value_last_digits (suc e) n h =
    value_more (last_digits e (n / 10)) n
    (value_last_digits e (n / 10) ((div-lt_iff_lt-mul {k = 10} (lit< tt)).1 (rw (pow-suc 10 e) at h)))

-- ---- digits with a point

-- the parts of a text with a point
split : (k : ℕ) (a b : List ℕ) → length b ≡ suc k → scaled_value (suc k) (a ++ (46 ∷ b)) ≡ value a * 10 ^ suc k + value b
unfolding scaled_value
split k a b h =
    let s : List ℕ = a ++ (46 ∷ b) in
    let l : length s ≡ length a + suc (length b) = length-append a (46 ∷ b) in
    let m : length s - suc (suc k) ≡ length a = omega arith in
    let n : length s - suc k ≡ length a + 1 = omega arith in
    rw (m, n, take_at a (46 ∷ b) (length a) refl, drop-append-add a (46 ∷ b) 1)

pub scaled_value_is : (e n : ℕ) → scaled_value e (decimal_digits (n / 10 ^ e) ++ fraction e (n % 10 ^ e)) ≡ n
unfolding scaled_value
scaled_value_is zero n = rw (append-nil, div-one n) (value_digits n)
scaled_value_is (suc k) n =
    let d : ℕ = 10 ^ suc k in
    split k (decimal_digits (n / d)) (last_digits (suc k) (n % d)) (length_last_digits (suc k) (n % d))
    ∙ rw (value_digits (n / d), value_last_digits (suc k) (n % d) (mod-lt n (one-le-pow (suc k) 10 (lit≤ tt)))) (div-add-mod' n d)

-- ---- the sign

pub no_minus : (body : List ℕ) → digit 0 ≤ get_or body 0 0 → negative body ≡ false
no_minus body h = ne_eqb (get_or body 0 0) 45 (λ e. absurd (omega arith))

read_by_is : (m : List ℕ → ℕ) (z : ℤ) (body : List ℕ) → digit 0 ≤ get_or body 0 0 → m body ≡ nat_abs z → read_by m (minus_sign z ++ body) ≡ z
read_by_is m (pos n) body h e = rw (no_minus body h, e)
read_by_is m (negsuc n) body h e = rw e

negative_is : (z : ℤ) (body : List ℕ) → digit 0 ≤ get_or body 0 0 → negative (minus_sign z ++ body) ≡ lt_z z (pos 0)
negative_is (pos n) body h = no_minus body h ∙ sym (le-ltb n 0 (omega arith))
negative_is (negsuc n) body h = refl

first_of : (n : ℕ) (s : List ℕ) → digit 0 ≤ get_or (decimal_digits n ++ s) 0 0
first_of n s = rw (get_or-append (decimal_digits n) s 0 0 (digits_some n)) (first_is_digit n)

-- ---- whole numbers

pub read_signed_is : (z : ℤ) → read_signed (signed_decimal z) ≡ z
unfolding signed_decimal
read_signed_is z = read_by_is value z (decimal_digits (nat_abs z)) (first_is_digit (nat_abs z)) (value_digits (nat_abs z))

pub signed_negative : (z : ℤ) → negative (signed_decimal z) ≡ lt_z z (pos 0)
unfolding signed_decimal
signed_negative z = negative_is z (decimal_digits (nat_abs z)) (first_is_digit (nat_abs z))

-- ---- numbers with a point

-- what is printed of Y and read back is Y, for every Y and e
pub read_fixed_point_is : (e : ℕ) (z : ℤ) → read_fixed_point e (fixed_point e z) ≡ z
unfolding fixed_point
read_fixed_point_is e z =
    read_by_is (scaled_value e) z (decimal_digits (nat_abs z / 10 ^ e) ++ fraction e (nat_abs z % 10 ^ e))
    (first_of (nat_abs z / 10 ^ e) (fraction e (nat_abs z % 10 ^ e)))
    (scaled_value_is e (nat_abs z))

-- no two numbers print alike
pub fixed_point_injective : (e : ℕ) (y z : ℤ) → fixed_point e y ≡ fixed_point e z → y ≡ z
fixed_point_injective e y z h = sym (read_fixed_point_is e y) ∙ ap (read_fixed_point e) h ∙ read_fixed_point_is e z

-- a minus exactly if the number is negative
pub fixed_point_negative : (e : ℕ) (z : ℤ) → negative (fixed_point e z) ≡ lt_z z (pos 0)
unfolding fixed_point
fixed_point_negative e z =
    negative_is z (decimal_digits (nat_abs z / 10 ^ e) ++ fraction e (nat_abs z % 10 ^ e))
    (first_of (nat_abs z / 10 ^ e) (fraction e (nat_abs z % 10 ^ e)))

-- ---- how long

length_minus : (z : ℤ) → length (minus_sign z) ≤ 1
length_minus (pos n) = omega arith
length_minus (negsuc n) = omega arith

length_fraction : (e n : ℕ) → length (fraction e n) ≤ suc e
length_fraction zero n = omega arith
length_fraction (suc k) n = omega (arith, length_last_digits (suc k) n)

pub length_signed : (k : ℕ) (z : ℤ) → nat_abs z < 10 ^ suc k → length (signed_decimal z) ≤ suc (suc k)
unfolding signed_decimal
length_signed k z h =
    omega (arith, length-append (minus_sign z) (decimal_digits (nat_abs z)), length_minus z, length_digits k (nat_abs z) h)

pub length_fixed_point : (k e : ℕ) (z : ℤ) → nat_abs z < 10 ^ suc k → length (fixed_point e z) ≤ suc (suc k) + suc e
unfolding fixed_point
length_fixed_point k e z h =
    let w : List ℕ = decimal_digits (nat_abs z / 10 ^ e) in
    let f : List ℕ = fraction e (nat_abs z % 10 ^ e) in
    omega (
      arith,
      length-append (minus_sign z) (w ++ f),
      length-append w f,
      length_minus z,
      length_digits k (nat_abs z / 10 ^ e) (lt_of_le_of_lt (div-le_self (nat_abs z) (10 ^ e)) h),
      length_fraction e (nat_abs z % 10 ^ e),
    )
