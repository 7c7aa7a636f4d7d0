-- Digits at a text's front: the loop that reads them, that reading is the inverse of writing, also behind leading zeros, and that every row of digits is so
-- written. Assumes nothing.
use Rattle.std.specs.Prelude.{ℕ, zero, suc, ◌+◌, ◌*◌, ◌-◌, ◌/◌, ◌%◌, ◌^◌, ◌≤◌, ◌<◌, leb, length, get_or, take, replicate, true, false, List, [], ◌∷◌, ◌++◌, ◌≡◌, refl}
use Rattle.std.proofs.Common.{le-leb, leb-true, lit≤, length-take, take-suc, take_at, take-take, get_or-take, length-take-le, append-nil, append_assoc, sym, ap, ◌∙◌, pow-suc, lt_of_lt_of_le, add-one, arith}
use Rattle.std.proofs.Math.Decide.{ℕ_discrete}
use Rattle.std.proofs.Math.Nat.{pow-le-pow_right}
use Rattle.buffer.specs.AllLaws.{and_true, all_append, all_replicate}
use Rattle.buffer.specs.Buffer.{all, leading}
use Rattle.buffer.specs.LeadingLaws.{leading_le, leading_pass, leading_append, leading_taken, Counting, count_begun, count_turn, count_stopped, count_ended}
use Rattle.decimal.specs.Decimal.{digit, decimal_digits}
use Rattle.decimal.proofs.DigitLaws.{digits_one, digits_more, by_tenths}
use Rattle.decimal.specs.Reading.{value_from, value, is_digit_byte, most_digits, digits_in, DigitsRead}
use Rattle.decimal.proofs.ReadingLaws.{value_snoc, value_digits}
use Rattle.decimal.specs.declared.Digits.{Digits}

-- ---- a digit

pub digit_least : (c : ℕ) → is_digit_byte c ≡ true → digit 0 ≤ c
digit_least c e = leb-true (digit 0) c (and_true (leb (digit 0) c) (leb c (digit 9)) e).0

pub digit_most : (c : ℕ) → is_digit_byte c ≡ true → c ≤ digit 9
digit_most c e = leb-true c (digit 9) (and_true (leb (digit 0) c) (leb c (digit 9)) e).1

is_digit : (d : ℕ) → d < 10 → is_digit_byte (digit d) ≡ true
is_digit d h = rw (le-leb (digit 0) (digit d) (omega arith), le-leb (digit d) (digit 9) (omega arith))

-- ---- the digits at a text's front: how many, and that they are digits

module _ (most : ℕ) (s : List ℕ) where
  pub leading_digits : (leading is_digit_byte (take most s) ≤ most) × (leading is_digit_byte (take most s) ≤ length s)
  leading_digits = omega (arith, leading_le is_digit_byte (take most s), length-take most s)

  pub length_digits_in : length (digits_in most s) ≡ leading is_digit_byte (take most s)
  length_digits_in = length-take-le (leading is_digit_byte (take most s)) s leading_digits.1

  pub digits_in_digits : all is_digit_byte (digits_in most s) ≡ true
  digits_in_digits = rw (take-take (leading is_digit_byte (take most s)) most s leading_digits.0) at (leading_pass is_digit_byte (take most s))

-- ---- the loop: so many are read, and v is their number

pub record ReadingDigits (most : ℕ) (s : List ℕ) (count v : ℕ) : Type 0 where
  counting : Counting is_digit_byte (take most s) count
  number : v ≡ value (take count s)
  small : v < 10 ^ count

module _ {most : ℕ} {s : List ℕ} where
  pub digits_begun : ReadingDigits most s 0 0
  digits_begun = record { counting = count_begun; number = refl; small = omega arith }

  module _ {count v : ℕ} (r : ReadingDigits most s count v) where
    inside : count < most → count < length s → count < length (take most s)
    inside h k = rw (length-take most s) (omega arith)

    -- the next one fits
    pub next_fits : most ≤ most_digits → count < most → v < 10 ^ 18
    next_fits m h = lt_of_lt_of_le r.small (pow-le-pow_right (lit≤ tt) {j = 18} (omega arith))

    pub digits_turn : count < most → count < length s → is_digit_byte (get_or s count 0) ≡ true → ReadingDigits most s (count + 1) (v * 10 + (get_or s count 0 - digit 0))
    digits_turn h k e =
        let c = get_or s count 0 in
        record {
          counting = count_turn r.counting 0 (inside h k) (rw (get_or-take most s count 0 h) e);
          number = rw (add-one count, take-suc s count 0 k) (rw r.number (sym (value_snoc 0 (take count s) c)));
          small = rw (add-one count, pow-suc 10 count) (omega (arith, r.small, digit_most c e));
        }

    -- how it ends
    found : count ≡ leading is_digit_byte (take most s) → DigitsRead most s (record { count = count; value = v })
    found e = record { count = e ∙ sym (length_digits_in most s); number = rw (← e) r.number }

    pub digits_end : length (take most s) ≤ count → DigitsRead most s (record { count = count; value = v })
    digits_end h = found (count_ended r.counting h)

    pub digits_stop : count < most → count < length s → is_digit_byte (get_or s count 0) ≡ false → DigitsRead most s (record { count = count; value = v })
    digits_stop h k e = found (count_stopped r.counting 0 (inside h k) (rw (get_or-take most s count 0 h) e))

-- ---- read and written

pub all_digits : (n : ℕ) → all is_digit_byte (decimal_digits n) ≡ true
unfolding all
all_digits =
    by_tenths (λ n. all is_digit_byte (decimal_digits n) ≡ true)
    (λ n h. rw (digits_one n h, is_digit n h))
    (λ n h i. rw (digits_more n h) (all_append is_digit_byte (decimal_digits (n / 10)) (digit (n % 10) ∷ []) i (rw (is_digit (n % 10) (omega arith)))))

-- digits, and then something else or the end
module _ (most : ℕ) (a rest : List ℕ) (digits : all is_digit_byte a ≡ true) (few : length a ≤ most) (other : leading is_digit_byte rest ≡ 0) where
  digits_counted : leading is_digit_byte (take most (a ++ rest)) ≡ length a
  digits_counted =
      let e : leading is_digit_byte (a ++ rest) ≡ length a = leading_append is_digit_byte a rest digits ∙ omega arith in
      leading_taken is_digit_byte most (a ++ rest) (omega arith) ∙ e

  pub digits_taken : digits_in most (a ++ rest) ≡ a
  digits_taken = rw digits_counted (take_at a rest (length a) refl)

-- leading zeros count for nothing
pub value_zeros : (z : ℕ) (s : List ℕ) → value (replicate z (digit 0) ++ s) ≡ value s
value_zeros zero s = refl
value_zeros (suc z) s = value_zeros z s

pub zeros_digits : (z n : ℕ) → all is_digit_byte (replicate z (digit 0) ++ decimal_digits n) ≡ true
zeros_digits z n = all_append is_digit_byte (replicate z (digit 0)) (decimal_digits n) (all_replicate is_digit_byte z (digit 0) refl) (all_digits n)

-- what `read_digits` gives of a number that was written is its digits' count and the number, with leading zeros or without
pub digits_back : (most z n : ℕ) (rest : List ℕ) {r : Digits} → length (replicate z (digit 0) ++ decimal_digits n) ≤ most → leading is_digit_byte rest ≡ 0
    → DigitsRead most ((replicate z (digit 0) ++ decimal_digits n) ++ rest) r
    → (r.count ≡ length (replicate z (digit 0) ++ decimal_digits n)) × (r.value ≡ n)
digits_back most z n rest few other w =
    let e = digits_taken most (replicate z (digit 0) ++ decimal_digits n) rest (zeros_digits z n) few other in
    (w.count ∙ ap length e, w.number ∙ ap value e ∙ value_zeros z (decimal_digits n) ∙ value_digits n)

-- ---- every row of digits is zeros and then the digits of its number

-- behind a number that is not 0 the digits go on
digits_go_on : (m : ℕ) (a : List ℕ) → 0 < m → all is_digit_byte a ≡ true → decimal_digits (value_from m a) ≡ decimal_digits m ++ a
unfolding all
digits_go_on m [] h e = sym (append-nil (decimal_digits m))
digits_go_on m (c ∷ a) h e =
    let w = and_true (is_digit_byte c) (all is_digit_byte a) e in
    let l = digit_least c w.0 in
    let u = digit_most c w.0 in
    let next = m * 10 + (c - digit 0) in
    let tenth : next / 10 ≡ m = omega arith in
    let last : digit (next % 10) ≡ c = omega arith in
    digits_go_on next a (omega arith) w.1
    ∙ rw (digits_more next (omega arith), tenth, last) (append_assoc (decimal_digits m) (c ∷ []) a)

pub record ZerosAndDigits (a : List ℕ) : Type 0 where
  pub zeros : ℕ
  pub is : a ≡ replicate zeros (digit 0) ++ decimal_digits (value a)

pub zeros_and_digits : (a : List ℕ) → all is_digit_byte a ≡ true → 0 < length a → ZerosAndDigits a
unfolding all
zeros_and_digits [] e h = absurd (omega arith)
zeros_and_digits (c ∷ a) e h = by (ℕ_discrete c (digit 0)) a w.1 (zeros_and_digits a w.1)
  where
    w : (is_digit_byte c ≡ true) × (all is_digit_byte a ≡ true)
    w = and_true (is_digit_byte c) (all is_digit_byte a) e

    by : Dec (c ≡ digit 0) → (a : List ℕ) → all is_digit_byte a ≡ true → (0 < length a → ZerosAndDigits a) → ZerosAndDigits (c ∷ a)
    by (no n) a g r =
        let l = digit_least c w.0 in
        let u = digit_most c w.0 in
        let k : digit (c - digit 0) ≡ c = omega arith in
        let m : 0 < c - digit 0 = above l n in
        let first : decimal_digits (c - digit 0) ≡ c ∷ [] = digits_one (c - digit 0) (omega arith) ∙ rw k in
        let once : 0 * 10 + (c - digit 0) ≡ c - digit 0 = omega arith in
        record { zeros = 0; is = sym (rw once (digits_go_on (c - digit 0) a m g ∙ rw first)) }
      where
        above : digit 0 ≤ c → (c ≡ digit 0 → ⊥) → 0 < c - digit 0
        above l n = omega arith
    by (yes k) [] g r = record { zeros = 0; is = rw k (sym (digits_one 0 (omega arith))) }
    by (yes k) (d ∷ b) g r =
        let q = r (omega arith) in
        record { zeros = suc q.zeros; is = rw k (ap (λ (l : List ℕ). digit 0 ∷ l) q.is) }
