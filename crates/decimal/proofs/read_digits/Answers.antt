-- `decimal::read_digits` meets its contract. The loop's invariant: so many digits are read, and the value is theirs.
-- Assumes nothing.
use Rattle.std.proofs.Common.{ℕ, ◌+◌, ◌*◌, ◌-◌, ◌<◌, ◌≤◌, ◌≡◌, ◌^◌, true, false, length, get_or, min, take, List, length-take, get_or-take, sym, ◌∙◌, arith}
use Rattle.std.proofs.lemmas.List.{take_min}
use Rattle.decimal.proofs.DigitsReadLaws.{ReadingDigits, digit_most, digits_begun, next_fits, digits_turn, digits_end, digits_stop}
use Rattle.decimal.specs.Reading.{is_digit_byte, most_digits, DigitsRead}
use Rattle.decimal.proofs.read_digits.Goals as goal

-- the front of the text that may be read, its first m bytes
module _ (most : ℕ) (s : List ℕ) {m count v : ℕ} (is : m ≡ min most (length s)) (r : ReadingDigits most s count v) where
  -- the byte at a place in it
  module _ (h : count < length (take m s)) where
    inside : (count < most) × ((count < length s) × (count < m))
    inside = omega (arith, length-take m s)

    same : get_or (take m s) count 0 ≡ get_or s count 0
    same = get_or-take m s count 0 inside.1.1

    fits : most ≤ most_digits → is_digit_byte (get_or (take m s) count 0) ≡ true → (v < 10 ^ 18) × (get_or (take m s) count 0 ≤ 57)
    fits k e = (next_fits r k inside.0, digit_most _ e)

    turn : is_digit_byte (get_or (take m s) count 0) ≡ true → ReadingDigits most s (count + 1) (v * 10 + (get_or (take m s) count 0 - 48))
    turn e = rw same (digits_turn r inside.0 inside.1.0 (rw same at e))

    stop : is_digit_byte (get_or (take m s) count 0) ≡ false → DigitsRead most s (record { count = count; value = v })
    stop e = digits_stop r inside.0 inside.1.0 (rw same at e)

  ended : count ≡ length (take m s) → DigitsRead most s (record { count = length (take m s); value = v })
  ended e = rw (← e) (digits_end r (rw (← (take_min most s), ← is, ← e) (omega arith)))

pub loop-count-init : goal.loop-count-init
loop-count-init c = digits_begun

pub returns-then-not-is_ascii_digit : goal.returns-then-not-is_ascii_digit
returns-then-not-is_ascii_digit c =
    stop c.args.most c.args.text.now c.min.ensures c.loop-count.invariant c.loop-count-test.true (sym c.is_ascii_digit.ensures.value ∙ c.if-not-is_ascii_digit.true)

pub overflow_mul-value : goal.overflow_mul-value
overflow_mul-value c =
    omega (arith, fits c.args.most c.args.text.now c.min.ensures c.loop-count.invariant c.loop-count-test.true c.requires (sym c.is_ascii_digit.ensures.value ∙ c.if-not-is_ascii_digit.false))

pub overflow_add-value : goal.overflow_add-value
overflow_add-value c =
    omega (arith, fits c.args.most c.args.text.now c.min.ensures c.loop-count.invariant c.loop-count-test.true c.requires (sym c.is_ascii_digit.ensures.value ∙ c.if-not-is_ascii_digit.false))

pub loop-count-preserved : goal.loop-count-preserved
loop-count-preserved c =
    turn c.args.most c.args.text.now c.min.ensures c.loop-count.invariant c.loop-count-test.true (sym c.is_ascii_digit.ensures.value ∙ c.if-not-is_ascii_digit.false)

pub returns : goal.returns
returns c = ended c.args.most c.args.text.now c.min.ensures c.loop-count.invariant (omega arith)
