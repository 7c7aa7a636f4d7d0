-- How long the lines, the whole text and a refusal are at most, and that neither is ever empty. Assumes nothing.
use Rattle.std.specs.Prelude.{ℕ, suc, ◌+◌, ◌*◌, ◌^◌, ◌≤◌, ◌<◌, ℤ, nat_abs, length, Bool, true, false, List, [], ◌∷◌, ◌++◌}
use Rattle.std.proofs.Common.{length-append, arith}
use Rattle.limits.specs.Limits.{most_tanks, most_exponent}
use Rattle.buffer.specs.Buffer.{concat}
use Rattle.buffer.specs.RunLaws.{length_run_le}
use Rattle.decimal.specs.Decimal.{line_feed, decimal_digits, signed_decimal, fixed_point, ascii}
use Rattle.decimal.proofs.DigitLaws.{length_digits}
use Rattle.decimal.proofs.ReadingLaws.{length_signed, length_fixed_point}
use Rattle.report.specs.Text.{Report, labelled, verdict_word, verdict_line, answer_line, row_line, factor_word, factor_line, answer_lines, row_lines, text, refusal_text, verdict_room, answer_room, room_of_row, factor_room, text_room}

-- ---- a text from the bounds of its parts

-- each text of a list has at most as many bytes as its bound says
pub data Bounded : List (List ℕ) → List ℕ → Type 0 where
  none : Bounded [] []
  some : {text : List ℕ} {texts : List (List ℕ)} {b : ℕ} {bs : List ℕ} → length text ≤ b → Bounded texts bs → Bounded (text ∷ texts) (b ∷ bs)

abbrev pub summed : List ℕ → ℕ
summed [] = 0
summed (b ∷ bs) = b + summed bs

pub length_concat : (texts : List (List ℕ)) (bs : List ℕ) → Bounded texts bs → length (concat texts) ≤ summed bs
length_concat texts bs none = omega arith
length_concat texts bs (some {text = text} {texts = rest} {bs = cs} h r) =
    omega (arith, length-append text (concat rest), length_concat rest cs r)

length_labelled : (k : ℕ) (word : List ℕ) (x : ℕ) → x < 10 ^ suc k → length (labelled word x) ≤ length word + suc k
length_labelled k word x h = omega (arith, length-append word (decimal_digits x), length_digits k x h)

length_verdict_word : (met : Bool) → length (verdict_word met) ≤ 10
length_verdict_word true = omega arith
length_verdict_word false = omega arith

length_factor_word : (none : Bool) → length (factor_word none) ≤ 16
length_factor_word true = omega arith
length_factor_word false = omega arith

-- ---- the lines

pub length_verdict_line : (met : Bool) (row rounds : ℕ) → row < 10 ^ 20 → rounds < 10 ^ 20 → length (verdict_line met row rounds) ≤ verdict_room
unfolding verdict_line
length_verdict_line met row rounds h k =
    length_concat (labelled (verdict_word met) row ∷ labelled (ascii " rounds ") rounds ∷ line_feed ∷ []) (30 ∷ 28 ∷ 1 ∷ [])
    (some (omega (arith, length_labelled 19 (verdict_word met) row h, length_verdict_word met))
    (some (length_labelled 19 (ascii " rounds ") rounds k)
    (some (omega arith) none)))

pub length_answer_line : (e tank : ℕ) (figure : ℤ) → e ≤ most_exponent → tank < 10 → nat_abs figure < 10 ^ 10 → length (answer_line e tank figure) ≤ answer_room
unfolding answer_line
length_answer_line e tank figure g h k =
    length_concat (labelled (ascii "answer ") tank ∷ ascii " " ∷ fixed_point e figure ∷ line_feed ∷ []) (8 ∷ 1 ∷ 15 ∷ 1 ∷ [])
    (some (length_labelled 0 (ascii "answer ") tank h)
    (some (omega arith)
    (some (omega (arith, length_fixed_point 9 e figure k))
    (some (omega arith) none))))

pub length_row_line : (row : ℕ) (residual : ℤ) (reach : ℕ) → row < 10 → nat_abs residual < 10 ^ 19 → reach < 10 ^ 20 → length (row_line row residual reach) ≤ room_of_row
unfolding row_line
length_row_line row residual reach g h k =
    length_concat (labelled (ascii "row ") row ∷ ascii " residual " ∷ signed_decimal residual ∷ labelled (ascii " reach ") reach ∷ line_feed ∷ []) (5 ∷ 10 ∷ 20 ∷ 27 ∷ 1 ∷ [])
    (some (length_labelled 0 (ascii "row ") row g)
    (some (omega arith)
    (some (length_signed 18 residual h)
    (some (length_labelled 19 (ascii " reach ") reach k)
    (some (omega arith) none)))))

pub length_factor_line : (lacks : Bool) (row : ℕ) → row < 10 ^ 20 → length (factor_line lacks row) ≤ factor_room
unfolding factor_line
length_factor_line lacks row h =
    length_concat (labelled (factor_word lacks) row ∷ line_feed ∷ []) (36 ∷ 1 ∷ [])
    (some (omega (arith, length_labelled 19 (factor_word lacks) row h, length_factor_word lacks))
    (some (omega arith) none))

-- ---- the whole text

-- figures that are no wider than the longest line of their kind admits
pub record ReportFits (r : Report) : Type 0 where
  pub tanks : r.n ≤ most_tanks
  pub exponent_small : r.exponent ≤ most_exponent
  pub rounds_wide : r.rounds < 10 ^ 20
  pub unmet_wide : r.found.unmet < 10 ^ 20
  pub decides_wide : r.found.decides < 10 ^ 20
  pub answer_wide : (j : ℕ) → j < r.n → nat_abs (r.answer j) < 10 ^ 10
  pub residual_wide : (i : ℕ) → i < r.n → nat_abs (r.found.R i) < 10 ^ 19
  pub reach_wide : (i : ℕ) → i < r.n → r.found.T i < 10 ^ 20

pub length_text : (r : Report) → ReportFits r → length (text r) ≤ text_room
unfolding text
length_text r f =
    let verdict = verdict_line r.found.met r.found.unmet r.rounds in
    let answers = answer_lines r.n r.exponent r.answer in
    let rows = row_lines r.n r.found.R r.found.T in
    let factor = factor_line r.found.none r.found.decides in
    let a = length_run_le answer_room (λ j. answer_line r.exponent (j + 1) (r.answer j)) r.n
    (λ j h. length_answer_line r.exponent (j + 1) (r.answer j) f.exponent_small (omega (arith, f.tanks)) (f.answer_wide j h)) in
    let t = length_run_le room_of_row (λ i. row_line (i + 1) (r.found.R i) (r.found.T i)) r.n
    (λ i h. length_row_line (i + 1) (r.found.R i) (r.found.T i) (omega (arith, f.tanks)) (f.residual_wide i h) (f.reach_wide i h)) in
    length_concat (verdict ∷ answers ∷ rows ∷ factor ∷ []) (verdict_room ∷ most_tanks * answer_room ∷ most_tanks * room_of_row ∷ factor_room ∷ [])
    (some (length_verdict_line r.found.met r.found.unmet r.rounds f.unmet_wide f.rounds_wide)
    (some (omega (arith, a, f.tanks))
    (some (omega (arith, t, f.tanks))
    (some (length_factor_line r.found.none r.found.decides f.decides_wide) none))))

pub length_refusal : (number : ℕ) → number < 10 ^ 3 → length (refusal_text number) ≤ text_room
unfolding refusal_text
length_refusal number h =
    omega (
      arith,
      length_concat (labelled (ascii "refused ") number ∷ line_feed ∷ []) (11 ∷ 1 ∷ [])
          (some (length_labelled 2 (ascii "refused ") number h)
          (some (omega arith) none)),
    )

-- ---- never empty

-- a text that begins with something
some_append : (a b : List ℕ) → 0 < length a → 0 < length (a ++ b)
some_append a b h = omega (arith, length-append a b)

some_verdict_word : (met : Bool) → 0 < length (verdict_word met)
some_verdict_word true = omega arith
some_verdict_word false = omega arith

some_verdict_line : (met : Bool) (row rounds : ℕ) → 0 < length (verdict_line met row rounds)
unfolding verdict_line
some_verdict_line met row rounds =
    some_append (labelled (verdict_word met) row) (concat (labelled (ascii " rounds ") rounds ∷ line_feed ∷ []))
    (some_append (verdict_word met) (decimal_digits row) (some_verdict_word met))

pub some_text : (r : Report) → 0 < length (text r)
unfolding text
some_text r =
    some_append (verdict_line r.found.met r.found.unmet r.rounds)
    (concat (
    answer_lines r.n r.exponent r.answer
    ∷ row_lines r.n r.found.R r.found.T
    ∷ factor_line r.found.none r.found.decides
    ∷ []
    ))
    (some_verdict_line r.found.met r.found.unmet r.rounds)

pub some_refusal : (number : ℕ) → 0 < length (refusal_text number)
unfolding refusal_text
some_refusal number =
    some_append (labelled (ascii "refused ") number) (concat (line_feed ∷ [])) (some_append (ascii "refused ") (decimal_digits number) (omega arith))
