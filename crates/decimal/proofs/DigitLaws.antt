-- The laws of decimal digits: how a number's digits go on, how many there are, and that none leads with a zero. Assumes nothing.
use Rattle.std.specs.Prelude.{ℕ, zero, suc, ◌+◌, ◌*◌, ◌/◌, ◌%◌, ◌^◌, ◌≤◌, ◌<◌, ℤ, pos, negsuc, length, get_or, set, drop, max, true, false, List, [], ◌∷◌, ◌++◌, ◌≡◌, refl}
use Rattle.std.proofs.Common.{lt-ltb, le-ltb, ltb-true, lit<, lit≤, length-append, length-set, append_assoc, sym, ap, ◌∙◌, mod-eq_of_lt, div-lt_iff_lt-mul, pow-suc, add-one, arith}
use Rattle.std.proofs.lemmas.List.{drop-set}
use Rattle.std.proofs.Math.Nat.{one-le-pow}
use Rattle.std.proofs.Math.ListN.{get_or-append}
use Rattle.std.specs.Int.Signed.{lt_z}
use Rattle.std.proofs.Math.Decide.{dec_lt}
use Rattle.decimal.specs.Decimal.{digit, digits_within, decimal_digits, last_digits, minus_sign, fraction}

-- ---- how the digits go on

within_one : (k n : ℕ) → n < 10 → digits_within k n ≡ digit n ∷ []
unfolding digits_within
within_one zero n h = refl
within_one (suc k) n h = rw (lt-ltb n 10 h, digits_within)

within_more : (k n : ℕ) → 10 ≤ n → digits_within (suc k) n ≡ digits_within k (n / 10) ++ (digit (n % 10) ∷ [])
unfolding digits_within
within_more k n h = rw (le-ltb n 10 h, digits_within)

within_same : (j k n : ℕ) → n ≤ j → n ≤ k → digits_within j n ≡ digits_within k n
within_same zero k n p q = within_one zero n (omega arith) ∙ sym (within_one k n (omega arith))
within_same (suc j) zero n p q = within_one (suc j) n (omega arith) ∙ sym (within_one zero n (omega arith))
within_same (suc j) (suc k) n p q = by (λ l. within_same j k (n / 10) (omega arith) (omega arith)) (dec_lt n 10)
  where
    by : (10 ≤ n → digits_within j (n / 10) ≡ digits_within k (n / 10)) → Dec (n < 10) → digits_within (suc j) n ≡ digits_within (suc k) n
    by i (yes h) = within_one (suc j) n h ∙ sym (within_one (suc k) n h)
    by i (no h) =
        within_more j n (omega arith)
        ∙ ap (λ (s : List ℕ). s ++ (digit (n % 10) ∷ [])) (i (omega arith))
        ∙ sym (within_more k n (omega arith))

pub digits_one : (n : ℕ) → n < 10 → decimal_digits n ≡ digit n ∷ []
unfolding decimal_digits
digits_one n h = within_one n n h

pub digits_more : (n : ℕ) → 10 ≤ n → decimal_digits n ≡ decimal_digits (n / 10) ++ (digit (n % 10) ∷ [])
unfolding decimal_digits
digits_more zero h = absurd (omega arith)
digits_more (suc m) h =
    within_more m (suc m) h
    ∙ ap (λ (s : List ℕ). s ++ (digit (suc m % 10) ∷ [])) (within_same m (suc m / 10) (suc m / 10) (omega arith) (omega arith))

-- what holds of the numbers below ten, and of a number where it holds of its tenth part, holds of all
pub by_tenths : (P : ℕ → Type 0) → ((n : ℕ) → n < 10 → P n) → ((n : ℕ) → 10 ≤ n → P (n / 10) → P n) → (n : ℕ) → P n
by_tenths P one more n = go n n (omega arith)
  where
    by : (n : ℕ) → (10 ≤ n → P (n / 10)) → Dec (n < 10) → P n
    by n i (yes l) = one n l
    by n i (no l) = more n (omega arith) (i (omega arith))

    go : (k n : ℕ) → n ≤ k → P n
    go zero n h = one n (omega arith)
    go (suc k) n h = by n (λ l. go k (n / 10) (omega arith)) (dec_lt n 10)

-- ---- how many

pub length_last_digits : (e n : ℕ) → length (last_digits e n) ≡ e
unfolding last_digits
length_last_digits zero n = refl
length_last_digits (suc e) n = rw (length-append, length_last_digits e (n / 10), add-one e)

-- one digit more than the tenth part has
pub length_digits_more : (n : ℕ) → 10 ≤ n → length (decimal_digits n) ≡ length (decimal_digits (n / 10)) + 1
length_digits_more n h = rw (digits_more n h, length-append)

pub digits_some : (n : ℕ) → 0 < length (decimal_digits n)
digits_some =
    by_tenths (λ n. 0 < length (decimal_digits n)) (λ n h. rw (digits_one n h) (lit< tt))
    (λ n h i. omega (arith, length_digits_more n h))

-- a number below 10^k has at most k digits, where k is at least 1
pub length_digits : (k n : ℕ) → n < 10 ^ suc k → length (decimal_digits n) ≤ suc k
length_digits zero n h = rw (digits_one n (omega arith)) (omega arith)
length_digits (suc k) n h = by (length_digits k (n / 10) ((div-lt_iff_lt-mul {k = 10} (lit< tt)).1 (rw (pow-suc 10 (suc k)) at h))) (dec_lt n 10)
  where
    by : length (decimal_digits (n / 10)) ≤ suc k → Dec (n < 10) → length (decimal_digits n) ≤ suc (suc k)
    by i (yes l) = rw (digits_one n l) (omega arith)
    by i (no l) = omega (arith, length_digits_more n (omega arith))

-- a number from 10^k on has more than k digits
digits_least : (k n : ℕ) → 10 ^ k ≤ n → suc k ≤ length (decimal_digits n)
digits_least zero n h = digits_some n
digits_least (suc k) n h =
    let l : 10 ^ k * 10 ≤ n = rw (pow-suc 10 k) at h in
    let some : 1 ≤ 10 ^ k = one-le-pow k 10 (lit≤ tt) in
    omega (arith, length_digits_more n (omega arith), digits_least k (n / 10) (omega arith))

-- so the logarithm tells how many there are; 0 has as many as 1
pub digits_counted : (k n : ℕ) → 10 ^ k ≤ max n 1 → max n 1 < 10 * 10 ^ k → k + 1 ≡ length (decimal_digits n)
digits_counted zero n h l = rw (digits_one n (omega arith))
digits_counted (suc k) n h l =
    let some : 1 ≤ 10 ^ k = one-le-pow k 10 (lit≤ tt) in
    let above : 10 ^ k * 10 ≤ max n 1 = rw (pow-suc 10 k) at h in
    let below : n < 10 ^ suc (suc k) = rw (pow-suc 10 (suc k)) (omega arith) in
    omega (arith, length_digits (suc k) n below, digits_least (suc k) n (rw (pow-suc 10 k) (omega arith)))

-- the digits of n are its last digits, as many as there are
pub digits_last : (n : ℕ) → decimal_digits n ≡ last_digits (length (decimal_digits n)) n
unfolding last_digits
digits_last =
    by_tenths (λ n. decimal_digits n ≡ last_digits (length (decimal_digits n)) n)
    (λ n h. rw (digits_one n h, mod-eq_of_lt h))
    (λ n h i. digits_more n h ∙ ap (λ (s : List ℕ). s ++ (digit (n % 10) ∷ [])) i ∙ sym (rw (length_digits_more n h, add-one)))

-- ---- the first digit

first_more : (n : ℕ) → 10 ≤ n → get_or (decimal_digits n) 0 0 ≡ get_or (decimal_digits (n / 10)) 0 0
first_more n h =
    rw (digits_more n h) (get_or-append (decimal_digits (n / 10)) (digit (n % 10) ∷ []) 0 0 (digits_some (n / 10)))

pub first_is_digit : (n : ℕ) → digit 0 ≤ get_or (decimal_digits n) 0 0
first_is_digit =
    by_tenths (λ n. digit 0 ≤ get_or (decimal_digits n) 0 0) (λ n h. rw (digits_one n h) (omega arith))
    (λ n h i. omega (arith, first_more n h))

-- no leading zero, except for zero itself
pub no_leading_zero : (n : ℕ) → 0 < n → digit 0 < get_or (decimal_digits n) 0 0
no_leading_zero =
    by_tenths (λ n. 0 < n → digit 0 < get_or (decimal_digits n) 0 0) (λ n h p. rw (digits_one n h) (omega arith))
    (λ n h i p. rw (first_more n h) (i (omega arith)))

-- ---- the sign

pub minus_below_zero : (z : ℤ) → lt_z z (pos 0) ≡ true → minus_sign z ≡ 45 ∷ []
minus_below_zero (pos n) h = let l : n < 0 = ltb-true n 0 h in absurd (omega arith)
minus_below_zero (negsuc n) h = refl

pub minus_from_zero : (z : ℤ) → lt_z z (pos 0) ≡ false → minus_sign z ≡ []
minus_from_zero (pos n) h = refl
minus_from_zero (negsuc n) h = let z : ◌≡◌ {A = ℕ} 0 1 = cc in absurd (omega arith)

-- ---- the point

pub fraction_some : (e n : ℕ) → (e ≡ 0 → ⊥) → fraction e n ≡ 46 ∷ last_digits e n
fraction_some zero n h = absurd (h refl)
fraction_some (suc k) n h = refl

-- ---- the loop that fills a part from its last byte back: the digits that are left and what is filled are the last digits of x

pub record Filling (x count rest left : ℕ) (part : List ℕ) : Type 0 where
  pub same : length part ≡ count
  pub few : left ≤ count
  pub is : last_digits left rest ++ drop left part ≡ last_digits count x

module _ {x count rest : ℕ} {part : List ℕ} where
  pub filling_turn : {left : ℕ} (k : ℕ) → left ≡ suc k → Filling x count rest left part → Filling x count (rest / 10) k (set part k (digit (rest % 10)))
  unfolding last_digits
  filling_turn k e f =
      let d : ℕ = digit (rest % 10) in
      let g = rw e at f in
      record {
        same = length-set part k d ∙ f.same;
        few = omega (arith, f.few);
        is = rw (drop-set part k d (omega (arith, f))) (sym (append_assoc (last_digits k (rest / 10)) (d ∷ []) (drop (k + 1) part)) ∙ rw (add-one k) g.is);
      }

  pub filling_ended : {left : ℕ} → left ≤ 0 → Filling x count rest left part → part ≡ last_digits count x
  unfolding last_digits
  filling_ended {left} h f = let e : left ≡ 0 = omega arith in (rw e at f).is
