-- An entry's line: one of the form that reading allows is read as what it says, and one that is read has that form. Assumes nothing.
use Prim.Native.Nat.{ℕ, zero, suc, ◌+◌, ◌≤◌}
use borrow.Author.Tests.{leb-true, le-leb, eqb-true, ne_eqb}
use Rattle.std.specs.Prelude.{leb, eqb, ℤ, pos, negsuc, neg_ℤ, nat_abs, length, take, replicate, Bool, true, false, ◌&&◌, ◌||◌, cond, ◌≡◌}
use Rattle.std.proofs.Math.ListN.{drop}
use Rattle.std.proofs.Common.{length-append, take-append-drop, drop-drop, sym, ◌∙◌, arith}
use Rattle.std.proofs.Math.Seq.{drop_at, drop-append-add}
use mathlib.Core.List.{List, [], ◌∷◌, ◌++◌, append_assoc}
use Rattle.std.proofs.Math.Path.{refl, ap}
use Rattle.limits.specs.Limits.{coefficient_limit}
use Rattle.buffer.specs.AllLaws.{and_true}
use Rattle.buffer.specs.Buffer.{all, leading}
use Rattle.buffer.specs.LeadingLaws.{begins_append, begins_front}
use Rattle.decimal.specs.Decimal.{ascii, line_feed, digit, decimal_digits, minus_sign}
use Rattle.decimal.proofs.DigitLaws.{digits_some}
use Rattle.decimal.proofs.DigitsReadLaws.{digit_least, leading_digits, length_digits_in, digits_in_digits, digits_taken, value_zeros, zeros_digits, zeros_and_digits}
use Rattle.decimal.specs.Reading.{value, negative, is_digit_byte, digits_in}
use Rattle.decimal.proofs.ReadingLaws.{value_digits, no_minus}
use Rattle.matrixfile.specs.Read.{most_entry_digits, after_minus, entry_digits, entry_fine, entry_of, after_entry}
use Rattle.matrixfile.specs.Variation.{VariedEntry, varied_minus, varied_digits, varied_line, varied_fits}

-- ---- an entry's line: a minus or none, and digits

-- a line that is read as the entry z, with the rest behind it
pub record LineRead (z : ℤ) (rest s : List ℕ) : Type 0 where
  pub fine : entry_fine s ≡ true
  pub entry : entry_of s ≡ z
  pub behind : after_entry s ≡ rest

abbrev with_sign : Bool → List ℕ → List ℕ
with_sign minus s = cond minus (ascii "-") [] ++ s

-- a digit is no minus
digit_first : (a s : List ℕ) → all is_digit_byte a ≡ true → 1 ≤ length a → negative (a ++ s) ≡ false
unfolding all
digit_first [] s e h = absurd (omega arith)
digit_first (c ∷ a) s e h = no_minus (c ∷ (a ++ s)) (digit_least c (and_true (is_digit_byte c) (all is_digit_byte a) e).0)

-- a line feed is no digit
feed_stops : (rest : List ℕ) → leading is_digit_byte (10 ∷ rest) ≡ 0
unfolding leading
feed_stops rest = refl

module _ (a rest : List ℕ) (digits : all is_digit_byte a ≡ true) (some : 1 ≤ length a) (few : length a ≤ most_entry_digits) (small : value a ≤ coefficient_limit) where
  -- what follows the sign
  abbrev after_sign : List ℕ
  after_sign = a ++ (10 ∷ rest)

  sign_read : (minus : Bool) → (negative (with_sign minus after_sign) ≡ minus) × (after_minus (with_sign minus after_sign) ≡ after_sign)
  sign_read true = (refl, refl)
  sign_read false = let e = digit_first a (10 ∷ rest) digits some in (e, rw e)

  entry_read : (minus : Bool) → LineRead (cond minus (neg_ℤ (pos (value a))) (pos (value a))) rest (with_sign minus after_sign)
  unfolding entry_fine entry_of after_entry
  entry_read minus =
      let s : List ℕ = with_sign minus after_sign in
      let sign = sign_read minus in
      let taken : entry_digits s ≡ a = ap (digits_in most_entry_digits) sign.1 ∙ digits_taken most_entry_digits a (10 ∷ rest) digits few (feed_stops rest) in
      let left : drop (length a) after_sign ≡ 10 ∷ rest = drop_at a (10 ∷ rest) (length a) refl in
      record {
        fine = rw (taken, sign.1, le-leb 1 (length a) some, le-leb (value a) coefficient_limit small, left) (begins_append line_feed rest);
        entry = rw (taken, sign.0);
        behind = rw (taken, sign.1) (drop-append-add a (10 ∷ rest) 1);
      }

-- ---- and of a varied entry

abbrev has_minus : VariedEntry → Bool
has_minus f = (f.minus && eqb (nat_abs f.entry) 0) || negative (minus_sign f.entry)

varied_sign : (f : VariedEntry) → varied_minus f ≡ cond (has_minus f) (ascii "-") []
varied_sign f = by (f.minus && eqb (nat_abs f.entry) 0) f.entry
  where
    by : (b : Bool) (z : ℤ) → cond b (ascii "-") (minus_sign z) ≡ cond (b || negative (minus_sign z)) (ascii "-") []
    by true z = refl
    by false (pos n) = refl
    by false (negsuc n) = refl

-- the sign and the magnitude are the entry's
varied_value : (f : VariedEntry) → cond (has_minus f) (neg_ℤ (pos (nat_abs f.entry))) (pos (nat_abs f.entry)) ≡ f.entry
varied_value f = by f.minus f.entry
  where
    by : (b : Bool) (z : ℤ) → cond ((b && eqb (nat_abs z) 0) || negative (minus_sign z)) (neg_ℤ (pos (nat_abs z))) (pos (nat_abs z)) ≡ z
    by true (pos zero) = refl
    by true (pos (suc n)) = rw (ne_eqb (suc n) 0 (λ e. absurd (omega arith)))
    by true (negsuc n) = rw (ne_eqb (suc n) 0 (λ e. absurd (omega arith)))
    by false (pos n) = refl
    by false (negsuc n) = refl

pub varied_entry_read : (f : VariedEntry) (rest : List ℕ) → varied_fits f ≡ true → nat_abs f.entry ≤ coefficient_limit → LineRead f.entry rest (varied_line f ++ rest)
varied_entry_read f rest fits small =
    let n = nat_abs f.entry in
    let a = varied_digits f in
    let number : value a ≡ n = value_zeros f.zeros (decimal_digits n) ∙ value_digits n in
    let some : 1 ≤ length a = omega (arith, length-append (replicate f.zeros (digit 0)) (decimal_digits n), digits_some n) in
    let r = entry_read a rest (zeros_digits f.zeros n) some (leb-true (length a) most_entry_digits fits) (rw number small) (has_minus f) in
    let line : varied_line f ++ rest ≡ with_sign (has_minus f) (a ++ (10 ∷ rest)) =
    append_assoc (varied_minus f) (a ++ line_feed) rest ∙ ap (λ (l : List ℕ). varied_minus f ++ l) (append_assoc a line_feed rest) ∙ ap (λ (l : List ℕ). l ++ (a ++ (10 ∷ rest))) (varied_sign f) in
    record {
      fine = ap entry_fine line ∙ r.fine;
      entry = ap entry_of line ∙ r.entry ∙ rw number (varied_value f);
      behind = ap after_entry line ∙ r.behind;
    }

-- ---- a line that is read is that of a varied entry

pub record VariedEntryFound (s : List ℕ) : Type 0 where
  pub varied : VariedEntry
  pub entry : varied.entry ≡ entry_of s
  pub fits : varied_fits varied ≡ true
  pub small : nat_abs varied.entry ≤ coefficient_limit
  pub is : s ≡ varied_line varied ++ after_entry s

magnitude_of : (b : Bool) (v : ℕ) → nat_abs (cond b (neg_ℤ (pos v)) (pos v)) ≡ v
magnitude_of true zero = refl
magnitude_of true (suc v) = refl
magnitude_of false v = refl

sign_of : (b : Bool) (v : ℕ) → cond (b && eqb v 0) (ascii "-") (minus_sign (cond b (neg_ℤ (pos v)) (pos v))) ≡ cond b (ascii "-") []
sign_of true zero = refl
sign_of true (suc v) = rw (ne_eqb (suc v) 0 (λ e. absurd (omega arith)))
sign_of false v = refl

-- a text begins with its minus, where it has one
minus_split : (s : List ℕ) → s ≡ with_sign (negative s) (after_minus s)
minus_split [] = refl
minus_split (c ∷ s) = by (eqb c 45) refl
  where
    by : (b : Bool) → eqb c 45 ≡ b → (c ∷ s) ≡ with_sign b (cond b s (c ∷ s))
    by true e = rw (eqb-true c 45 e)
    by false e = refl

pub varied_entry_found : (s : List ℕ) → entry_fine s ≡ true → VariedEntryFound s
unfolding entry_fine entry_of after_entry
varied_entry_found s e =
    let a = entry_digits s in
    let t = after_minus s in
    let tests = and_true (leb 1 (length a)) _ e in
    let rest = and_true (leb (value a) coefficient_limit) _ tests.1 in
    let z = zeros_and_digits a (digits_in_digits most_entry_digits t) (leb-true 1 (length a) tests.0) in
    let v = value a in
    let b = negative s in
    let f : VariedEntry = record { entry = entry_of s; zeros = z.zeros; minus = b } in
    let magnitude : nat_abs (entry_of s) ≡ v = magnitude_of b v in
    let same : varied_digits f ≡ a = rw magnitude (sym z.is) in
    let sign : varied_minus f ≡ cond b (ascii "-") [] = rw magnitude (sign_of b v) in
    let line : t ≡ a ++ (line_feed ++ drop (length a + 1) t) =
    sym (take-append-drop (length a) t)
    ∙ ap (λ (l : List ℕ). l ++ drop (length a) t) (ap (λ (m : ℕ). take m t) (length_digits_in most_entry_digits t))
    ∙ ap (λ (l : List ℕ). a ++ l) (begins_front line_feed (drop (length a) t) rest.1 ∙ ap (λ (l : List ℕ). line_feed ++ l) (drop-drop 1 (length a) t)) in
    record {
      varied = f;
      entry = refl;
      fits = rw same (le-leb (length a) most_entry_digits (omega (arith, length_digits_in most_entry_digits t, leading_digits most_entry_digits t)));
      small = rw magnitude (leb-true v coefficient_limit rest.0);
      is =
          minus_split s
          ∙ ap (with_sign b) line
          ∙ ap (λ (l : List ℕ). l ++ (a ++ (line_feed ++ drop (length a + 1) t))) (sym sign)
          ∙ ap (λ (l : List ℕ). varied_minus f ++ (l ++ (line_feed ++ drop (length a + 1) t))) (sym same)
          ∙ sym (append_assoc (varied_minus f) (varied_digits f ++ line_feed) (drop (length a + 1) t) ∙ ap (λ (l : List ℕ). varied_minus f ++ l) (append_assoc (varied_digits f) line_feed (drop (length a + 1) t)));
    }
