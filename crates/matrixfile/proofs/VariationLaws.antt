-- Which texts are read: the writer's, and those that are changed in the ways of `Variation` alone. Assumes nothing.
use Rattle.std.specs.Prelude.{ℕ, zero, suc, ◌*◌, ◌-◌, ◌≤◌, ℤ, pos, nat_abs, length, drop, true, false, ◌&&◌, ◌≡◌, refl}
use borrow.Author.Tests.{le-leb, eqb-true, ne_eqb}
use Rattle.std.proofs.Common.{lit<, drop_of_length-le, drop_at, ◌∙◌, lt_of_le_of_lt, arith}
use Rattle.std.proofs.lemmas.List.{length-map}
use mathlib.Core.List.{List, [], ◌∷◌, ◌++◌, append_assoc, map}
use Rattle.std.proofs.Math.Path.{sym, ap}
use Rattle.limits.specs.Limits.{most_tanks, coefficient_limit}
use Rattle.buffer.specs.AllLaws.{and_true, all_from}
use Rattle.buffer.specs.Buffer.{joined, all, begins_by}
use Rattle.buffer.specs.LeadingLaws.{begins_append, begins_front}
use Rattle.outcome.proofs.Laws.{check_accepted, first_left, first_right}
use Rattle.integers.specs.Tables.{Within}
use Rattle.figures.specs.Figures.{within_limit}
use Rattle.decimal.specs.Decimal.{line_feed, digit, decimal_digits, minus_sign, signed_decimal}
use Rattle.decimal.proofs.DigitLaws.{length_digits}
use Rattle.casefile.specs.Case.{tanks_are_fine}
use Rattle.matrixfile.proofs.CommentLaws.{comments_passed, comments_before}
use Rattle.matrixfile.proofs.EntryLaws.{varied_entry_read, varied_entry_found}
use Rattle.matrixfile.specs.Read.{after_comments, size_of, spaces_in, size_fine, behind_size, most_entry_digits, entry_fine, entry_of, after_entry, entries_fine, entries_of, at_size_line, tanks_in, at_entries, text_status, coefficients_in}
use Rattle.matrixfile.proofs.SizeLaws.{size_tests, size_some, size_read, size_line_lem}
use Rattle.matrixfile.specs.Text.{first_line, entry_line, transpose, matrix_text}
use Rattle.matrixfile.specs.TextLaws.{length_transpose, transpose_twice, transpose_within, MatrixFine, entry_within}
use Rattle.matrixfile.specs.Variation.{comment_line, spaced_size_line, VariedEntry, unvaried, varied_line, varied_fits, varied_text, Varied, ReadAs}
use Rattle.outcome.specs.Outcome.{Accepted}

-- ---- the lines of all entries

abbrev entries_in : List VariedEntry → List ℤ
entries_in lines = map (λ f. f.entry) lines

record LinesRead (lines : List VariedEntry) : Type 0 where
  fine : entries_fine (length lines) (joined varied_line lines) ≡ true
  entries : entries_of (length lines) (joined varied_line lines) ≡ entries_in lines

lines_read : (lines : List VariedEntry) → all varied_fits lines ≡ true → Within coefficient_limit (entries_in lines) → LinesRead lines
unfolding entries_fine entries_of all
lines_read [] e small = record { fine = refl; entries = refl }
lines_read (f ∷ lines) e small =
    let w = and_true (varied_fits f) (all varied_fits lines) e in
    let one = varied_entry_read f (joined varied_line lines) w.0 (small 0) in
    let others = lines_read lines w.1 (λ k. small (suc k)) in
    record {
      fine = rw (one.fine, one.behind) others.fine;
      entries = rw (one.entry, one.behind, others.entries);
    }

record LinesFound (m : ℕ) (s : List ℕ) : Type 0 where
  lines : List VariedEntry
  fit : all varied_fits lines ≡ true
  entries : entries_in lines ≡ entries_of m s
  small : Within coefficient_limit (entries_of m s)
  is : s ≡ joined varied_line lines

lines_found : (m : ℕ) (s : List ℕ) → entries_fine m s ≡ true → LinesFound m s
unfolding entries_fine entries_of all
lines_found zero s e =
    record { lines = []; fit = refl; entries = refl; small = λ k. omega arith; is = drop_of_length-le s {i = 0} (omega (arith, eqb-true (length s) 0 e)) }
lines_found (suc m) s e =
    let w = and_true (entry_fine s) (entries_fine m (after_entry s)) e in
    let one = varied_entry_found s w.0 in
    let others = lines_found m (after_entry s) w.1 in
    record {
      lines = one.varied ∷ others.lines;
      fit = rw one.fits others.fit;
      entries = rw (one.entry, others.entries);
      small = at (entry_of s) (entries_of m (after_entry s)) (rw one.entry at one.small) others.small;
      is = one.is ∙ ap (λ (l : List ℕ). varied_line one.varied ++ l) others.is;
    }
  where
    at : (z : ℤ) (l : List ℤ) → nat_abs z ≤ coefficient_limit → Within coefficient_limit l → Within coefficient_limit (z ∷ l)
    at z l h t zero = h
    at z l h t (suc k) = t k

length_entries : (m : ℕ) (s : List ℕ) → length (entries_of m s) ≡ m
unfolding entries_of
length_entries zero s = refl
length_entries (suc m) s = ap suc (length_entries m (after_entry s))

-- ---- a text that is read is the writer's, changed in these ways only

module _ (text : List ℕ) (e : text_status text ≡ Accepted) where
  header : (begins_by first_line text && size_fine (at_size_line text)) ≡ true
  unfolding text_status
  header = search (first_left, check_accepted)

  first_passed : begins_by first_line text ≡ true
  first_passed = (and_true (begins_by first_line text) (size_fine (at_size_line text)) header).0

  size_passed : size_fine (at_size_line text) ≡ true
  size_passed = (and_true (begins_by first_line text) (size_fine (at_size_line text)) header).1

  entries_passed : entries_fine (tanks_in text * tanks_in text) (at_entries text) ≡ true
  unfolding text_status
  entries_passed = search (first_right, check_accepted)

  found : LinesFound (tanks_in text * tanks_in text) (at_entries text)
  found = lines_found (tanks_in text * tanks_in text) (at_entries text) entries_passed

  counted : length (entries_of (tanks_in text * tanks_in text) (at_entries text)) ≡ tanks_in text * tanks_in text
  counted = length_entries (tanks_in text * tanks_in text) (at_entries text)

  -- what is read is within the limits
  pub read_fine : MatrixFine (tanks_in text) (coefficients_in text)
  unfolding coefficients_in
  read_fine =
      let n = tanks_in text in
      let E = entries_of (n * n) (at_entries text) in
      let tests = size_tests (at_size_line text) size_passed in
      record {
        least = tests.least;
        small = tests.small;
        entries = record { count = length_transpose n E; fine = all_from (within_limit coefficient_limit) (pos 0) (transpose n E) (λ k. le-leb _ coefficient_limit (transpose_within n coefficient_limit E found.small k)) };
      }

  pub read_varied : Varied (tanks_in text) (coefficients_in text) text
  unfolding varied_text coefficients_in
  read_varied =
      let c = comments_before (drop (length first_line) text) (size_some (at_size_line text) size_passed) in
      let n = tanks_in text in
      let more = spaces_in (at_size_line text) - 1 in
      record {
        comments = c.comments;
        in_lines = c.in_lines;
        more = more;
        lines = found.lines;
        fit = found.fit;
        entries = found.entries ∙ sym (transpose_twice n (entries_of (n * n) (at_entries text)) counted);
        is =
            begins_front first_line text first_passed
            ∙ ap (λ (l : List ℕ). first_line ++ l) (c.is ∙ ap (λ (l : List ℕ). joined comment_line c.comments ++ l) (size_line_lem (at_size_line text) size_passed ∙ ap (λ (l : List ℕ). spaced_size_line more n ++ l) found.is));
      }

-- ---- a text that is changed in these ways is read

tanks_pass : (n : ℕ) → 1 ≤ n → n ≤ most_tanks → tanks_are_fine n ≡ true
tanks_pass n h k = rw (le-leb 1 n h, le-leb n most_tanks k)

pub varied_read : {n : ℕ} {A : List ℤ} {text : List ℕ} → MatrixFine n A → Varied n A text → ReadAs n A text
unfolding varied_text text_status coefficients_in
varied_read {n} {A} {text} good v =
    let E : List ℕ = joined varied_line v.lines in
    let S : List ℕ = spaced_size_line v.more n ++ E in
    let C : List ℕ = joined comment_line v.comments ++ S in
    let size = size_read n v.more E (tanks_pass n good.least good.small) in
    let first : begins_by first_line text ≡ true = rw v.is (begins_append first_line C) in
    let behind : drop (length first_line) text ≡ C = rw v.is (drop_at first_line C (length first_line) refl) in
    let at_size : at_size_line text ≡ S = ap (after_comments false) behind ∙ comments_passed v.comments (digit n) _ v.in_lines (ne_eqb (digit n) 37 (λ h. absurd (omega arith))) in
    let tanks : tanks_in text ≡ n = ap size_of at_size ∙ size.size in
    let entries : at_entries text ≡ E = ap behind_size at_size ∙ size.behind in
    let fine : size_fine (at_size_line text) ≡ true = ap size_fine at_size ∙ size.fine in
    let count : length v.lines ≡ n * n = sym (length-map v.lines (λ f. f.entry)) ∙ ap length v.entries ∙ length_transpose n A in
    let r = lines_read v.lines v.fit (λ k. rw v.entries (entry_within n A good k)) in
    let whole : entries_fine (n * n) E ≡ true = rw (← count) r.fine in
    let read : entries_of (n * n) E ≡ transpose n A = ap (λ (m : ℕ). entries_of m E) (sym count) ∙ r.entries ∙ v.entries in
    record {
      accepted = rw (first, fine, tanks, entries, whole);
      tanks = tanks;
      coefficients = rw (tanks, entries, read) (transpose_twice n A good.entries.count);
    }

-- ---- the writer's text itself

unvaried_line : (z : ℤ) → varied_line (unvaried z) ≡ entry_line z
unfolding entry_line signed_decimal
unvaried_line z = sym (append_assoc (minus_sign z) (decimal_digits (nat_abs z)) line_feed)

unvaried_lines : (l : List ℤ) → joined varied_line (map unvaried l) ≡ joined entry_line l
unvaried_lines [] = refl
unvaried_lines (z ∷ l) = rw (unvaried_line z, unvaried_lines l)

unvaried_entries : (l : List ℤ) → entries_in (map unvaried l) ≡ l
unvaried_entries [] = refl
unvaried_entries (z ∷ l) = ap (λ (m : List ℤ). z ∷ m) (unvaried_entries l)

unvaried_fit : (l : List ℤ) → Within coefficient_limit l → all varied_fits (map unvaried l) ≡ true
unfolding all
unvaried_fit [] small = refl
unvaried_fit (z ∷ l) small =
    rw (le-leb (length (decimal_digits (nat_abs z))) most_entry_digits (length_digits 4 (nat_abs z) (lt_of_le_of_lt (small 0) (lit< tt))))
    (unvaried_fit l (λ k. small (suc k)))

-- without any change it is the writer's
pub unvaried_text : (n : ℕ) (A : List ℤ) → varied_text [] 0 n (map unvaried (transpose n A)) ≡ matrix_text n A
unfolding varied_text matrix_text
unvaried_text n A = rw (unvaried_lines (transpose n A))

text_varied : {n : ℕ} {A : List ℤ} → MatrixFine n A → Varied n A (matrix_text n A)
unfolding all
text_varied {n} {A} good =
    record {
      comments = [];
      in_lines = refl;
      more = 0;
      lines = map unvaried (transpose n A);
      fit = unvaried_fit (transpose n A) (entry_within n A good);
      entries = unvaried_entries (transpose n A);
      is = sym (unvaried_text n A);
    }

-- "reading its text yields the coefficients it was given"
pub text_read : {n : ℕ} {A : List ℤ} → MatrixFine n A → ReadAs n A (matrix_text n A)
text_read good = varied_read good (text_varied good)
