-- An entry's line, and the lines of so many entries, as the reader's code meets them. Assumes nothing.
use Rattle.std.specs.Prelude.{ℕ, suc, ◌+◌, ◌-◌, ◌≤◌, ◌<◌, leb, ℤ, pos, neg_ℤ, length, set, Bool, ◌&&◌, cond, List, [], ◌∷◌, ◌++◌, ◌≡◌, Option, None, Some}
use borrow.Author.Tests.{eq-eqb, ne_eqb, eqb-true, eqb-false, leb-true}
use Rattle.std.proofs.Math.Dec.{eqb}
use Rattle.std.proofs.Math.ListN.{take, drop, length-drop, length-set}
use Rattle.std.proofs.Common.{length-append, append-nil, ◌∙◌, add-one}
use Rattle.std.proofs.Math.Seq.{drop-drop, take-suc-set, append_snoc}
use Rattle.std.proofs.Math.Bool.{true, false}
use Rattle.std.proofs.lemmas.Bool.{false≢true}
use Rattle.std.proofs.Math.Path.{refl, sym, ap}
use Rattle.std.proofs.Math.Nat.{sub-zero}
use native.Mathlib.Omega.{arith}
use Rattle.limits.specs.Limits.{coefficient_limit}
use Rattle.buffer.specs.AllLaws.{and_true}
use Rattle.buffer.specs.Buffer.{begins_by}
use Rattle.buffer.specs.LeadingLaws.{begins_front}
use Rattle.decimal.specs.Decimal.{line_feed}
use Rattle.decimal.proofs.DigitsReadLaws.{leading_digits, length_digits_in}
use Rattle.decimal.specs.Reading.{value, negative, DigitsRead}
use Rattle.decimal.specs.declared.Digits.{Digits}
use Rattle.matrixfile.specs.Read.{most_entry_digits, after_minus, entry_digits, entry_fine, entry_of, after_entry, entries_fine, entries_of}
use Rattle.matrix_reader.specs.Parts.{LeavesBehind, EntryRead, EntriesRead}
use Rattle.matrix_reader.specs.declared.Entry.{Entry}

-- ---- the sign

minus_inside : (s : List ℕ) → negative s ≡ true → 1 ≤ length s
minus_inside [] e = absurd (false≢true e)
minus_inside (c ∷ s) e = omega arith

-- ---- an entry, whose sign has k bytes and whose digits are d

module _ (s : List ℕ) {k : ℕ} (sign : k ≡ cond (negative s) 1 0) where
  pub sign_room : k ≤ length s
  sign_room = by (negative s) refl sign
    where
      by : (b : Bool) → negative s ≡ b → k ≡ cond b 1 0 → k ≤ length s
      by true e h = omega (arith, minus_inside s e)
      by false e h = omega arith

  after_sign_lem : drop k s ≡ after_minus s
  after_sign_lem = by (negative s) sign
    where
      by : (b : Bool) → k ≡ cond b 1 0 → drop k s ≡ cond b (drop 1 s) s
      by true h = rw h
      by false h = rw h

  module _ {d : Digits} (read : DigitsRead most_entry_digits (drop k s) d) where
    -- as many as are taken
    counted : d.count ≡ length (entry_digits s)
    counted = rw after_sign_lem at read.count

    number : d.value ≡ value (entry_digits s)
    number = rw after_sign_lem at read.number

    pub digits_room : k + d.count ≤ length s
    digits_room =
        let t = drop k s in
        omega (arith, read.count, length_digits_in most_entry_digits t, leading_digits most_entry_digits t, length-drop k s, sign_room)

    pub entry_tested : {ended : Bool} → ended ≡ begins_by line_feed (drop (k + d.count) s)
        → (leb 1 d.count && (leb d.value coefficient_limit && ended)) ≡ entry_fine s
    unfolding entry_fine
    entry_tested e = rw (e, ← (drop-drop d.count k s), after_sign_lem, counted, number)

    module _ (fine : entry_fine s ≡ true) where
      tests : (leb (value (entry_digits s)) coefficient_limit ≡ true) × (begins_by line_feed (drop (length (entry_digits s)) (after_minus s)) ≡ true)
      unfolding entry_fine
      tests = and_true (leb (value (entry_digits s)) coefficient_limit) _ (and_true (leb 1 (length (entry_digits s))) _ fine).1

      pub entry_small : d.value ≤ coefficient_limit
      entry_small = leb-true d.value coefficient_limit (rw number tests.0)

      pub entry_room : k + d.count + 1 ≤ length s
      entry_room =
          let t = drop (length (entry_digits s)) (after_minus s) in
          omega (
            arith,
            ap length (begins_front line_feed t tests.1),
            length-append line_feed (drop 1 t),
            length-drop (length (entry_digits s)) (after_minus s),
            ap length after_sign_lem,
            length-drop k s,
            counted,
            sign_room,
          )

      pub entry_accepted : {x : ℤ} → x ≡ cond (negative s) (neg_ℤ (pos d.value)) (pos d.value) → EntryRead s (Some (record { value = x; len = k + d.count + 1 }))
      unfolding entry_of after_entry
      entry_accepted e =
          record {
            fine = sym fine;
            value = e ∙ rw number;
            behind = record { inside = entry_room; is = rw (← (drop-drop 1 (k + d.count) s), ← (drop-drop d.count k s), after_sign_lem, counted, drop-drop 1 (length (entry_digits s)) (after_minus s)) };
          }

pub entry_refused : (s : List ℕ) → entry_fine s ≡ false → EntryRead s None
entry_refused s e = record { fine = sym e; value = tt; behind = tt }

-- ---- the loop over so many entries: k are read, and the rest of the text has the others

pub record ReadingEntries (count : ℕ) (s : List ℕ) (columns₀ columns : List ℤ) (p k : ℕ) : Type 0 where
  pub inside : p ≤ length s
  pub few : k ≤ count
  pub same : length columns ≡ length columns₀
  fine : entries_fine (count - k) (drop p s) ≡ entries_fine count s
  entries : take k columns ++ entries_of (count - k) (drop p s) ≡ entries_of count s

module _ {count : ℕ} {s : List ℕ} {columns₀ : List ℤ} where
  pub entries_begun : ReadingEntries count s columns₀ columns₀ 0 0
  entries_begun = record { inside = omega arith; few = omega arith; same = refl; fine = rw (sub-zero count); entries = rw (sub-zero count) }

  module _ {columns : List ℤ} {p k : ℕ} (r : ReadingEntries count s columns₀ columns p k) where
    one_more : k < count → count - k ≡ suc (count - (k + 1))
    one_more h = omega arith

    module _ {r₁ : Option Entry} (read : EntryRead (drop p s) r₁) where
      pub entries_refused : k < count → r₁ ≡ None → EntriesRead count s false columns
      unfolding entries_fine
      entries_refused h q =
          let bad : entry_fine (drop p s) ≡ false = sym (rw q at read.fine) in
          let whole : entries_fine (suc (count - (k + 1))) (drop p s) ≡ false = rw bad in
          record { fine = sym (sym r.fine ∙ rw (one_more h) whole); entries = λ x. absurd (false≢true x) }

      module _ {e : Entry} (q : r₁ ≡ Some e) where
        entry_behind : LeavesBehind (drop p s) e.len (after_entry (drop p s))
        entry_behind = rw q at read.behind

        pub entries_room : p + e.len ≤ length s
        entries_room = omega (arith, entry_behind.inside, length-drop p s, r.inside)

        pub entries_turn : {x : ℤ} → k < count → k < length columns → x ≡ e.value → ReadingEntries count s columns₀ (set columns k x) (p + e.len) (k + 1)
        unfolding entries_fine entries_of
        entries_turn {x} h room v =
            let good : entry_fine (drop p s) ≡ true = sym (rw q at read.fine) in
            let left : drop (p + e.len) s ≡ after_entry (drop p s) = sym (drop-drop e.len p s) ∙ entry_behind.is in
            let is : x ≡ entry_of (drop p s) = v ∙ (rw q at read.value) in
            let whole = rw (one_more h) at r.fine in
            let all = rw (one_more h) at r.entries in
            record {
              inside = entries_room;
              few = omega arith;
              same = length-set columns k x ∙ r.same;
              fine = rw left (rw good at whole);
              entries = rw (add-one k, take-suc-set columns k x room, left, is, ← (add-one k)) (append_snoc (take k columns) (entry_of (drop p s)) (entries_of (count - (k + 1)) (after_entry (drop p s))) ∙ all);
            }

    pub entries_ended : {b : Bool} → count ≤ k → b ≡ eqb p (length s) → EntriesRead count s b columns
    unfolding entries_fine entries_of
    entries_ended {b} h e =
        let z : count - k ≡ 0 = omega arith in
        let g = rw z at r.fine in
        let a = rw z at r.entries in
        let c : k ≡ count = omega (arith, r.few) in
        record { fine = e ∙ ends ∙ g; entries = λ x. ap (λ (m : ℕ). take m columns) (sym c) ∙ sym (append-nil (take k columns)) ∙ a }
      where
        ends : eqb p (length s) ≡ eqb (length (drop p s)) 0
        ends = by (eqb p (length s)) refl
          where
            by : (b : Bool) → eqb p (length s) ≡ b → b ≡ eqb (length (drop p s)) 0
            by true e = sym (eq-eqb (length (drop p s)) 0 (omega (arith, eqb-true p (length s) e, length-drop p s)))
            by false e = sym (ne_eqb (length (drop p s)) 0 (λ z. eqb-false p (length s) e (omega (arith, length-drop p s, r.inside))))
