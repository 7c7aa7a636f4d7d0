-- The parts of a text, as the reader's loops meet them. Assumes nothing.
use Rattle.std.specs.Prelude.{ℕ, ◌+◌, ◌≤◌, ◌<◌, eqb, leb, length, get_or, Bool, true, false, ◌&&◌, ◌||◌, not, ◌≡◌, refl, Option, None, Some, is_some, suc}
use borrow.Author.Tests.{eq-eqb, ne_eqb, eqb-true, eqb-false}
use Rattle.std.proofs.Math.ListN.{drop, drop_of_length-le}
use Rattle.std.proofs.Common.{length-append, length-drop, drop-cons, drop-drop, ap, ◌∙◌, arith}
use mathlib.Core.List.{List, [], ◌∷◌}
use Rattle.std.proofs.Math.Path.{sym}
use Rattle.std.proofs.Math.Numerals.{add-one}
use Rattle.std.specs.List.{prefix_len, starts_with}
use Rattle.buffer.specs.Buffer.{leading, begins_by}
use Rattle.buffer.specs.Laws.{part, part_is}
use Rattle.buffer.specs.LeadingLaws.{begins_front}
use Rattle.decimal.specs.Decimal.{line_feed}
use Rattle.casefile.specs.Case.{tanks_are_fine}
use Rattle.matrixfile.specs.Read.{after_comments, size_of, spaces_in, size_fine, behind_size, at_size_line}
use Rattle.matrixfile.proofs.SizeLaws.{size_tests, size_some}
use Rattle.matrixfile.specs.Text.{first_line}
use Rattle.matrix_reader.specs.Parts.{LeavesBehind, CommentsRead, SizeRead, HeaderRead}
use Rattle.matrix_reader.specs.declared.Size.{Size}

-- ---- what the library's methods find at a text's front

pub prefix_leading : {X : Type 0} (p : X → Bool) (l : List X) → prefix_len p l ≡ leading p l
unfolding leading
prefix_leading p [] = refl
prefix_leading p (x ∷ l) = let one : 1 + leading p l ≡ suc (leading p l) = omega arith in rw (prefix_leading p l, one)

same_tests : (a b : ℕ) → eqb a b ≡ eqb b a
same_tests a b = by (eqb a b) refl
  where
    by : (t : Bool) → eqb a b ≡ t → t ≡ eqb b a
    by true e = sym (eq-eqb b a (sym (eqb-true a b e)))
    by false e = sym (ne_eqb b a (λ q. eqb-false a b e (sym q)))

pub starts_begins : (w s : List ℕ) → starts_with eqb s w ≡ begins_by w s
unfolding begins_by
starts_begins [] s = refl
starts_begins (c ∷ w) [] = refl
starts_begins (c ∷ w) (d ∷ s) = rw (same_tests c d, starts_begins w s)

-- of the part from a place on
pub part_begins : (s : List ℕ) (at : ℕ) (w : List ℕ) {b : Bool} → b ≡ starts_with eqb (part s at) w → b ≡ begins_by w (drop at s)
part_begins s at w e = e ∙ starts_begins w (part s at) ∙ ap (begins_by w) (part_is s at)

-- ---- comment lines: k bytes are passed, and what is left behind the rest of them is what is left behind all

pub record PassingComments (s : List ℕ) (inside : Bool) (k : ℕ) : Type 0 where
  pub within : k ≤ length s
  is : after_comments inside (drop k s) ≡ after_comments false s

pub pass_begun : {s : List ℕ} → PassingComments s false 0
pass_begun = record { within = omega arith; is = refl }

module _ {s : List ℕ} {inside : Bool} {k : ℕ} (r : PassingComments s inside k) where
  pub pass_turn : {next : Bool} → k < length s → (inside || eqb (get_or s k 0) 37) ≡ true → next ≡ not (eqb (get_or s k 0) 10) → PassingComments s next (k + 1)
  unfolding after_comments
  pass_turn {next} h e g =
      let a : after_comments inside (drop k s) ≡ after_comments next (drop (k + 1) s) = rw (drop-cons s k 0 h, e, g, add-one k) in
      record { within = omega arith; is = sym a ∙ r.is }

  pub pass_stopped : k < length s → (inside || eqb (get_or s k 0) 37) ≡ false → CommentsRead s k
  unfolding after_comments
  pass_stopped h e =
      let a : after_comments inside (drop k s) ≡ drop k s = rw (drop-cons s k 0 h, e) in
      record { inside = r.within; is = sym a ∙ r.is }

  pub pass_ended : length s ≤ k → CommentsRead s k
  unfolding after_comments
  pass_ended h =
      let d : drop k s ≡ [] = drop_of_length-le s h in
      record { inside = r.within; is = d ∙ rw d at r.is }

-- ---- a size line

-- what is read where there is none
abbrev pub no_size : Option Size
no_size = None

pub size_refused : (s : List ℕ) → size_fine s ≡ false → SizeRead s no_size
size_refused s e = record { fine = sym e; tanks = tt; behind = tt }

pub size_missing : (s : List ℕ) → length s ≡ 0 → SizeRead s no_size
size_missing s e = size_refused s (by (size_fine s) refl)
  where
    by : (b : Bool) → size_fine s ≡ b → b ≡ false
    by true q = absurd (omega (arith, size_some s q))
    by false q = refl

-- its tests one by one
pub size_tested : (s : List ℕ) {n k : ℕ} {tanks ended : Bool} → n ≡ size_of s → k ≡ spaces_in s → tanks ≡ tanks_are_fine n
    → ended ≡ begins_by (get_or s 0 0 ∷ line_feed) (drop (1 + k) s) → (tanks && (leb 1 k && ended)) ≡ size_fine s
unfolding size_fine
size_tested s a b c d = rw (c, d, a, b)

module _ (s : List ℕ) (e : size_fine s ≡ true) where
  pub size_room : 3 + spaces_in s ≤ length s
  size_room =
      omega (
        arith,
        ap length (begins_front (get_or s 0 0 ∷ line_feed) (drop (1 + spaces_in s) s) (size_tests s e).ended),
        length-append (get_or s 0 0 ∷ line_feed) (drop 2 (drop (1 + spaces_in s) s)),
        length-drop (1 + spaces_in s) s,
      )

  pub size_accepted : {n k : ℕ} → n ≡ size_of s → k ≡ spaces_in s → SizeRead s (Some (record { n = n; len = 3 + k }))
  size_accepted {n} {k} g h =
      record {
        fine = sym e;
        tanks = g;
        behind = record { inside = rw h size_room; is = rw h };
      }

-- ---- the lines up to it

module _ (text : List ℕ) where
  pub header_refused : begins_by first_line text ≡ false → HeaderRead text no_size
  header_refused e = record { fine = rw e; tanks = tt; behind = tt }

  module _ (e : begins_by first_line text ≡ true) where
    pub first_line_room : length first_line ≤ length text
    first_line_room = omega (arith, ap length (begins_front first_line text e), length-append first_line (drop (length first_line) text))

    module _ {k : ℕ} (w : CommentsRead (drop (length first_line) text) k) where
      -- where the size line begins
      pub size_place : LeavesBehind text (length first_line + k) (at_size_line text)
      size_place =
          record {
            inside = omega (arith, w.inside, length-drop (length first_line) text, first_line_room);
            is = sym (drop-drop k (length first_line) text) ∙ w.is;
          }

      module _ {r : Option Size} (z : SizeRead (drop (length first_line + k) text) r) where
        same_fine : is_some r ≡ (begins_by first_line text && size_fine (at_size_line text))
        same_fine = z.fine ∙ rw (size_place.is, e)

        pub header_size_refused : r ≡ None → HeaderRead text no_size
        header_size_refused q = record { fine = rw q at same_fine; tanks = tt; behind = tt }

        module _ {size : Size} (q : r ≡ Some size) where
          size_behind : LeavesBehind (drop (length first_line + k) text) size.len (behind_size (drop (length first_line + k) text))
          size_behind = rw q at z.behind

          pub header_room : length first_line + k + size.len ≤ length text
          header_room = omega (arith, size_behind.inside, length-drop (length first_line + k) text, size_place.inside)

          pub header_accepted : HeaderRead text (Some (record { n = size.n; len = length first_line + k + size.len }))
          header_accepted =
              record {
                fine = rw q at same_fine;
                tanks = (rw q at z.tanks) ∙ ap size_of size_place.is;
                behind =
                    record {
                      inside = header_room;
                      is = sym (drop-drop size.len (length first_line + k) text) ∙ size_behind.is ∙ ap behind_size size_place.is;
                    };
              }
