-- The loops over a run of figures, once for every kind: reading with a test, testing, writing; and, behind the first, reading items of one width, figures
-- or rows: what is left, read on from here, gives the whole.
-- Assumes nothing.
use Rattle.std.specs.Prelude.{ℕ, suc, ◌+◌, ◌*◌, ◌-◌, ◌^◌, ◌≤◌, ◌<◌, T, leb, ℤ, nat_abs, length, get_or, take, drop, set, Bool, true, ◌&&◌, List, [], ◌∷◌, ◌++◌, ◌≡◌}
use Rattle.std.proofs.Common.{length-set, drop-drop, take-suc, take-suc-set, take_all, append-nil, ◌∙◌, mul-suc, add-one, add-zero, zero-mul, mul-le-mul_right, ap}
use Rattle.std.proofs.Math.Seq.{append_snoc}
use Rattle.std.specs.Int.Signed.{mag}
use Rattle.std.proofs.Math.Bool.{and-true}
use Rattle.std.proofs.Math.Path.{refl, sym}
use Rattle.std.specs.Int.{Width, w64}
use mir.Val.{hbits, to_z, of_z}
use Rattle.std.proofs.Math.Nat.{sub-zero, suc-mul, mul_comm}
use native.Mathlib.Omega.{arith}
use Rattle.buffer.specs.AllLaws.{all_both}
use Rattle.buffer.specs.Buffer.{onto, run, all, Wrote}
use Rattle.buffer.specs.RunLaws.{joined_run, Running, run_joined, joined_append}
use Rattle.integers.specs.Signed.{wide_is}
use Rattle.figures.specs.Figures.{Kind, up_to_limit, within_limit, items, figure_at, figure_bytes, spread, Read}
use Rattle.std.specs.List.{list_all}
use Rattle.buffer.specs.Laws.{part, put}
use Rattle.buffer.specs.WroteLaws.{wrote_then, wrote_none, wrote_same, wrote_lent}
use Rattle.bigendian.specs.NumberLaws.{length_bytes}

-- the test of a signed figure of a width, whose size was found in 64 bits
pub tested : (w : Width) → T (leb (hbits w) (hbits w64)) → (z : ℤ) → mag z < 2 ^ hbits w → (limit : ℕ) {m : ℕ}
    → m ≡ nat_abs (to_z w64 (of_z w64 (to_z w (of_z w z)))) → up_to_limit limit m ≡ within_limit limit z
tested w narrow z h limit e = rw (e, wide_is w narrow z (record { sfits = h }))

-- a test of one element more
all_more : {X : Type 0} (f : X → Bool) (l : List X) (x : X) → all f (l ++ (x ∷ [])) ≡ (all f l && f x)
unfolding all
all_more f l x = rw (all_both f l (x ∷ []), and-true (f x))

-- what is left is the next one, and what is left behind it
left : (n i : ℕ) → i < n → n - i ≡ suc (n - (i + 1))
left n i h = omega arith

-- ---- reading n items from `at` on, of which i are done: what is left, read on from p, gives the answer and the items of the whole

module _ {A S : Type 0} (w : ℕ) (item : List ℕ → A) (answer : ℕ → List ℕ → S) (n : ℕ) (s : List ℕ) (at : ℕ) where
  pub record ReadingItems (done : List A) (i p : ℕ) : Type 0 where
    pub count : i ≤ n
    status : answer (n - i) (drop p s) ≡ answer n (drop at s)
    made : done ++ items w item (n - i) (drop p s) ≡ items w item n (drop at s)

module _ {A S : Type 0} {w : ℕ} {item : List ℕ → A} {answer : ℕ → List ℕ → S} {n : ℕ} {s : List ℕ} {at : ℕ} where
  pub begun : ReadingItems w item answer n s at [] 0 at
  begun = record { count = omega arith; status = rw (sub-zero n); made = rw (sub-zero n) }

  module _ {done : List A} {i p : ℕ} (r : ReadingItems w item answer n s at done i p) where
    -- the next item's answer is the whole's
    pub stopped : i < n → {x : S} → ((m : ℕ) → x ≡ answer (suc m) (drop p s)) → x ≡ answer n (drop at s)
    stopped h e = e _ ∙ rw (left n i h) at r.status

    -- the whole's answer is what the items behind the next one give
    pub turn : i < n → ((m : ℕ) → answer m (drop w (drop p s)) ≡ answer (suc m) (drop p s)) → ReadingItems w item answer n s at (done ++ (item (drop p s) ∷ [])) (i + 1) (p + w)
    unfolding items
    turn h e =
        record {
          count = omega arith;
          status = rw (← (drop-drop w p s)) (e _ ∙ rw (left n i h) at r.status);
          made = rw (append_snoc done (item (drop p s)) (items w item (n - (i + 1)) (drop (p + w) s)), ← (drop-drop w p s)) (rw (left n i h) at r.made);
        }

    pub ended : n ≤ i → (answer 0 (drop p s) ≡ answer n (drop at s)) × (done ≡ items w item n (drop at s))
    unfolding items
    ended h = let m : n - i ≡ 0 = omega arith in (rw m at r.status, sym (append-nil done) ∙ rw m at r.made)

-- ---- reading as many figures as out has places: the items, whose answer is nothing here, and the flag of those that are done

module _ {X : Type 0} (k : Kind X) (f : X → Bool) (s : List ℕ) (at : ℕ) (out₀ : List X) where
  pub record ReadingFigures (fine : Bool) (out : List X) (i p : ℕ) : Type 0 where
    pub room : p + k.width * (length out₀ - i) ≤ length s
    pub same : length out ≡ length out₀
    read : ReadingItems k.width (figure_at k) (λ m v. tt {0}) (length out₀) s at (take i out) i p
    flag : fine ≡ all f (take i out)

module _ {X : Type 0} {k : Kind X} {f : X → Bool} {s : List ℕ} {at : ℕ} {out₀ : List X} where
  pub read_begun : at + k.width * length out₀ ≤ length s → ReadingFigures k f s at out₀ true out₀ 0 at
  unfolding all
  read_begun h = record { room = rw (sub-zero (length out₀)) h; same = refl; read = begun; flag = refl }

  module _ {fine : Bool} {out : List X} {i p : ℕ} (r : ReadingFigures k f s at out₀ fine out i p) where
    -- the next figure has its bytes, and what is left has its own
    after_next : i < length out → p + k.width + k.width * (length out₀ - (i + 1)) ≤ length s
    after_next h =
        omega (arith, rw (left (length out₀) i (omega (arith, r.same)), mul-suc k.width (length out₀ - (i + 1))) at r.room)

    pub read_next : i < length out → p + k.width ≤ length s
    read_next h = omega (arith, after_next h)

    -- the next figure is x, and t its test
    pub read_turn : {x : X} {t : Bool} → i < length out → x ≡ figure_at k (drop p s) → t ≡ f x
        → ReadingFigures k f s at out₀ (fine && t) (set out i x) (i + 1) (p + k.width)
    read_turn {x} h e g =
        let more : take (i + 1) (set out i x) ≡ take i out ++ (x ∷ []) = rw (add-one i) (take-suc-set out i x h) in
        record {
          room = after_next h;
          same = length-set out i x ∙ r.same;
          read = rw (more, e) (turn r.read (omega (arith, r.same)) (λ m. refl));
          flag = rw (more, all_more f (take i out) x, r.flag, g);
        }

    pub read_ended : length out ≤ i → Read k f (drop at s) out₀ fine out
    read_ended h =
        let whole = take_all i out h in
        let made = sym whole ∙ (ended r.read (omega (arith, r.same))).1 in
        record { status = r.flag ∙ rw (whole, made); made = made }

-- the same where the place goes by the number of figures that are done
module _ {X : Type 0} {k : Kind X} {f : X → Bool} {s : List ℕ} {at : ℕ} {out₀ : List X} where
  pub place_begun : at + k.width * length out₀ ≤ length s → ReadingFigures k f s at out₀ true out₀ 0 (at + 0 * k.width)
  place_begun h = rw (zero-mul k.width, add-zero at) (read_begun h)

  module _ {fine : Bool} {out : List X} {i : ℕ} (r : ReadingFigures k f s at out₀ fine out i (at + i * k.width)) where
    pub place_turn : {x : X} {t : Bool} → i < length out₀ → x ≡ figure_at k (drop (at + i * k.width) s) → t ≡ f x
        → ReadingFigures k f s at out₀ (fine && t) (set out i x) (i + 1) (at + (i + 1) * k.width)
    place_turn h e g =
        let place : at + (i + 1) * k.width ≡ at + i * k.width + k.width = omega (arith, suc-mul i k.width) in
        rw place (read_turn r (omega (arith, r.same)) e g)

    pub place_ended : length out₀ ≤ i → Read k f (drop at s) out₀ fine out
    place_ended h = read_ended r (omega (arith, r.same))

-- ---- testing each element of a list: the flag of those that are done

module _ {X : Type 0} (f : X → Bool) (l : List X) where
  pub record Testing (fine : Bool) (i : ℕ) : Type 0 where
    pub inside : i ≤ length l
    flag : fine ≡ all f (take i l)

module _ {X : Type 0} {f : X → Bool} {l : List X} where
  pub test_begun : Testing f l true 0
  unfolding all
  test_begun = record { inside = omega arith; flag = refl }

  module _ {fine : Bool} {i : ℕ} (r : Testing f l fine i) where
    pub test_turn : (d : X) {t : Bool} → i < length l → t ≡ f (get_or l i d) → Testing f l (fine && t) (i + 1)
    test_turn d h g = record { inside = omega arith; flag = rw (add-one i, take-suc l i d h, all_more f (take i l) (get_or l i d), r.flag, g) }

    pub test_ended : length l ≤ i → fine ≡ all f l
    test_ended h = r.flag ∙ rw (take_all i l h)

-- the library's test of each element
pub all_listed : {X : Type 0} (f : X → Bool) (l : List X) → list_all f l ≡ all f l
unfolding all
all_listed f [] = refl
all_listed f (x ∷ l) = ap (λ b. f x && b) (all_listed f l)

-- ---- writing a list of figures over the front of a buffer

module _ {X : Type 0} (k : Kind X) (d : X) (l : List X) where
  pub spread_run : (i : ℕ) → i ≤ length l → spread k (take i l) ≡ run i (λ j. figure_bytes k (get_or l j d))
  unfolding spread
  spread_run i h = joined_run (figure_bytes k) d l i h

  abbrev pub WritingFigures : List ℕ → List ℕ → ℕ → ℕ → Type 0
  WritingFigures out₀ out i p = Running k.width (λ j. figure_bytes k (get_or l j d)) (length l) 0 out₀ out i p

  pub write_ended : {out₀ out : List ℕ} {i p : ℕ} → WritingFigures out₀ out i p → length l ≤ i → out ≡ onto (spread k l) out₀
  unfolding spread
  write_ended r h = (run_joined (figure_bytes k) d l refl r h).bytes

-- the same with no figure for a place past the end: the figures before place i are written
module _ {X : Type 0} (k : Kind X) (l : List X) (out₀ : List ℕ) where
  pub record WritingList (out : List ℕ) (i : ℕ) : Type 0 where
    pub room : k.width * length l ≤ length out₀
    pub same : length out ≡ length out₀
    wrote : Wrote (spread k (take i l)) 0 out₀ (i * k.width) out

module _ {X : Type 0} {k : Kind X} {l : List X} {out₀ : List ℕ} where
  pub list_begun : k.width * length l ≤ length out₀ → WritingList k l out₀ out₀ 0
  unfolding spread
  list_begun h = record { room = h; same = refl; wrote = rw (zero-mul k.width) (wrote_none 0) }

  module _ {out : List ℕ} {i : ℕ} (r : WritingList k l out₀ out i) where
    -- the next figure has room
    pub list_next : i < length l → i * k.width + k.width ≤ length out
    list_next h =
        let m : suc i * k.width ≤ length l * k.width = mul-le-mul_right k.width h in
        omega (arith, suc-mul i k.width, mul_comm k.width (length l), r.room, r.same)

    -- the next figure is x
    pub list_turn : {x : X} {ys : List ℕ} → i < length l → x ≡ get_or l i x → ys ≡ onto (figure_bytes k x) (part out (i * k.width))
        → WritingList k l out₀ (put out (i * k.width) ys) (i + 1)
    unfolding spread
    list_turn {x} h e f =
        let more : spread k (take (i + 1) l) ≡ spread k (take i l) ++ figure_bytes k x =
        rw (add-one i, take-suc l i x h, ← e, joined_append (figure_bytes k) (take i l) (x ∷ [])) (ap (λ b. spread k (take i l) ++ b) (append-nil (figure_bytes k x))) in
        let wrote = wrote_lent (figure_bytes k x) out {next = (i + 1) * k.width} f (omega (arith, length_bytes k.width (k.number x), suc-mul i k.width)) in
        record {
          room = r.room;
          same = wrote_same (record { room = omega (arith, list_next h, length_bytes k.width (k.number x)) }) wrote ∙ r.same;
          wrote = rw more (wrote_then (omega arith) r.wrote wrote);
        }

    pub list_ended : length l ≤ i → out ≡ onto (spread k l) out₀
    list_ended h = rw (take_all i l h) at r.wrote.bytes
