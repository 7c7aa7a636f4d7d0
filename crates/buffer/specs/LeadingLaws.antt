-- What stands at a list's front: how many elements pass a test, and whether it is a given list; of lists put together, and the loops that find out.
-- Assumes nothing.
use Prim.Native.Nat.{ℕ, zero, suc, ◌+◌, ◌≤◌, ◌<◌}
use Rattle.std.proofs.Common.{eqb-true, eq-eqb, drop_of_length-le, ap, ◌∙◌, le_of_suc-le-suc}
use Rattle.std.specs.Prelude.{eqb, get_or, drop, Bool, ◌&&◌, ◌≡◌}
use Rattle.std.proofs.Math.ListN.{length, take}
use Rattle.std.proofs.Math.Seq.{drop-cons}
use Rattle.std.proofs.Math.Bool.{true, false, and_assoc}
use Rattle.std.proofs.lemmas.Bool.{false≢true}
use mathlib.Core.List.{List, [], ◌∷◌, ◌++◌}
use Rattle.std.proofs.Math.Path.{refl, sym}
use Rattle.std.proofs.Math.Numerals.{add-one}
use native.Mathlib.Omega.{arith}
use Rattle.buffer.specs.AllLaws.{and_true}
use Rattle.buffer.specs.Buffer.{all, leading, begins_by}

-- ---- how many pass

module _ {X : Type 0} (p : X → Bool) where
  leading_yes : (x : X) (l : List X) → p x ≡ true → leading p (x ∷ l) ≡ suc (leading p l)
  unfolding leading
  leading_yes x l e = rw e

  leading_no : (x : X) (l : List X) → p x ≡ false → leading p (x ∷ l) ≡ 0
  unfolding leading
  leading_no x l e = rw e

  pub leading_le : (l : List X) → leading p l ≤ length l
  unfolding leading
  leading_le [] = omega arith
  leading_le (x ∷ l) = go (p x) refl (leading_le l)
    where
      go : (b : Bool) → p x ≡ b → leading p l ≤ length l → leading p (x ∷ l) ≤ suc (length l)
      go true e h = rw (leading_yes x l e) (omega arith)
      go false e h = rw (leading_no x l e) (omega arith)

  pub leading_pass : (l : List X) → all p (take (leading p l) l) ≡ true
  unfolding leading all
  leading_pass [] = refl
  leading_pass (x ∷ l) = go (p x) refl (leading_pass l)
    where
      go : (b : Bool) → p x ≡ b → all p (take (leading p l) l) ≡ true → all p (take (leading p (x ∷ l)) (x ∷ l)) ≡ true
      go true e h = rw (leading_yes x l e, e) h
      go false e h = rw (leading_no x l e)

  -- behind elements that pass, as many more
  pub leading_append : (a b : List X) → all p a ≡ true → leading p (a ++ b) ≡ length a + leading p b
  unfolding all
  leading_append [] b e = omega arith
  leading_append (x ∷ a) b e =
      let w = and_true (p x) (all p a) e in
      leading_yes x (a ++ b) w.0 ∙ omega (arith, leading_append a b w.1)

  -- and then one that does not
  pub leading_stops : (a : List X) (x : X) (b : List X) → all p a ≡ true → p x ≡ false → leading p (a ++ (x ∷ b)) ≡ length a
  leading_stops a x b e g = leading_append a (x ∷ b) e ∙ omega (arith, leading_no x b g)

  -- of the first m alone, where they are enough
  pub leading_taken : (m : ℕ) (l : List X) → leading p l ≤ m → leading p (take m l) ≡ leading p l
  unfolding leading
  leading_taken zero l h = omega arith
  leading_taken (suc m) [] h = refl
  leading_taken (suc m) (x ∷ l) h = go (p x) refl (leading_taken m l)
    where
      go : (b : Bool) → p x ≡ b → (leading p l ≤ m → leading p (take m l) ≡ leading p l) → leading p (x ∷ take m l) ≡ leading p (x ∷ l)
      go true e i = rw e (ap suc (i (le_of_suc-le-suc (rw e at h))))
      go false e i = rw e

  -- the loop that counts: k have passed, and what passes behind them makes up the whole
  pub record Counting (l : List X) (k : ℕ) : Type 0 where
    pub inside : k ≤ length l
    is : k + leading p (drop k l) ≡ leading p l

module _ {X : Type 0} {p : X → Bool} {l : List X} where
  pub count_begun : Counting p l 0
  count_begun = record { inside = omega arith; is = omega arith }

  module _ {k : ℕ} (r : Counting p l k) where
    pub count_turn : (d : X) → k < length l → p (get_or l k d) ≡ true → Counting p l (k + 1)
    count_turn d h e =
        let s : leading p (drop k l) ≡ suc (leading p (drop (k + 1) l)) = rw (drop-cons l k d h, add-one k) (leading_yes p (get_or l k d) (drop (suc k) l) e) in
        record { inside = omega arith; is = omega (arith, s, r.is) }

    -- the next does not pass
    pub count_stopped : (d : X) → k < length l → p (get_or l k d) ≡ false → k ≡ leading p l
    count_stopped d h e =
        let s : leading p (drop k l) ≡ 0 = rw (drop-cons l k d h) (leading_no p (get_or l k d) (drop (suc k) l) e) in
        omega (arith, s, r.is)

    -- there is none
    pub count_ended : length l ≤ k → k ≡ leading p l
    unfolding leading
    count_ended h = let s : leading p (drop k l) ≡ 0 = rw (drop_of_length-le l h) in omega (arith, s, r.is)

-- ---- whether a list stands there

pub begins_append : (w s : List ℕ) → begins_by w (w ++ s) ≡ true
unfolding begins_by
begins_append [] s = refl
begins_append (c ∷ w) s = rw (eq-eqb c c refl) (begins_append w s)

pub begins_front : (w s : List ℕ) → begins_by w s ≡ true → s ≡ w ++ drop (length w) s
unfolding begins_by
begins_front [] s e = refl
begins_front (c ∷ w) [] e = absurd (false≢true e)
begins_front (c ∷ w) (d ∷ s) e =
    let h = and_true (eqb d c) (begins_by w s) e in
    rw (eqb-true d c h.0) (ap (λ (l : List ℕ). c ∷ l) (begins_front w s h.1))

-- a list that is shorter
pub begins_short : (w s : List ℕ) → length s < length w → begins_by w s ≡ false
unfolding begins_by
begins_short [] s h = absurd (omega arith)
begins_short (c ∷ w) [] h = refl
begins_short (c ∷ w) (d ∷ s) h = go (eqb d c) (begins_short w s (omega arith))
  where
    go : (b : Bool) → begins_by w s ≡ false → (b && begins_by w s) ≡ false
    go true e = e
    go false e = refl

-- the loop that compares: the test of what is done, and of what is left, make up the whole
pub record Comparing (w s : List ℕ) (fine : Bool) (i : ℕ) : Type 0 where
  pub enough : length w ≤ length s
  pub inside : i ≤ length w
  is : (fine && begins_by (drop i w) (drop i s)) ≡ begins_by w s

module _ {w s : List ℕ} where
  pub compare_begun : length w ≤ length s → Comparing w s true 0
  compare_begun h = record { enough = h; inside = omega arith; is = refl }

  module _ {fine : Bool} {i : ℕ} (r : Comparing w s fine i) where
    pub compare_turn : {t : Bool} → i < length w → t ≡ eqb (get_or s i 0) (get_or w i 0) → Comparing w s (fine && t) (i + 1)
    unfolding begins_by
    compare_turn {t} h e =
        let g : begins_by (drop i w) (drop i s) ≡ (t && begins_by (drop (i + 1) w) (drop (i + 1) s))
        = rw (drop-cons w i 0 h, drop-cons s i 0 (omega (arith, r.enough)), add-one i, e) in
        record { enough = r.enough; inside = omega arith; is = and_assoc fine t (begins_by (drop (i + 1) w) (drop (i + 1) s)) ∙ sym (ap (λ (b : Bool). fine && b) g) ∙ r.is }

    pub compare_ended : length w ≤ i → fine ≡ begins_by w s
    unfolding begins_by
    compare_ended h = ended fine (rw (drop_of_length-le w h) at r.is)
      where
        ended : (b : Bool) → (b && true) ≡ begins_by w s → b ≡ begins_by w s
        ended true e = e
        ended false e = e
