-- What a buffer holds after writes over its front, after a part of it was lent and came back with a write over the part's front, and after writes
-- from a place on, one after another in either order of work. Assumes nothing.
use Rattle.std.specs.Prelude.{ℕ, ◌+◌, ◌-◌, ◌≤◌, ◌<◌, length, take, drop, set, List, [], ◌∷◌, ◌++◌, ◌≡◌}
use borrow.Rule.Slice.PartMut.{put_mid}
use Rattle.std.proofs.Common.{length-append, length-take, length-drop, drop_of_length-le, take-append-drop, take_all, take_at, drop_at, drop-drop, take-take, length-take-le, append_assoc, append-nil, sym, ◌∙◌, zero-add, add-one, arith}
use Rattle.std.proofs.lemmas.List.{take-append-le, set_split}
use Rattle.buffer.specs.Buffer.{onto, onto_at}

module _ {X : Type 0} where
  -- ---- from a place on

  pub length_onto_at : (at : ℕ) (b out : List X) → at + length b ≤ length out → length (onto_at at b out) ≡ length out
  length_onto_at at b out h = simp (length-append, length-drop, length-take) (omega arith)

  -- the empty list changes nothing
  pub onto_at_none : (at : ℕ) (out : List X) → onto_at at [] out ≡ out
  onto_at_none at out = take-append-drop at out

  -- b after a
  pub onto_at_then : (at : ℕ) (a b out : List X) → at ≤ length out → onto_at (at + length a) b (onto_at at a out) ≡ onto_at at (a ++ b) out
  onto_at_then at a b out h =
      let p : List X = take at out in
      let t : List X = drop (length a) (drop at out) in
      let n : length (p ++ a) ≡ at + length a = length-append p a ∙ rw (length-take-le at out h) in
      let e : onto_at at a out ≡ (p ++ a) ++ t = sym (append_assoc p a t) in
      rw (
        e,
        take_at (p ++ a) t (at + length a) n,
        drop_at (p ++ a) t (at + length a) n,
        length-append a b,
        drop-drop (length b) (length a) (drop at out),
        append_assoc p a (b ++ drop (length a + length b) (drop at out)),
        append_assoc a b (drop (length a + length b) (drop at out)),
      )

  -- a before b, which begins at r
  pub onto_at_before : (at r : ℕ) (a b out : List X) → at + length a ≡ r → r ≤ length out → onto_at at a (onto_at r b out) ≡ onto_at at (a ++ b) out
  onto_at_before at r a b out e h =
      let p : List X = take r out in
      let t : List X = b ++ drop (length b) (drop r out) in
      rw (
        length-append a b,
        ← (drop-drop (length b) (length a) (drop at out)),
        drop-drop (length a) at (p ++ t),
        drop-drop (length a) at out,
        e,
        drop_at p t r (length-take-le r out h),
        take-append-le at p t (omega (arith, length-take-le r out h)),
        take-take at r out (omega arith),
        append_assoc a b (drop (length b) (drop r out)),
      )

  pub set_onto_at : (at : ℕ) (d : X) (out : List X) → at < length out → set out at d ≡ onto_at at (d ∷ []) out
  set_onto_at at d out h = set_split out at d h ∙ rw (drop-drop 1 at out, add-one at)

  -- ---- over the front

  pub length_onto : (b out : List X) → length b ≤ length out → length (onto b out) ≡ length out
  length_onto b out h = length_onto_at 0 b out (omega arith)

  pub take_onto : (b out : List X) (m : ℕ) → length b ≡ m → take m (onto b out) ≡ b
  take_onto b out m e = take_at b (drop (length b) out) m e

  -- what was written over the front has room there
  pub holds : (m : ℕ) (b out : List X) → length b ≡ m → m ≤ length (onto b out)
  holds m b out e = simp length-append (omega arith)

  -- b behind what is done
  onto_then : (out done b : List X) {at : ℕ} → length done ≡ at → onto_at at b (onto done out) ≡ onto (done ++ b) out
  onto_then out done b l = rw (← l) (rw (zero-add (length done)) at (onto_at_then 0 done b out (omega arith)))

  -- ---- over the front of a part that goes to the buffer's end

  abbrev pub part : List X → ℕ → List X
  part xs at = take (length xs - at) (drop at xs)

  abbrev pub put : List X → ℕ → List X → List X
  put xs at ys = put_mid at (length xs - at) xs ys

  pub part_is : (xs : List X) (at : ℕ) → part xs at ≡ drop at xs
  part_is xs at = take_all (length xs - at) (drop at xs) (simp length-drop (omega arith))

  past : (xs : List X) (at : ℕ) → drop (length xs - at) (drop at xs) ≡ []
  past xs at = let h : length (drop at xs) ≤ length xs - at = simp length-drop (omega arith) in drop_of_length-le (drop at xs) h

  pub put_is : (xs b : List X) (at : ℕ) {ys : List X} → ys ≡ onto b (part xs at) → put xs at ys ≡ onto_at at b xs
  put_is xs b at f = rw (f, past xs at, part_is xs at, append-nil)

  -- the part from `at` of `count` elements was filled with b
  pub filled : (xs₀ xs done b : List X) (at count : ℕ) → xs ≡ onto done xs₀ → length done ≡ at → length b ≡ count
      → put_mid at count xs b ≡ onto (done ++ b) xs₀
  filled xs₀ xs done b at count e l k = rw (e, ← k) (onto_then xs₀ done b l)
