-- Items of one width, one after another: how long they are, what was written is read back, what was read is written back. Once for every kind
-- of item: `Ok` is what is known of the items that are left, and tells of the first one what the law needs and the same of the others. Assumes nothing.
use Prim.Native.Nat.{ℕ, zero, suc, ◌+◌, ◌*◌}
use Rattle.std.specs.Prelude.{length, drop, ◌≡◌}
use Rattle.std.proofs.Common.{length-append, drop-drop, sym, ◌∙◌, zero-mul, arith}
use Rattle.std.proofs.Math.Seq.{drop_at}
use mathlib.Core.List.{List, [], ◌∷◌, ◌++◌, append_assoc}
use Rattle.std.proofs.Math.Path.{refl, ap}
use Rattle.std.proofs.Math.Nat.{suc-mul}
use Rattle.buffer.specs.Buffer.{joined}
use Rattle.buffer.specs.FrontLaws.{ReadsFirst, reads_behind}
use Rattle.figures.specs.Figures.{items}

module _ {A : Type 0} (w : ℕ) (item : List ℕ → A) where
  pub length_items : (n : ℕ) (v : List ℕ) → length (items w item n v) ≡ n
  unfolding items
  length_items zero v = refl
  length_items (suc n) v = ap suc (length_items n (drop w v))

  module _ (write : A → List ℕ) where
    pub length_joined : (Ok : List A → Type 0) → ((x : A) (xs : List A) → Ok (x ∷ xs) → (length (write x) ≡ w) × Ok xs)
        → (xs : List A) → Ok xs → length (joined write xs) ≡ length xs * w
    length_joined Ok next [] h = sym (zero-mul w)
    length_joined Ok next (x ∷ xs) h =
        let t = next x xs h in
        length-append (write x) (joined write xs) ∙ omega (arith, t.0, length_joined Ok next xs t.1, suc-mul (length xs) w)

    -- an item that is read back, whatever follows it
    pub record Back (x : A) : Type 0 where
      pub size : length (write x) ≡ w
      pub read : (r : List ℕ) → item (write x ++ r) ≡ x

    pub items_back : (Ok : List A → Type 0) → ((x : A) (xs : List A) → Ok (x ∷ xs) → Back x × Ok xs)
        → (xs : List A) (r : List ℕ) → Ok xs → items w item (length xs) (joined write xs ++ r) ≡ xs
    unfolding items
    items_back Ok next [] r h = refl
    items_back Ok next (x ∷ xs) r h =
        let t = next x xs h in
        let rest : List ℕ = joined write xs ++ r in
        rw (append_assoc (write x) (joined write xs) r, t.0.read rest, drop_at (write x) rest w t.0.size, items_back Ok next xs r t.1)

    pub items_same : (Ok : ℕ → List ℕ → Type 0) → ((n : ℕ) (s : List ℕ) → Ok (suc n) s → (write (item s) ++ drop w s ≡ s) × Ok n (drop w s))
        → (n : ℕ) (s : List ℕ) → Ok n s → joined write (items w item n s) ++ drop (n * w) s ≡ s
    unfolding items
    items_same Ok next zero s h = rw (zero-mul w)
    items_same Ok next (suc n) s h =
        let t = next n s h in
        let k : suc n * w ≡ w + n * w = omega (arith, suc-mul n w) in
        append_assoc (write (item s)) (joined write (items w item n (drop w s))) (drop (suc n * w) s)
        ∙ rw (k, ← (drop-drop (n * w) w s), items_same Ok next n (drop w s) t.1) t.0

-- items look no further than their own bytes
pub reads_items : {A : Type 0} (w : ℕ) (item : List ℕ → A) → ReadsFirst w item → (n : ℕ) → ReadsFirst (n * w) (items w item n)
unfolding items
reads_items w item r zero = record { same = λ f h. refl }
reads_items w item r (suc n) =
    record { same = λ f h. let k = suc-mul n w in rw (r.same f (omega arith), (reads_behind w (reads_items w item r n)).same f (omega arith)) }
