-- Lists one after another: how long they are, where each stands, and the loop that writes them into a buffer from a place on. Assumes nothing.
use Prim.Native.Nat.{ℕ, zero, suc, ◌+◌, ◌*◌, ◌≤◌, ◌<◌}
use Rattle.std.proofs.Math.ListN.{length, length-append}
use Rattle.std.specs.Prelude.{get_or, take, drop, ◌≡◌}
use Rattle.std.proofs.Common.{take-suc, take_all, drop_at, ◌∙◌, mul-zero, mul-le-mul_right, add-one}
use mathlib.Core.List.{List, [], ◌∷◌, ◌++◌, append_assoc, append-nil, map}
use Rattle.std.proofs.Math.Path.{refl, sym}
use Rattle.std.proofs.Math.Decide.{ℕ_discrete}
use Rattle.std.proofs.Math.Nat.{mul-suc, suc-mul}
use native.Mathlib.Omega.{arith}
use Rattle.buffer.specs.Buffer.{onto, Wrote, run, joined, concat}
use Rattle.buffer.specs.Laws.{part, put}
use Rattle.buffer.specs.WroteLaws.{wrote_then, wrote_none, wrote_same, wrote_lent}

-- ---- lengths and places

module _ {X : Type 0} (w : ℕ) (piece : ℕ → List X) where
  pub length_run : ((i : ℕ) → length (piece i) ≡ w) → (n : ℕ) → length (run n piece) ≡ w * n
  unfolding run
  length_run each zero = sym (mul-zero w)
  length_run each (suc n) = length-append (run n piece) (piece n) ∙ omega (arith, length_run each n, each n, mul-suc w n)

  -- where no piece has more than w
  pub length_run_le : (n : ℕ) → ((i : ℕ) → i < n → length (piece i) ≤ w) → length (run n piece) ≤ n * w
  unfolding run
  length_run_le zero each = omega arith
  length_run_le (suc n) each =
      omega (arith, length-append (run n piece) (piece n), length_run_le n (λ i h. each i (omega arith)), each n (omega arith), suc-mul n w)

-- piece i of a run of pieces of w elements stands at w i, with something behind it
pub record Piece {X : Type 0} (w i : ℕ) (piece : ℕ → List X) (l : List X) : Type 0 where
  pub behind : List X
  pub here : drop (w * i) l ≡ piece i ++ behind

module _ {X : Type 0} (w : ℕ) (piece : ℕ → List X) (each : (i : ℕ) → length (piece i) ≡ w) where
  pub run_piece : (n i : ℕ) (rest : List X) → i < n → Piece w i piece (run n piece ++ rest)
  unfolding run
  run_piece zero i rest h = absurd (omega arith)
  run_piece (suc n) i rest h = go (ℕ_discrete i n) (λ l. run_piece n i (piece n ++ rest) l)
    where
      go : Dec (i ≡ n) → (i < n → Piece w i piece (run n piece ++ (piece n ++ rest))) → Piece w i piece ((run n piece ++ piece n) ++ rest)
      go (yes e) r =
          record {
            behind = rest;
            here = rw (append_assoc, e) (drop_at (run n piece) (piece n ++ rest) (w * n) (length_run w piece each n));
          }
      go (no f) r = rw append_assoc (r (omega arith))

pub concat_map : {A X : Type 0} (g : A → List X) (xs : List A) → concat (map g xs) ≡ joined g xs
concat_map g [] = refl
concat_map g (x ∷ xs) = rw (concat_map g xs)

-- a list's elements one by one
pub joined_each : {X : Type 0} (l : List X) → joined (λ x. x ∷ []) l ≡ l
joined_each [] = refl
joined_each (x ∷ l) = rw (joined_each l)

module _ {A X : Type 0} (f : A → List X) where
  pub joined_append : (xs ys : List A) → joined f (xs ++ ys) ≡ joined f xs ++ joined f ys
  joined_append [] ys = refl
  joined_append (x ∷ xs) ys = rw (joined_append xs ys) (sym (append_assoc (f x) (joined f xs) (joined f ys)))

  -- the first things of a list, by their places
  pub joined_run : (d : A) (l : List A) (i : ℕ) → i ≤ length l → joined f (take i l) ≡ run i (λ j. f (get_or l j d))
  unfolding run
  joined_run d l zero h = refl
  joined_run d l (suc i) h =
      rw (take-suc l i d h, joined_append (take i l) (get_or l i d ∷ []), append-nil (f (get_or l i d)), joined_run d l i (omega arith))

-- ---- the loop that writes n pieces of at most w bytes each, from `at` on: i are written, and the next begins at `next`

module _ (w : ℕ) (piece : ℕ → List ℕ) (n at : ℕ) (out₀ : List ℕ) where
  pub record Running (out : List ℕ) (i next : ℕ) : Type 0 where
    pub room : at + n * w ≤ length out₀
    pub count : i ≤ n
    pub short : length (run i piece) ≤ i * w
    pub same : length out ≡ length out₀
    pub wrote : Wrote (run i piece) at out₀ next out

module _ {w : ℕ} {piece : ℕ → List ℕ} {n at : ℕ} {out₀ : List ℕ} where
  pub run_begun : at + n * w ≤ length out₀ → Running w piece n at out₀ out₀ 0 at
  unfolding run
  run_begun h = record { room = h; count = omega arith; short = omega arith; same = refl; wrote = wrote_none at }

  module _ {out : List ℕ} {i next : ℕ} (r : Running w piece n at out₀ out i next) where
    -- the next piece has room
    pub run_next : i < n → next + w ≤ length out
    run_next h = let m : suc i * w ≤ n * w = mul-le-mul_right w h in omega (arith, suc-mul i w, r, r.wrote.place)

    pub run_turn : {last : ℕ} {out₁ : List ℕ} → i < n → length (piece i) ≤ w → Wrote (piece i) next out last out₁ → Running w piece n at out₀ out₁ (i + 1) last
    unfolding run
    run_turn h s v =
        let l : length (run (suc i) piece) ≡ length (run i piece) + length (piece i) = length-append (run i piece) (piece i) in
        record {
          room = r.room;
          count = omega arith;
          short = rw (add-one i) (omega (arith, l, suc-mul i w, r.short));
          same = wrote_same (record { room = omega (arith, run_next h) }) v ∙ r.same;
          wrote = rw (add-one i) (wrote_then (omega (arith, r.room)) r.wrote v);
        }

    -- a piece of w bytes, over the front of the part that is left
    pub run_turn_lent : {ys : List ℕ} → i < n → length (piece i) ≡ w → ys ≡ onto (piece i) (part out next)
        → Running w piece n at out₀ (put out next ys) (i + 1) (next + w)
    run_turn_lent h k e = run_turn h (omega arith) (wrote_lent (piece i) out e (omega arith))

    pub run_ended : n ≤ i → Running w piece n at out₀ out n next
    run_ended h = let e : i ≡ n = omega (arith, r.count) in rw e at r

-- where the pieces are those of a list's elements
pub run_joined : {A : Type 0} (f : A → List ℕ) (d : A) (l : List A) {w n at : ℕ} {out₀ out : List ℕ} {i next : ℕ} → length l ≡ n
    → Running w (λ j. f (get_or l j d)) n at out₀ out i next → n ≤ i → Wrote (joined f l) at out₀ next out
run_joined f d l {n = n} e r h = rw (← (joined_run f d l n (omega arith)), take_all n l (omega arith)) at (run_ended r h).wrote
