-- Tests of every element of a list: of its parts, of two lists put together, and at every place. Assumes nothing.
use Prim.Native.Nat.{ℕ, zero, suc, ◌<◌}
use Rattle.std.specs.Prelude.{length, get_or, take, drop, replicate, Bool, ◌&&◌, ◌≡◌}
use Rattle.std.proofs.Math.Bool.{true, false, and_assoc}
use Rattle.std.proofs.Common.{true≢false, sym, arith}
use Rattle.std.proofs.lemmas.Bool.{false≢true}
use mathlib.Core.List.{List, [], ◌∷◌, ◌++◌}
use Rattle.std.proofs.Math.Path.{refl}
use Rattle.buffer.specs.Buffer.{all}

pub and_true : (a b : Bool) → (a && b) ≡ true → (a ≡ true) × (b ≡ true)
and_true true b e = (refl, e)
and_true false b e = absurd (false≢true e)

-- one by one, for a search that runs them forwards
module _ (a b : Bool) (e : (a && b) ≡ true) where
  pub and_left : a ≡ true
  and_left = (and_true a b e).0

  pub and_right : b ≡ true
  and_right = (and_true a b e).1

module _ {X : Type 0} (p : X → Bool) where
  pub all_both : (a b : List X) → all p (a ++ b) ≡ (all p a && all p b)
  unfolding all
  all_both [] b = refl
  all_both (x ∷ a) b = rw (all_both a b) (sym (and_assoc (p x) (all p a) (all p b)))

  pub all_append : (a b : List X) → all p a ≡ true → all p b ≡ true → all p (a ++ b) ≡ true
  all_append a b e g = rw (all_both a b, e) g

  pub all_take : (n : ℕ) (l : List X) → all p l ≡ true → all p (take n l) ≡ true
  unfolding all
  all_take zero l e = refl
  all_take (suc n) [] e = refl
  all_take (suc n) (x ∷ l) e = let w = and_true (p x) (all p l) e in rw (w.0, all_take n l w.1)

  pub all_drop : (n : ℕ) (l : List X) → all p l ≡ true → all p (drop n l) ≡ true
  unfolding all
  all_drop zero l e = e
  all_drop (suc n) [] e = refl
  all_drop (suc n) (x ∷ l) e = all_drop n l (and_true (p x) (all p l) e).1

  pub all_replicate : (n : ℕ) (x : X) → p x ≡ true → all p (replicate n x) ≡ true
  unfolding all
  all_replicate zero x e = refl
  all_replicate (suc n) x e = rw e (all_replicate n x e)

  -- at every place, past the end too
  pub all_at : (d : X) → p d ≡ true → (l : List X) → all p l ≡ true → (i : ℕ) → p (get_or l i d) ≡ true
  unfolding all
  all_at d e [] h i = e
  all_at d e (x ∷ l) h zero = (and_true (p x) (all p l) h).0
  all_at d e (x ∷ l) h (suc i) = all_at d e l (and_true (p x) (all p l) h).1 i

  pub all_from : (d : X) (l : List X) → ((i : ℕ) → p (get_or l i d) ≡ true) → all p l ≡ true
  unfolding all
  all_from d [] h = refl
  all_from d (x ∷ l) h = rw (h 0) (all_from d l (λ i. h (suc i)))

  -- where not every element passes, there is a place of one that does not
  pub record Failing (d : X) (l : List X) : Type 0 where
    pub place : ℕ
    pub inside : place < length l
    pub fails : p (get_or l place d) ≡ false

  pub all_fails : (d : X) (l : List X) → all p l ≡ false → Failing d l
  unfolding all
  all_fails d [] e = absurd (true≢false e)
  all_fails d (x ∷ l) e = go (p x) refl (all_fails d l)
    where
      go : (b : Bool) → p x ≡ b → (all p l ≡ false → Failing d l) → Failing d (x ∷ l)
      go false q r = record { place = 0; inside = omega arith; fails = q }
      go true q r = let f = r (rw q at e) in record { place = suc f.place; inside = omega (arith, f.inside); fails = f.fails }
