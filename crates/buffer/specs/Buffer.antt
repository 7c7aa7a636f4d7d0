-- Definitions only.
-- A list laid over the front of a buffer, or over it from a place on; what a writer asks and promises; lists one after another; a test of every element;
-- what stands at a list's front.
use Rattle.std.specs.Prelude.{ℕ, zero, suc, ◌+◌, ◌≤◌, eqb, length, take, drop, Bool, true, false, ◌&&◌, cond, List, [], ◌∷◌, ◌++◌, ◌≡◌}

-- the list b written over the front of out; what lies beyond b stays
abbrev pub onto : {X : Type 0} → List X → List X → List X
onto b out = b ++ drop (length b) out

-- the same from the place `at` on; what lies before stays too
abbrev pub onto_at : {X : Type 0} → ℕ → List X → List X → List X
onto_at at b out = take at out ++ onto b (drop at out)

-- bytes b have room from `at` on
pub record Room (b : List ℕ) (at : ℕ) (out : List ℕ) : Type 0 where
  pub room : at + length b ≤ length out

-- what a writer promises: it wrote b from `at` on, changed nothing else, and returned the place behind it, which from the front is b's length
pub record Wrote (b : List ℕ) (at : ℕ) (before : List ℕ) (next : ℕ) (after : List ℕ) : Type 0 where
  pub place : next ≡ at + length b
  pub bytes : after ≡ onto_at at b before

-- the pieces 0 to n − 1, one behind the other
unfoldable pub run : {X : Type 0} → ℕ → (ℕ → List X) → List X
run zero piece = []
run (suc n) piece = run n piece ++ piece n

-- the lists that the parts of a list of things are, one after another
abbrev pub joined : {A X : Type 0} → (A → List X) → List A → List X
joined f [] = []
joined f (a ∷ rest) = f a ++ joined f rest

-- lists one after another
abbrev pub concat : {X : Type 0} → List (List X) → List X
concat lists = joined (λ l. l) lists

-- whether every element passes a test
unfoldable pub all : {X : Type 0} → (X → Bool) → List X → Bool
all p [] = true
all p (x ∷ xs) = p x && all p xs

-- how many elements at the front pass a test, up to the first that does not
unfoldable pub leading : {X : Type 0} → (X → Bool) → List X → ℕ
leading p [] = 0
leading p (x ∷ xs) = cond (p x) (suc (leading p xs)) 0

-- whether the list w stands at the front of a list
unfoldable pub begins_by : List ℕ → List ℕ → Bool
begins_by [] s = true
begins_by (c ∷ w) [] = false
begins_by (c ∷ w) (d ∷ s) = eqb d c && begins_by w s
