-- Definitions only.
-- Lists given by a rule for each place, as arrays that a loop fills from the front or from any place on, and how large their entries are.
use Rattle.std.specs.Prelude.{ℕ, zero, suc, ◌+◌, ◌≤◌, ltb, ℤ, pos, nat_abs, get_or, set, cond, List, [], ◌∷◌}

-- f at 0, 1, .., m - 1
abbrev pub table : {X : Type 0} → ℕ → (ℕ → X) → List X
table zero f = []
table (suc m) f = f 0 ∷ table m (λ i. f (suc i))

-- f at the places below n, z at the others
abbrev pub until : {X : Type 0} → ℕ → X → (ℕ → X) → ℕ → X
until n z f i = cond (ltb i n) (f i) z

-- m places, of which the first n hold f and the others z. With n = 0 and a literal m it is the array [z; m], by computation
unfoldable pub filled : {X : Type 0} → ℕ → ℕ → X → (ℕ → X) → List X
filled m n z f = table m (until n z f)

-- ---- filling from any place on

-- entries s, s + 1, .., m of them, set to what f says
unfoldable pub fill : {X : Type 0} → (ℕ → X) → ℕ → ℕ → List X → List X
fill f s zero l = l
fill f s (suc m) l = fill f (s + 1) m (set l s (f s))

-- ---- how large the entries are

-- no entry is larger than b, at any place (past the end 0 stands)
abbrev pub Within : ℕ → List ℤ → Type 0
Within b l = (j : ℕ) → nat_abs (get_or l j (pos 0)) ≤ b

abbrev pub AllWithin : ℕ → List (List ℤ) → Type 0
AllWithin b w = (i : ℕ) → Within b (get_or w i [])
