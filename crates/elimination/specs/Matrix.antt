-- Definitions only.
-- A matrix as a list of rows.
use Rattle.std.specs.Prelude.{ℕ, ℤ, pos, get_or, List, []}

-- the entry of row i, column j
abbrev pub at : List (List ℤ) → ℕ → ℕ → ℤ
at w i j = get_or (get_or w i []) j (pos 0)
