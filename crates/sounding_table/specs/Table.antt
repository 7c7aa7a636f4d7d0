-- Definitions only.
-- The reference tank: document 02, "Soundings for the mate"; and the test of a whole table by its rule.
use Rattle.std.specs.Prelude.{ℕ, suc, ◌+◌, ◌*◌, eqb, length, Bool, true, ◌&&◌, List, [], ◌∷◌}
use Rattle.integers.specs.Tables.{table}

-- "401 entries, depth h from 0 to 400 centimetres"
abbrev pub reference_entries : ℕ
reference_entries = 401

-- "entry 900 × h + h × h kilograms"
abbrev pub reference_entry : ℕ → ℕ
reference_entry h = 900 * h + h * h

unfoldable pub reference_tank_entries : List ℕ
reference_tank_entries = table reference_entries reference_entry

-- whether each entry of a table, counted from h, is what a rule says
abbrev pub follows : (ℕ → ℕ) → ℕ → List ℕ → Bool
follows rule h [] = true
follows rule h (x ∷ rest) = eqb x (rule h) && follows rule (suc h) rest

-- "The rule of the entries is to be shown for the entire table": the test of every entry, and that nothing else is in the table
abbrev pub is_reference_tank : List ℕ → Bool
is_reference_tank t = eqb (length t) reference_entries && follows reference_entry 0 t
