-- Definitions only.
-- The depth of an answer in a table of kilograms for each centimetre: document 02, "Soundings for the mate". An answer Y means Y / D tonnes, so
-- Y × 1,000 / D kilograms; both sides are multiplied by D, and nothing is rounded.
use Rattle.std.specs.Prelude.{ℕ, zero, suc, ◌+◌, ◌*◌, ◌-◌, ◌<◌, ◌≤◌, ℤ, pos, ◌*ℤ◌, length, get_or, Bool, true, ◌&&◌, cond, List, ◌≡◌}
use Rattle.std.specs.Int.Signed.{le_z}

abbrev pub kilograms_in_tonne : ℕ
kilograms_in_tonne = 1000

-- the entry at a depth
abbrev pub entry_at : List ℕ → ℕ → ℕ
entry_at table h = get_or table h 0

-- the entry is "not above Y × 1,000 / D kilograms"
abbrev pub not_above : ℕ → ℤ → ℕ → Bool
not_above D Y entry = le_z (pos (entry * D)) (Y *ℤ pos kilograms_in_tonne)

-- the greatest of the places below n that passes a test, 0 where none does
abbrev pub greatest_below : (ℕ → Bool) → ℕ → ℕ
greatest_below p zero = 0
greatest_below p (suc h) = cond (p h) h (greatest_below p h)

-- "each tank's greatest depth whose entry is not above": of any table
unfoldable pub depth : List ℕ → ℕ → ℤ → ℕ
depth table D Y = greatest_below (λ h. not_above D Y (entry_at table h)) (length table)

-- the table's last entry
abbrev pub last_entry : List ℕ → ℕ
last_entry table = entry_at table (length table - 1)

-- not "negative or above the entry for" the greatest depth
abbrev pub inside : List ℕ → ℕ → ℤ → Bool
inside table D Y = le_z (pos 0) Y && le_z (Y *ℤ pos kilograms_in_tonne) (pos (last_entry table * D))

-- a table that does not fall
pub record NonDecreasing (table : List ℕ) : Type 0 where
  pub next : (h : ℕ) → h + 1 < length table → entry_at table h ≤ entry_at table (h + 1)

-- what the search by halving asks: a table that does not fall, and that has a first entry, which is not above
pub record Searchable (table : List ℕ) (D : ℕ) (Y : ℤ) : Type 0 where
  pub ordered : NonDecreasing table
  pub some : 0 < length table
  pub first : not_above D Y (entry_at table 0) ≡ true
