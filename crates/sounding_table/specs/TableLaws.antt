-- One test of the whole table gives the rule at each entry; the reference tank does not fall, and its first and last entries. Assumes nothing.
use Rattle.std.specs.Prelude.{ℕ, zero, suc, ◌+◌, ◌<◌, ◌≤◌, eqb, length, get_or, true, List, [], ◌∷◌, ◌≡◌}
use Rattle.std.proofs.Common.{eqb-true, ext_get_or, sym, ap, ◌∙◌, add-zero, zero-add, mul-le-mul, arith}
use Rattle.buffer.specs.AllLaws.{and_left, and_right}
use Rattle.integers.specs.TableLaws.{length_table, get_d_table}
use Rattle.sounding_table.specs.Depth.{entry_at, last_entry, NonDecreasing}
use Rattle.sounding_table.specs.Table.{reference_entries, reference_entry, reference_tank_entries, follows, is_reference_tank}

-- ---- from the test to each entry

follows_at : (rule : ℕ → ℕ) (t : List ℕ) (h : ℕ) → follows rule h t ≡ true → (k : ℕ) → k < length t → get_or t k 0 ≡ rule (h + k)
follows_at rule [] h e k l = absurd (omega arith)
follows_at rule (x ∷ t) h e zero l = rw add-zero (eqb-true x (rule h) (and_left (eqb x (rule h)) (follows rule (suc h) t) e))
follows_at rule (x ∷ t) h e (suc k) l =
    let q : suc h + k ≡ h + suc k = omega arith in
    follows_at rule t (suc h) (and_right (eqb x (rule h)) (follows rule (suc h) t) e) k (omega arith) ∙ ap rule q

-- a table that passes is the reference tank, and nothing else is in it
pub is_reference_tank_lem : (t : List ℕ) → is_reference_tank t ≡ true → t ≡ reference_tank_entries
unfolding reference_tank_entries
is_reference_tank_lem t e =
    let counted = eqb (length t) reference_entries in
    let ruled = follows reference_entry 0 t in
    let l : length t ≡ reference_entries = eqb-true (length t) reference_entries (and_left counted ruled e) in
    ext_get_or 0 t reference_tank_entries (l ∙ sym (length_table reference_entries reference_entry)) λ h k.
    follows_at reference_entry t 0 (and_right counted ruled e) h k ∙ ap reference_entry (zero-add h) ∙ sym (get_d_table reference_entries reference_entry h 0 (omega arith))

-- ---- the reference tank

pub reference_length : length reference_tank_entries ≡ reference_entries
unfolding reference_tank_entries
reference_length = length_table reference_entries reference_entry

-- "for every h from 0 to 400"
pub reference_entry_lem : (h : ℕ) → h < reference_entries → entry_at reference_tank_entries h ≡ reference_entry h
unfolding reference_tank_entries
reference_entry_lem h l = get_d_table reference_entries reference_entry h 0 l

pub reference_last : last_entry reference_tank_entries ≡ 520000
reference_last = rw reference_length (reference_entry_lem 400 (omega arith))

-- the rule does not fall, so neither does the table
pub reference_entry_le : (g h : ℕ) → g ≤ h → reference_entry g ≤ reference_entry h
reference_entry_le g h l = omega (arith, mul-le-mul {n₁ = g} {m₁ = g} {n₂ = h} {m₂ = h} l l)

pub reference_ordered : NonDecreasing reference_tank_entries
reference_ordered =
    record {
      next = λ h l.
          let k : h + 1 < reference_entries = omega (arith, reference_length) in
          rw (reference_entry_lem h (omega arith), reference_entry_lem (h + 1) k) (reference_entry_le h (h + 1) (omega arith));
    }
