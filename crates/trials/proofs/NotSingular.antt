-- "Saying that refusal 8 proves a zero determinant: the working numbers are rounded." A case whose determinant is 1 is refused with 8.
-- Assumes nothing.
use Rattle.std.specs.Prelude.{ℤ, pos, ◌-ℤ◌, ◌*ℤ◌, get_or, List, [], ◌∷◌, ◌≡◌, refl}
use Rattle.casefile.specs.Case.{Case}
use Rattle.recordfile.specs.Layout.{longest_record}
use Rattle.trials.specs.Result.{refused, lent, found}
use Rattle.trials.specs.Trials.{two_tanks}

-- of two rows, row after row
abbrev pub determinant : List ℤ → ℤ
determinant A = get_or A 0 (pos 0) *ℤ get_or A 3 (pos 0) -ℤ get_or A 1 (pos 0) *ℤ get_or A 2 (pos 0)

-- rows (32,767, 1) and (32,766, 1)
abbrev pub near_equal : Case
near_equal = two_tanks (pos 32767 ∷ pos 1 ∷ pos 32766 ∷ pos 1 ∷ []) (pos 0 ∷ pos 0 ∷ [])

pub not_singular : (determinant near_equal.rows.A ≡ pos 1) × (found near_equal ≡ refused 8 (lent longest_record))
unfolding found
not_singular = (refl, refl)
