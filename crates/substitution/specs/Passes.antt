-- Definitions only.
-- Substitution with an eliminated working matrix W: the forward and the backward pass of document 01's "The steps". The multipliers M stand below the diagonal
-- of W. Rows are counted from 0.
use Rattle.std.specs.Prelude.{ℕ, zero, suc, ◌+◌, ◌-◌, leb, ℤ, pos, nat_abs, ◌-ℤ◌, ◌*ℤ◌, get_or, set, replicate, Bool, true, false, cond, List, []}
use Rattle.limits.specs.Limits.{most_tanks}
use Rattle.integers.specs.Sums.{sum}
use Rattle.rounding.specs.Round.{rnd}
use Rattle.rounding.specs.Scale.{multiplier_scale}
use Rattle.elimination.specs.Steps.{working_scale}

-- ---- forward: "From the top, z(i) loses rnd(M(i,j) × z(j) / 16,384) for j = 1 to i − 1 in turn."

-- what a row loses by its multiplier j
abbrev pub loss : List ℤ → List ℤ → ℕ → ℤ
loss row z j = rnd (get_or row j (pos 0) *ℤ get_or z j (pos 0)) (pos multiplier_scale)

-- s after the losses by the first j multipliers
abbrev pub after_losses : List ℤ → List ℤ → ℤ → ℕ → ℤ
after_losses row z s zero = s
after_losses row z s (suc j) = after_losses row z s j -ℤ loss row z j

-- z with entry i reduced
abbrev pub reduce_entry : List (List ℤ) → ℕ → List ℤ → List ℤ
reduce_entry w i z = set z i (after_losses (get_or w i []) z (get_or z i (pos 0)) i)

-- the right-hand side z with its first i entries reduced, from the top
unfoldable pub forward : List (List ℤ) → List ℤ → ℕ → List ℤ
forward w z zero = z
forward w z (suc i) = reduce_entry w i (forward w z i)

-- ---- backward: "From the bottom, d(i) = rnd((256 × z(i) − sum over j above i of W(i,j) × d(j)) / W(i,i)), and its limit is checked as soon as
-- it is formed."

-- the corrections, and whether all of them were formed, each within its limit
pub record Corrections : Type 0 where
  pub within : Bool
  pub values : List ℤ

abbrev pub corrections : Bool → List ℤ → Corrections
corrections b d = record { within = b; values = d }

-- before any is formed
abbrev pub no_corrections : List ℤ
no_corrections = replicate most_tanks (pos 0)

-- "A correction is outside ±20,000,000"
abbrev pub correction_limit : ℕ
correction_limit = 20000000

-- the product of the row's entry and the correction, m places above i
abbrev pub product_above : List ℤ → List ℤ → ℕ → ℕ → ℤ
product_above row d i m = get_or row (suc i + m) (pos 0) *ℤ get_or d (suc i + m) (pos 0)

-- the sum over j above i, of n columns
abbrev pub sum_above_row : List ℤ → List ℤ → ℕ → ℕ → ℤ
sum_above_row row d i n = sum (n - suc i) (product_above row d i)

-- d(i), from the entry z of the right-hand side and the corrections above
unfoldable pub correction : List ℤ → ℤ → List ℤ → ℕ → ℕ → ℤ
correction row z d i n = rnd (pos working_scale *ℤ z -ℤ sum_above_row row d i n) (get_or row i (pos 0))

abbrev pub correction_at : List (List ℤ) → List ℤ → ℕ → ℕ → List ℤ → ℤ
correction_at w z n i d = correction (get_or w i []) (get_or z i (pos 0)) d i n

-- with i corrections left to form: the first that is outside its limit ends the pass
unfoldable pub backward_from : List (List ℤ) → List ℤ → ℕ → ℕ → List ℤ → Corrections
backward_from w z n zero d = corrections true d
backward_from w z n (suc i) d =
    cond (leb (nat_abs (correction_at w z n i d)) correction_limit)
    (backward_from w z n i (set d i (correction_at w z n i d)))
    (corrections false d)

-- all of them, from the last row to the first; a correction that is not formed stands as 0
unfoldable pub backward : List (List ℤ) → List ℤ → ℕ → Corrections
backward w z n = backward_from w z n n no_corrections
