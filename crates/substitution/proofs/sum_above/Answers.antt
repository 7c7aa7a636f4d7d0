-- `substitution::sum_above` meets its contract. The loop's invariant: s is the sum of exactly the products so far.
-- Assumes nothing.
use Rattle.std.specs.Prelude.{ℕ, suc, ◌+◌, ◌-◌, ◌<◌, ◌≤◌, ℤ, pos, ◌+ℤ◌, ◌*ℤ◌, get_or, List, ◌≡◌}
use Rattle.std.proofs.Common.{to_z-of_z, arith}
use mir.Syntax.{w64}
use mir.Val.{SFits}
use Rattle.integers.specs.Signed.{read}
use Rattle.integers.specs.Sums.{sum}
use Rattle.substitution.proofs.BackwardLaws.{working_fits, correction_fits, term_fits, sum_fits}
use Rattle.substitution.specs.Bounds.{Summable}
use Rattle.substitution.specs.Passes.{product_above}
use Rattle.substitution.proofs.sum_above.Goals as goal

-- in a turn: place j of the row and of the corrections
module _ {row d : List ℤ} {i n : ℕ} (h : Summable row d i n) (j : ℕ) (p : suc i ≤ j) (l : j < n) where
  abbrev term : ℤ
  term = get_or row j (pos 0) *ℤ get_or d j (pos 0)

  -- the product as the code forms it
  read_term : read (read (get_or row j (pos 0)) *ℤ read (get_or d j (pos 0))) ≡ term
  read_term = rw (to_z-of_z (working_fits row d i n h j), to_z-of_z (correction_fits row d i n h j)) (to_z-of_z (term_fits row d i n h j))

  more : sum (j + 1 - suc i) (product_above row d i) ≡ sum (j - suc i) (product_above row d i) +ℤ term
  more =
      let e : j + 1 - suc i ≡ suc (j - suc i) = omega arith in
      let f : suc i + (j - suc i) ≡ j = omega arith in
      rw (e, f)

  next : SFits w64 (sum (j - suc i) (product_above row d i) +ℤ term)
  next = rw more at (sum_fits row d i n h (j + 1 - suc i) (let q = h.columns in omega arith))

pub overflow_add-s : goal.overflow_add-s
overflow_add-s c =
    let j = c.loop-j.j in
    rw (c.loop-j.invariant, read_term c.requires j (omega arith) (omega arith)) (next c.requires j (omega arith) (omega arith))

pub loop-j-preserved : goal.loop-j-preserved
loop-j-preserved c =
    let j = c.loop-j.j in
    rw (c.loop-j.invariant, read_term c.requires j (omega arith) (omega arith), more c.requires j (omega arith) (omega arith))
    (to_z-of_z (next c.requires j (omega arith) (omega arith)))
