-- `elimination::eliminate_row` meets its contract. The invariant: the columns so far are reduced, so that the others are as they were. Each
-- signed local holds bits, from which the laws of the bounds read its number back. Assumes nothing.
use Rattle.std.specs.Prelude.{ℕ, ◌+◌, ◌-◌, ◌<◌, ℤ, pos, ◌*ℤ◌, ◌-ℤ◌, get_or, set, List, ◌≡◌}
use Rattle.std.proofs.Common.{sym, ap, ◌∙◌, to_z-of_z, arith}
use mir.Syntax.{w64}
use mir.Val.{SFits}
use Rattle.integers.specs.Signed.{read}
use Rattle.integers.specs.Size.{sfits_size}
use Rattle.integers.specs.TableLaws.{fill_next, fill_left, fill_none}
use Rattle.integers.specs.Tables.{fill}
use Rattle.rounding.specs.Round.{rnd}
use Rattle.rounding.specs.Scale.{multiplier_scale}
use Rattle.elimination.proofs.Bounds.{top_le, row_le, multiplier_le, product_le, loss_le, reduced_le}
use Rattle.elimination.specs.Conditions.{RowEliminable}
use Rattle.elimination.specs.Steps.{multiplier, reduced_entry_of, eliminated_row}
use Rattle.elimination.proofs.eliminate_row.Goals as goal

module _ {top row : List ℤ} {k n : ℕ} (h : RowEliminable top row k n) where
  abbrev m' : ℤ
  m' = multiplier top row k

  abbrev top' : ℕ → ℤ
  top' j = get_or top j (pos 0)

  abbrev row' : ℕ → ℤ
  row' j = get_or row j (pos 0)

  top_fits : (j : ℕ) → SFits w64 (top' j)
  top_fits j = sfits_size (omega (arith, top_le _ _ _ _ h j))

  row_fits : (j : ℕ) → SFits w64 (row' j)
  row_fits j = sfits_size (omega (arith, row_le _ _ _ _ h j))

  m_fits : SFits w64 m'
  m_fits = sfits_size (omega (arith, multiplier_le _ _ _ _ h))

  product_fits : (j : ℕ) → SFits w64 (m' *ℤ top' j)
  product_fits j = sfits_size (omega (arith, product_le _ _ _ _ h j))

  loss_fits : (j : ℕ) → SFits w64 (rnd (m' *ℤ top' j) (pos multiplier_scale))
  loss_fits j = sfits_size (omega (arith, loss_le _ _ _ _ h j))

  reduced_fits : (j : ℕ) → SFits w64 (reduced_entry_of m' top row j)
  reduced_fits j = sfits_size (omega (arith, reduced_le _ _ _ _ h j))

  -- the multiplier, the product and the loss, as the code has them
  m_is : {r : ℤ} → r ≡ rnd (pos multiplier_scale *ℤ read (row' k)) (read (top' k)) → read r ≡ m'
  m_is e = ap read e ∙ rw (to_z-of_z (row_fits k), to_z-of_z (top_fits k)) (to_z-of_z m_fits)

  product_is : (r : ℤ) → read r ≡ m' → (j : ℕ) → read r *ℤ read (top' j) ≡ m' *ℤ top' j
  product_is r e j = rw (e, to_z-of_z (top_fits j))

  loss_is : (r z : ℤ) → read r ≡ m' → (j : ℕ) → z ≡ rnd (read (read r *ℤ read (top' j))) (pos multiplier_scale)
      → read z ≡ rnd (m' *ℤ top' j) (pos multiplier_scale)
  loss_is r z e j f = ap read f ∙ rw (product_is r e j, to_z-of_z (product_fits j)) (to_z-of_z (loss_fits j))

  -- an entry not reduced yet is as it was
  still : {l : List ℤ} {j : ℕ} → k < j → l ≡ fill (reduced_entry_of m' top row) (k + 1) (j - (k + 1)) row → get_or l j (pos 0) ≡ row' j
  still {l} {j} a e = rw e (fill_left _ (k + 1) j row (omega arith) (pos 0))

  reduced_is : {l : List ℤ} {j : ℕ} (r z : ℤ) → read r ≡ m' → k < j → l ≡ fill (reduced_entry_of m' top row) (k + 1) (j - (k + 1)) row
      → z ≡ rnd (read (read r *ℤ read (top' j))) (pos multiplier_scale)
      → read (get_or l j (pos 0)) -ℤ read z ≡ reduced_entry_of m' top row j
  reduced_is {l} {j} r z e a i f = rw (still {j = j} a i, to_z-of_z (row_fits j), loss_is r z e j f)

pub loop-j-init : goal.loop-j-init
loop-j-init c = sym (fill_none _ (c.args.k + 1) (c.args.k + 1) c.args.row.now (omega arith))

pub overflow_mul-m : goal.overflow_mul-m
overflow_mul-m c =
    let j = c.loop-j.j in
    rw (product_is c.requires _ (m_is c.requires c.multiplier_of-m.ensures) j) (product_fits c.requires j)

pub overflow_sub-row : goal.overflow_sub-row
overflow_sub-row c =
    let j = c.loop-j.j in
    let reduced =
    reduced_is c.requires c.multiplier_of-m.result c.rounded_by_scale.result (m_is c.requires c.multiplier_of-m.ensures)
    (omega arith) c.loop-j.invariant c.rounded_by_scale.ensures in
    rw reduced (reduced_fits c.requires j)

pub loop-j-preserved : goal.loop-j-preserved
loop-j-preserved c =
    let top = c.args.top.now in
    let row = c.args.row.now in
    let k = c.args.k in
    let j = c.loop-j.j in
    let reduced =
    reduced_is c.requires c.multiplier_of-m.result c.rounded_by_scale.result (m_is c.requires c.multiplier_of-m.ensures)
    (omega arith) c.loop-j.invariant c.rounded_by_scale.ensures in
    rw (reduced, to_z-of_z (reduced_fits c.requires j))
    (ap (λ (l : List ℤ). set l j (reduced_entry_of (multiplier top row k) top row j)) c.loop-j.invariant
    ∙ fill_next _ (k + 1) j row (omega arith))

pub returns : goal.returns
unfolding eliminated_row
returns c =
    let k = c.args.k in
    let e : c.loop-j.j - (k + 1) ≡ c.args.n - (k + 1) = omega arith in
    rw (m_is c.requires c.multiplier_of-m.ensures, ← e)
    (ap (λ (l : List ℤ). set l k (multiplier c.args.top.now c.args.row.now k)) c.loop-j.invariant)
