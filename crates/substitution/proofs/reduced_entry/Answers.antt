-- `substitution::reduced_entry` meets its contract. The loop's invariant: s is the entry after the losses by the first j multipliers.
-- Assumes nothing.
use Rattle.std.specs.Prelude.{ℕ, suc, ◌<◌, ℤ, pos, ◌-ℤ◌, ◌*ℤ◌, get_or, List, ◌≡◌}
use Rattle.std.proofs.Common.{ap, ◌∙◌, to_z-of_z, add-one, arith}
use mir.Syntax.{w64}
use mir.Val.{SFits}
use Rattle.rounding.specs.Round.{rnd}
use Rattle.rounding.specs.Scale.{multiplier_scale}
use Rattle.integers.specs.Signed.{read}
use Rattle.integers.specs.Size.{sfits_size}
use Rattle.substitution.specs.Bounds.{Reducible}
use Rattle.substitution.proofs.ForwardLaws.{multiplier_fits, entry_fits, product_small, loss_fits, reduced_fits}
use Rattle.substitution.specs.Passes.{loss, after_losses}
use Rattle.substitution.proofs.reduced_entry.Goals as goal

-- in a turn: place j of the row and of the right-hand side
module _ {row z : List ℤ} {i : ℕ} (h : Reducible row z i) (j : ℕ) (l : j < i) where
  product : SFits w64 (get_or row j (pos 0) *ℤ get_or z j (pos 0))
  product = sfits_size (product_small row z i h j l)

  next : SFits w64 (after_losses row z (get_or z i (pos 0)) j -ℤ loss row z j)
  next = reduced_fits row z i h (suc j) (omega arith)

  -- the product as the code forms it, and the loss
  read_factors : read (get_or row j (pos 0)) *ℤ read (get_or z j (pos 0)) ≡ get_or row j (pos 0) *ℤ get_or z j (pos 0)
  read_factors = rw (to_z-of_z (multiplier_fits row z i h j l), to_z-of_z (entry_fits row z i h j l))

  read_loss : {r : ℤ} → r ≡ rnd (read (read (get_or row j (pos 0)) *ℤ read (get_or z j (pos 0)))) (pos multiplier_scale) → read r ≡ loss row z j
  read_loss e = ap read e ∙ rw (read_factors, to_z-of_z product) (to_z-of_z (loss_fits row z i h j l))

pub overflow_mul-row : goal.overflow_mul-row
overflow_mul-row c =
    let j = c.loop-j.j in
    rw (read_factors c.requires j (omega arith)) (product c.requires j (omega arith))

pub overflow_sub-s : goal.overflow_sub-s
overflow_sub-s c =
    let j = c.loop-j.j in
    rw (c.loop-j.invariant, read_loss c.requires j (omega arith) c.rounded_by_scale-s.ensures) (next c.requires j (omega arith))

pub loop-j-preserved : goal.loop-j-preserved
loop-j-preserved c =
    let j = c.loop-j.j in
    rw (c.loop-j.invariant, read_loss c.requires j (omega arith) c.rounded_by_scale-s.ensures, add-one)
    (to_z-of_z (next c.requires j (omega arith)))
