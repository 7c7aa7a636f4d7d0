-- `substitution::correction_of` meets its contract: the numerator, with the sum above the diagonal, does not wrap.
-- Assumes nothing.
use Rattle.std.specs.Prelude.{ℕ, ℤ, pos, ◌-ℤ◌, ◌*ℤ◌, get_or, List, ◌≡◌}
use Rattle.std.proofs.Common.{ap, ◌∙◌, to_z-of_z, arith}
use mir.Syntax.{w64}
use mir.Val.{SFits}
use Rattle.integers.specs.Signed.{read}
use Rattle.integers.specs.Size.{sfits_size, product_ok}
use Rattle.rounding.proofs.Laws.{defined}
use Rattle.elimination.specs.Steps.{working_scale}
use Rattle.substitution.proofs.BackwardLaws.{numerator_small, working_fits}
use Rattle.substitution.specs.Bounds.{Correctable}
use Rattle.substitution.specs.Passes.{sum_above_row, correction}
use Rattle.substitution.proofs.correction_of.Goals as goal

module _ {row : List ℤ} {z : ℤ} {d : List ℤ} {i n : ℕ} (h : Correctable row z d i n) where
  scaled : SFits w64 (pos working_scale *ℤ z)
  scaled = sfits_size (omega (arith, product_ok (pos working_scale) z working_scale _ (omega arith) h.right))

  numerator : SFits w64 (pos working_scale *ℤ z -ℤ sum_above_row row d i n)
  numerator = sfits_size (numerator_small row z d i n h)

  -- the numerator as the code forms it, with the sum s, and the pivot
  module _ (f : SFits w64 z) {s : ℤ} (e : s ≡ sum_above_row row d i n) (g : SFits w64 s) where
    read_difference : read (pos working_scale *ℤ read z) -ℤ read s ≡ pos working_scale *ℤ z -ℤ sum_above_row row d i n
    read_difference = rw (to_z-of_z f, to_z-of_z scaled, to_z-of_z g, e)

    read_numerator : read (read (pos working_scale *ℤ read z) -ℤ read s) ≡ pos working_scale *ℤ z -ℤ sum_above_row row d i n
    read_numerator = ap read read_difference ∙ to_z-of_z numerator

  read_pivot : read (get_or row i (pos 0)) ≡ get_or row i (pos 0)
  read_pivot = to_z-of_z (working_fits row d i n h.summable i)

pub overflow_sub-z : goal.overflow_sub-z
overflow_sub-z c =
    let s = c.sum_above-above in
    rw (read_difference c.requires c.ranges.z s.ensures (record { sfits = s.type_inv })) (numerator c.requires)

pub rounded_quotient-requires : goal.rounded_quotient-requires
rounded_quotient-requires c =
    let a = c.args in
    let s = c.sum_above-above in
    rw (read_numerator c.requires c.ranges.z s.ensures (record { sfits = s.type_inv }), read_pivot c.requires)
    (defined _ (get_or a.row.now a.i (pos 0)) (numerator_small a.row.now a.z a.d.now a.i a.n c.requires) c.requires.pivot)

pub returns : goal.returns
unfolding correction
returns c =
    let s = c.sum_above-above in
    let q = c.rounded_quotient in
    to_z-of_z {w = w64} (record { sfits = q.type_inv })
    ∙ q.ensures
    ∙ rw (read_numerator c.requires c.ranges.z s.ensures (record { sfits = s.type_inv }), read_pivot c.requires)
