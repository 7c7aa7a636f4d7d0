-- `elimination::fill_row` meets its contract. The invariant: the columns so far are filled, and the row is within the bound. A coefficient's
-- range is told where it is read. Assumes nothing.
use Rattle.std.specs.Prelude.{ℕ, ◌+◌, ◌*◌, ◌-◌, ◌^◌, ℤ, pos, ◌*ℤ◌, get_or, set, List, ◌≡◌}
use Rattle.std.proofs.Common.{sym, ap, ◌∙◌, to_z-of_z, arith}
use mir.Syntax.{w16, w64}
use mir.Val.{SFits}
use Rattle.limits.specs.Limits.{most_tanks}
use Rattle.integers.specs.Signed.{wide_is}
use Rattle.integers.specs.Size.{at_most, bounds, product_ok, size_sfits, sfits_by}
use Rattle.integers.specs.TableLaws.{fill_next, fill_none, zeros_within, within_set}
use Rattle.integers.specs.Tables.{fill}
use Rattle.elimination.specs.Steps.{working_scale, scaled_coefficient, working_row, zero_row}
use Rattle.elimination.proofs.fill_row.Goals as goal

pub loop-j-init : goal.loop-j-init
loop-j-init c = (
  rw c.requires.2 (zeros_within most_tanks),
  c.requires.2 ∙ sym (fill_none (scaled_coefficient c.args.n c.args.coefficients.now c.args.i) 0 0 zero_row (omega arith)),
)

pub loop-j-preserved : goal.loop-j-preserved
loop-j-preserved c =
    let s = c.args in
    let j = c.loop-j.j in
    let z : ℤ = get_or s.coefficients.now (s.i * s.n + j) (pos 0) in
    let f : SFits w16 z = record { sfits = omega arith } in
    let b = at_most z (2 ^ 15) (size_sfits f) in
    let g : SFits w64 (pos working_scale *ℤ z) = sfits_by (search bounds) tt in
    rw (c.from.ensures, wide_is w16 tt z f, to_z-of_z g) (
      within_set c.loop-j.row j (pos working_scale *ℤ z)
          (product_ok (pos working_scale) z working_scale (2 ^ 15) (omega arith) (size_sfits f)) c.loop-j.invariant.0,
      ap (λ (l : List ℤ). set l j (pos working_scale *ℤ z)) c.loop-j.invariant.1
          ∙ fill_next (scaled_coefficient s.n s.coefficients.now s.i) 0 j zero_row (omega arith),
    )

pub returns : goal.returns
unfolding working_row
returns c =
    let s = c.args in
    let e : c.loop-j.j - 0 ≡ s.n = omega arith in
    record {
      is = c.loop-j.invariant.1 ∙ ap (λ (m : ℕ). fill (scaled_coefficient s.n s.coefficients.now s.i) 0 m zero_row) e;
      in_bound = c.loop-j.invariant.0;
    }
