-- `judge::Equations::measure_row` meets its contract: the two sums are at most 2 ^ 49 and 2 ^ 50 in size, so that with D b and D f nothing wraps.
-- Assumes nothing.
use Prim.Native.Nat.{◌+◌, ◌^◌, ◌≤◌}
use borrow.Author.Rules.{rules}
use lib.IntN.{ℤ, pos, nat_abs, ◌-ℤ◌}
use lib.ListN.{get_or}
use mathlib.Core.Path.{◌≡◌, ap₂, ◌∙◌}
use mir.Facts.{to_z-of_z}
use mir.Syntax.{w32, w64}
use mir.Val.{SFits, to_z, of_z}
use native.Mathlib.Omega.{arith}
use Rattle.integers.specs.Size.{at_most, bounds, sfits_by}
use Rattle.judge.specs.System.{residual, reach}
use Rattle.judge.proofs.Equations.measure_row.Goals as goal

-- a difference of numbers of these sizes, read from its bits
differ : (x p : ℤ) → SFits w64 x → SFits w64 p → nat_abs x ≤ 2 ^ 47 → nat_abs p ≤ 2 ^ 49
    → to_z w64 (of_z w64 (to_z w64 (of_z w64 x) -ℤ to_z w64 (of_z w64 p))) ≡ x -ℤ p
differ x p f g h k =
    let s = at_most x (2 ^ 47) h in
    let t = at_most p (2 ^ 49) k in
    let d : SFits w64 (x -ℤ p) = sfits_by (search bounds) tt in
    rw (to_z-of_z f, to_z-of_z g) (to_z-of_z d)

pub returns-clause-residual : goal.returns-clause-residual
unfolding residual
returns-clause-residual c =
    let e = c.args.self.now in
    let x = c.scaled.result in
    let p = c.row_sums-sums.result.products in
    let fits_x : SFits w64 x = search rules in
    let fits_p : SFits w64 p = search rules in
    let fits_b : SFits w32 (get_or e.right_hand_side.values c.args.i (pos 0)) = search rules in
    -- D b
    let x_is = rw (to_z-of_z fits_b) at c.scaled.ensures.0 in
    differ x p fits_x fits_p c.scaled.ensures.1 (omega (arith, c.row_sums-sums.ensures.small.0, e.small))
    ∙ ap₂ (λ x p. x -ℤ p) x_is c.row_sums-sums.ensures.products

pub returns-clause-reach : goal.returns-clause-reach
unfolding reach
returns-clause-reach c = ap₂ (λ x w. x + w) c.scaled_tolerance.ensures.0 c.row_sums-sums.ensures.weights
