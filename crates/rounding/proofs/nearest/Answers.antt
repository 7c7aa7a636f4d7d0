-- `rounding::nearest` meets its contract. Where the quotient goes up, the divisor is at least 2, so that the next number fits.
-- Assumes nothing.
use Prim.Native.Nat.{◌/◌, ◌%◌, ◌≤◌}
use mathlib.Core.Path.{sym, ◌∙◌}
use native.Mathlib.Nat.{mod-lt, div-add-mod', mul-le-mul_left}
use native.Mathlib.Omega.{arith}
use Rattle.rounding.proofs.HalfLaws.{up_half}
use Rattle.rounding.proofs.Laws.{near_by}
use Rattle.rounding.proofs.nearest.Goals as goal

pub overflow_add-result : goal.overflow_add-result
overflow_add-result c =
    let g = c in
    let h = up_half (g.args.a / g.args.b) (g.args.a % g.args.b) g.args.b (sym c.rounds_up.ensures ∙ c.if-rounds_up.true) in
    let two : 2 ≤ g.args.b = omega (arith, mod-lt g.args.a g.requires) in
    record { fits = omega (arith, g.ranges.a.fits, div-add-mod' g.args.a g.args.b, mul-le-mul_left (g.args.a / g.args.b) two) }

pub returns-then-rounds_up : goal.returns-then-rounds_up
returns-then-rounds_up c =
    let g = c in
    sym (near_by g.args.a g.args.b g.requires ∙ rw (← c.rounds_up.ensures, c.if-rounds_up.true))

pub returns-else-rounds_up : goal.returns-else-rounds_up
returns-else-rounds_up c =
    let g = c in
    sym (near_by g.args.a g.args.b g.requires ∙ rw (← c.rounds_up.ensures, c.if-rounds_up.false) (omega arith))
