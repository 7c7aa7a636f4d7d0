-- `judge::widen` meets its contract. The loop's invariant: the places below j hold the trial's figures, each of which fits 32 bits, and their
-- absolute values, those behind them zeros. Assumes nothing.
use Prim.Native.Nat.{◌^◌, ◌≤◌}
use borrow.Author.Count.{below_more}
use borrow.Author.Rules.{rules}
use lib.IntN.{pos, nat_abs}
use lib.ListN.{get_or}
use mathlib.Core.Path.{ap, ◌∙◌}
use mir.Syntax.{w32}
use mir.Val.{SFits}
use native.Mathlib.Omega.{arith}
use Rattle.integers.specs.Signed.{wide_is}
use Rattle.integers.specs.Size.{size_sfits}
use Rattle.judge.specs.Places.{filling_begun, filling_turn}
use Rattle.judge.proofs.widen.Goals as goal

pub loop-j-init : goal.loop-j-init
loop-j-init c = (filling_begun, filling_begun, λ k l. absurd (omega arith))

pub loop-j-preserved : goal.loop-j-preserved
loop-j-preserved c =
    let l = c.loop-j in
    let y = get_or c.args.trial.now l.j (pos 0) in
    let fits : SFits w32 y = search rules in
    let y_is = wide_is w32 tt y fits in
    let taken = c.loop-j-test.true in (
      filling_turn l.invariant.0 c.requires taken y_is,
      filling_turn l.invariant.1 c.requires taken (c.magnitude.ensures ∙ ap nat_abs y_is),
      below_more (λ k. nat_abs (get_or c.args.trial.now k (pos 0)) ≤ 2 ^ 31) l.j l.invariant.2 (size_sfits fits),
    )
