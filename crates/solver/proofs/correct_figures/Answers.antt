-- `solver::correct_figures` meets its contract. The loop's invariant: the figures left to form, from those formed, give the whole.
-- Assumes nothing.
use Prim.Native.Nat.{ℕ, ◌≤◌}
use lib.IntN.{ℤ, pos, nat_abs, ◌+ℤ◌}
use lib.ListN.{get_or}
use mathlib.Core.List.{List}
use mathlib.Core.Path.{◌≡◌, sym, ◌∙◌}
use mir.Facts.{to_z-of_z}
use mir.Syntax.{w32, w64}
use mir.Val.{SFits, to_z, of_z}
use native.Mathlib.Omega.{arith}
use Rattle.integers.specs.Size.{sfits_size, sum_ok}
use Rattle.integers.specs.TableLaws.{within_set}
use Rattle.substitution.specs.Passes.{correction_limit}
use Rattle.solver.proofs.Laws.{corrected_more, corrected_stop, corrected_done}
use Rattle.solver.specs.Refinement.{figure_limit, corrected_figure}
use Rattle.solver.proofs.correct_figures.Goals as goal

-- what is read of a figure y and its correction d: their sum; and a sum within the limit is stored as it is
module _ (y d : ℤ) (h : nat_abs y ≤ figure_limit) (k : nat_abs d ≤ correction_limit) where
  read : to_z w64 (of_z w64 (to_z w64 (of_z w64 (to_z w32 (of_z w32 y))) +ℤ to_z w64 (of_z w64 d))) ≡ y +ℤ d
  read =
      let narrow : SFits w32 y = sfits_size (omega (arith, h)) in
      let wide : SFits w64 y = sfits_size (omega (arith, h)) in
      let correction : SFits w64 d = sfits_size (omega (arith, k)) in
      let sum : SFits w64 (y +ℤ d) = sfits_size (omega (arith, sum_ok y d _ _ h k)) in
      rw (to_z-of_z narrow, to_z-of_z wide, to_z-of_z correction) (to_z-of_z sum)

  stored : nat_abs (y +ℤ d) ≤ figure_limit → to_z w32 (of_z w32 (y +ℤ d)) ≡ y +ℤ d
  stored l = to_z-of_z {w = w32} (sfits_size (omega (arith, l)))

pub returns-then-magnitude-gt-TRIAL_LIMIT : goal.returns-then-magnitude-gt-TRIAL_LIMIT
returns-then-magnitude-gt-TRIAL_LIMIT c =
    let y' : List ℤ = c.loop-j.trial in
    let d' : List ℤ = c.args.corrections.now in
    let j' : ℕ = c.loop-j.j in
    let e = rw (read (get_or y' j' (pos 0)) (get_or d' j' (pos 0)) (c.loop-j.invariant.1 j') (c.requires.corrections j')) at c.magnitude.ensures in
    sym (sym c.loop-j.invariant.2 ∙ corrected_stop d' j' c.args.n y' c.loop-j-test.true (rw e at c.if-magnitude-gt-TRIAL_LIMIT.true))

pub loop-j-preserved : goal.loop-j-preserved
loop-j-preserved c =
    let y' : List ℤ = c.loop-j.trial in
    let d' : List ℤ = c.args.corrections.now in
    let j' : ℕ = c.loop-j.j in
    let h = c.loop-j.invariant.1 j' in
    let k = c.requires.corrections j' in
    let r = read (get_or y' j' (pos 0)) (get_or d' j' (pos 0)) h k in
    let kept : nat_abs (corrected_figure y' d' j') ≤ figure_limit = rw (rw r at c.magnitude.ensures) at c.if-magnitude-gt-TRIAL_LIMIT.false in
    rw (r, stored (get_or y' j' (pos 0)) (get_or d' j' (pos 0)) h k kept) (
      omega arith,
      within_set y' j' (corrected_figure y' d' j') kept c.loop-j.invariant.1,
      sym (corrected_more d' j' c.args.n y' c.loop-j-test.true kept) ∙ c.loop-j.invariant.2,
    )

pub returns : goal.returns
returns c =
    sym (sym c.loop-j.invariant.2 ∙ corrected_done c.args.corrections.now c.loop-j.j c.args.n c.loop-j.trial (omega arith))
