-- `judge::Equations::measure` meets its contract. The loop's invariant: the places below i hold residual and reach of their rows. Assumes nothing.
use Prim.Native.Nat.{ℕ, ◌<◌, ◌≤◌, ◌^◌}
use borrow.Author.Rules.{rules}
use lib.IntN.{ℤ, pos, nat_abs}
use lib.ListN.{get_or}
use mathlib.Core.List.{List}
use mathlib.Core.Path.{◌≡◌, refl, sym, ap, ◌∙◌}
use mir.Facts.{to_z-of_z}
use mir.Syntax.{w64}
use mir.Val.{SFits}
use native.Mathlib.Omega.{arith}
use Rattle.limits.specs.Limits.{most_tanks}
use Rattle.integers.specs.TableLaws.{get_d_filled}
use Rattle.integers.specs.Tables.{filled}
use Rattle.judge.proofs.Agreement.{same_residual, same_reach}
use Rattle.judge.proofs.Laws.{measurement_by_parts}
use Rattle.judge.specs.Magnitudes.{Magnitudes}
use Rattle.judge.specs.Places.{filling_begun, filling_turn, filling_ended}
use Rattle.judge.specs.Equations.{system_of, trial_for}
use Rattle.judge.specs.System.{Trial, row}
use Rattle.judge.proofs.Equations.measure.Goals as goal

-- the n figures that `widen` leaves are the trial's
same : (n : ℕ) (Y trial : List ℤ) → n ≤ most_tanks → Y ≡ filled most_tanks n (pos 0) (λ j. get_or trial j (pos 0))
    → (j : ℕ) → j < n → get_or Y j (pos 0) ≡ get_or trial j (pos 0)
same n Y trial h e j l =
    ap (λ (w : List ℤ). get_or w j (pos 0)) e ∙ get_d_filled (pos 0) (λ k. get_or trial k (pos 0)) most_tanks n j l (omega arith)

-- and beside them stand their absolute values
magnitudes_are : (n : ℕ) (Y trial : List ℤ) (m : List ℕ) → n ≤ most_tanks
    → Y ≡ filled most_tanks n (pos 0) (λ j. get_or trial j (pos 0))
    → m ≡ filled most_tanks n 0 (λ j. nat_abs (get_or trial j (pos 0)))
    → ((j : ℕ) → j < n → nat_abs (get_or trial j (pos 0)) ≤ 2 ^ 31)
    → Magnitudes n Y m
magnitudes_are n Y trial m h e q s =
    record {
      are = λ j l.
          ap (λ (w : List ℕ). get_or w j 0) q
          ∙ get_d_filled 0 (λ k. nat_abs (get_or trial k (pos 0))) most_tanks n j l (omega arith)
          ∙ ap nat_abs (sym (same n Y trial h e j l));
      small = λ j l. rw (same n Y trial h e j l) (s j l);
    }

pub loop-i-init : goal.loop-i-init
loop-i-init c = (filling_begun, filling_begun, refl)

pub measure_row-row-requires : goal.measure_row-row-requires
measure_row-row-requires c =
    let e = c.args.self.now in
    let w = c.widen-wide.ensures in
    (c.loop-i-test.true, magnitudes_are e.n _ _ _ e.small w.figures w.magnitudes w.small)

pub loop-i-preserved : goal.loop-i-preserved
loop-i-preserved c =
    let e = c.args.self.now in
    let l = c.loop-i in
    let r = c.measure_row-row.ensures in
    let wide : Trial = trial_for e c.widen-wide.result.figures in
    let is = same e.n _ c.args.trial.now.figures e.small c.widen-wide.ensures.figures in
    let fits_r : SFits w64 c.measure_row-row.result.residual = search rules in
    let taken = c.loop-i-test.true in (
      filling_turn l.invariant.0 e.small taken (to_z-of_z fits_r ∙ r.residual ∙ same_residual wide _ is (row (system_of e) l.i)),
      filling_turn l.invariant.1 e.small taken (r.reach ∙ same_reach wide _ is (row (system_of e) l.i)),
      l.invariant.2,
    )

pub returns-clause-measurement : goal.returns-clause-measurement
returns-clause-measurement c =
    let e = c.args.self.now in
    let left = c.loop-i-test.false in
    measurement_by_parts (system_of e) (trial_for e c.args.trial.now.figures) e.small _ _ _
    (filling_ended c.loop-i.invariant.0 left)
    (filling_ended c.loop-i.invariant.1 left)
    c.first_unmet.ensures
