-- `substitution::backward_pass` meets its contract. The loop's invariant: the corrections left to form, from those formed, give the whole.
-- Assumes nothing.
use Rattle.std.specs.Prelude.{ℕ, suc, ◌-◌, ◌<◌, ◌≤◌, ℤ, pos, nat_abs, get_or, set, List, [], false, ◌≡◌, refl}
use Rattle.std.proofs.Common.{sym, ap, ◌∙◌, to_z-of_z, arith}
use mir.Syntax.{w64}
use mir.Val.{SFits, to_z, of_z}
use Rattle.limits.specs.Limits.{most_tanks}
use Rattle.integers.specs.Size.{sfits_size}
use Rattle.integers.specs.TableLaws.{zeros_within, within_set}
use Rattle.integers.specs.Tables.{Within}
use Rattle.substitution.proofs.BackwardLaws.{backward_more, backward_stop, backward_done}
use Rattle.substitution.specs.Bounds.{forward_bound}
use Rattle.substitution.specs.Passes.{correction, correction_at, correction_limit, corrections, backward_from, backward}
use Rattle.substitution.proofs.backward_pass.Goals as goal

module _ (w : List (List ℤ)) (z : List ℤ) (n left : ℕ) (d : List ℤ) where
  abbrev value : ℤ
  value = correction_at w z n (left - 1) d

  -- what is formed, as the code reads it
  read_value : {r : ℤ} → Within (forward_bound 7) z → SFits w64 r
      → r ≡ correction (get_or w (left - 1) []) (to_z w64 (of_z w64 (get_or z (left - 1) (pos 0)))) d (left - 1) n → to_z w64 (of_z w64 r) ≡ value
  read_value h f e =
      let g : SFits w64 (get_or z (left - 1) (pos 0)) = sfits_size (omega (arith, h (left - 1))) in
      to_z-of_z f ∙ rw (to_z-of_z g) at e

  module _ (p : 0 < left) (e : backward_from w z n left d ≡ backward w z n) where
    left_is : backward_from w z n (suc (left - 1)) d ≡ backward w z n
    left_is = let l : left ≡ suc (left - 1) = omega arith in rw l at e

    stop : correction_limit < nat_abs value → corrections false d ≡ backward w z n
    stop h = sym (backward_stop w z n (left - 1) d h) ∙ left_is

    more : nat_abs value ≤ correction_limit → backward_from w z n (left - 1) (set d (left - 1) value) ≡ backward w z n
    more h = sym (backward_more w z n (left - 1) d h) ∙ left_is

pub loop-i-init : goal.loop-i-init
unfolding backward
loop-i-init c = (zeros_within most_tanks, refl)

pub returns-then-magnitude-gt-CORRECTION_LIMIT : goal.returns-then-magnitude-gt-CORRECTION_LIMIT
returns-then-magnitude-gt-CORRECTION_LIMIT c =
    let w = c.args.working.now in
    let z = c.args.z.now in
    let n = c.args.n in
    let l = c.loop-i in
    let v = c.correction_of-v in
    let e = ap nat_abs (read_value w z n l.i l.d c.requires.right (record { sfits = v.type_inv }) v.ensures) in
    stop w z n l.i l.d c.loop-i-test.true l.invariant.1 (omega arith)

pub loop-i-preserved : goal.loop-i-preserved
loop-i-preserved c =
    let w = c.args.working.now in
    let z = c.args.z.now in
    let n = c.args.n in
    let l = c.loop-i in
    let v = c.correction_of-v in
    let r = read_value w z n l.i l.d c.requires.right (record { sfits = v.type_inv }) v.ensures in
    let h : nat_abs (value w z n l.i l.d) ≤ correction_limit = omega (arith, ap nat_abs r) in
    rw r (
      within_set l.d (l.i - 1) (value w z n l.i l.d) h l.invariant.0,
      more w z n l.i l.d c.loop-i-test.true l.invariant.1 h,
    )

pub returns : goal.returns
returns c =
    let l : c.loop-i.i ≡ 0 = omega arith in
    sym (rw l at (sym c.loop-i.invariant.1) ∙ backward_done c.args.working.now c.args.z.now c.args.n c.loop-i.d)
