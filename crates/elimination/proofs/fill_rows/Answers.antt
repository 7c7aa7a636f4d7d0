-- `elimination::fill_rows` meets its contract. The invariant: the rows so far are filled, so that the others are zeros, and all are within
-- the bound. Assumes nothing.
use Rattle.std.specs.Prelude.{ℕ, ◌-◌, ℤ, set, List, [], ◌≡◌}
use Rattle.std.proofs.Common.{sym, ap, ◌∙◌, arith}
use Rattle.std.proofs.Math.ListN.{get_or-replicate}
use Rattle.limits.specs.Limits.{most_tanks}
use Rattle.integers.specs.TableLaws.{fill_next, fill_left, all_set_at, fill_none, all_zeros_within}
use Rattle.integers.specs.Tables.{fill, Within}
use Rattle.elimination.specs.Conditions.{bound}
use Rattle.elimination.specs.Steps.{working_row, working_matrix, zero_row, zero_rows}
use Rattle.elimination.proofs.fill_rows.Goals as goal

pub loop-i-init : goal.loop-i-init
loop-i-init c = (
  rw c.requires.1 (all_zeros_within most_tanks most_tanks),
  c.requires.1 ∙ sym (fill_none (working_row c.args.n c.args.coefficients.now) 0 0 zero_rows (omega arith)),
)

pub fill_row-requires : goal.fill_row-requires
fill_row-requires c =
    let s = c.args in
    let i = c.loop-i.i in (
      omega arith,
      omega arith,
      rw c.loop-i.invariant.1
          (fill_left (working_row s.n s.coefficients.now) 0 i zero_rows (omega arith) []
          ∙ get_or-replicate most_tanks i zero_row [] (omega arith)),
    )

pub loop-i-preserved : goal.loop-i-preserved
loop-i-preserved c =
    let s = c.args in
    let i = c.loop-i.i in (
      all_set_at (λ _. Within (bound 0)) [] c.loop-i.w i _ c.fill_row.ensures.in_bound c.loop-i.invariant.0,
      rw c.fill_row.ensures.is
          (ap (λ (l : List (List ℤ)). set l i (working_row s.n s.coefficients.now i)) c.loop-i.invariant.1
          ∙ fill_next (working_row s.n s.coefficients.now) 0 i zero_rows (omega arith)),
    )

pub returns : goal.returns
unfolding working_matrix
returns c =
    let s = c.args in
    let e : c.loop-i.i - 0 ≡ s.n = omega arith in
    record {
      are = c.loop-i.invariant.1 ∙ ap (λ (m : ℕ). fill (working_row s.n s.coefficients.now) 0 m zero_rows) e;
      in_bound = c.loop-i.invariant.0;
    }
