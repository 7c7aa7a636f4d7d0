-- `case_writer::check_case` meets its contract: head, counts, figures, in this order.
-- Assumes nothing.
use mathlib.Core.Bool.{true}
use mathlib.Core.Path.{◌≡◌, sym, ◌∙◌}
use native.Mathlib.Omega.{arith}
use Rattle.std.proofs.lemmas.Grind.{common_steps}
use Rattle.std.specs.Prelude.{Err}
use Rattle.casefile.specs.Case.{head_is_fine, counted, rows_fine, figures_fine, case_status}
use Rattle.case_writer.specs.Given.{given}
use Rattle.case_writer.proofs.CheckLaws.{failed, passed}
use Rattle.case_writer.proofs.check_case.Goals as goal

pub returns-in_err-check : goal.returns-in_err-check
unfolding case_status
returns-in_err-check c =
    let h : c.from_residual.result ≡ Err c.in_err-check.field-0.0 = grind (arith, common_steps) in
    rw (← c.is_fine.ensures) (failed _ _ c.check.ensures c.in_err-check.was h)

pub returns-in_err-check-2 : goal.returns-in_err-check-2
unfolding case_status counted
returns-in_err-check-2 c =
    let head = c.args.case.head in
    let h : c.from_residual-in_err-check-2.result ≡ Err c.in_err-check-2.field-0.0 = grind (arith, common_steps) in
    let fine : head_is_fine head.n head.exponent head.rounds ≡ true = sym c.is_fine.ensures ∙ passed _ _ c.check.ensures c.in_ok-check.was in
    rw (fine, ← c.tail_places-tail.ensures.trial_count_lem, ← c.coefficients_counted.ensures) (failed _ _ c.check-2.ensures c.in_err-check-2.was h)

pub returns : goal.returns
unfolding case_status counted figures_fine rows_fine
returns c =
    let head = c.args.case.head in
    let fine : head_is_fine head.n head.exponent head.rounds ≡ true = sym c.is_fine.ensures ∙ passed _ _ c.check.ensures c.in_ok-check.was in
    let e : counted (given c.args.case) ≡ true = rw (← c.tail_places-tail.ensures.trial_count_lem, ← c.coefficients_counted.ensures) (passed _ _ c.check-2.ensures c.in_ok-check-2.was) in
    rw (fine, e, ← c.coefficients_fine.ensures, ← c.all_within.ensures, ← c.all_within-2.ensures, ← c.all_within-3.ensures, ← c.all_within-trial.ensures) c.check-3.ensures
