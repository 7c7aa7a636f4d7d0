-- `matrix_writer::check_matrix` meets its contract: n, the count, the coefficients, in this order.
-- Assumes nothing.
use borrow.Author.Rules.{rules}
use mathlib.Core.Bool.{Bool}
use mathlib.Core.Path.{◌≡◌, sym, ap, ◌∙◌}
use Rattle.outcome.specs.Outcome.{Status, status_number, check}
use Rattle.outcome.specs.declared.Refusal.{Refusal}
use Rattle.outcome.specs.declared.Refusal.TheVariants.{WrongLength, OutsideLimits}
use Rattle.outcome.proofs.Laws.{same_status, first_goes_on, stops}
use Rattle.casefile.specs.Case.{tanks_are_fine, square_counted, coefficients_are_fine}
use Rattle.matrixfile.specs.Text.{matrix_status}
use Rattle.matrix_writer.proofs.check_matrix.Goals as goal
use Rattle.matrix_writer.proofs.check_matrix.Goals.{After-check, After-check-2, After-check-3}

-- what a check answers is the definition's, of a test that agrees
answered : {s : Status} (r : Refusal) (a b : Bool) → status_number s ≡ status_number (check a r) → a ≡ b → s ≡ check b r
answered r a b e q = same_status _ _ (e ∙ ap (λ (t : Bool). status_number (check t r)) q)

tanks : (c : After-check) → c.check.result ≡ check (tanks_are_fine c.args.n) OutsideLimits
tanks c = answered _ _ _ c.check.ensures c.tanks_fine.ensures

counted : (c : After-check-2) → c.check-2.result ≡ check (square_counted c.args.n c.args.coefficients.now) WrongLength
counted c = answered _ _ _ c.check-2.ensures c.coefficients_counted.ensures

fine : (c : After-check-3) → c.check-3.result ≡ check (coefficients_are_fine c.args.coefficients.now) OutsideLimits
fine c = answered _ _ _ c.check-3.ensures c.coefficients_fine.ensures

pub returns-in_err-check : goal.returns-in_err-check
unfolding matrix_status
returns-in_err-check c =
    let refused : c.from_residual.result ≡ c.check.result = search rules in
    ap status_number (refused ∙ stops _ (tanks (goal.at.returns-in_err-check c).After-check) c.in_err-check.was)

pub returns-in_err-check-2 : goal.returns-in_err-check-2
unfolding matrix_status
returns-in_err-check-2 c =
    let p = goal.at.returns-in_err-check-2 c in
    let refused : c.from_residual-in_err-check-2.result ≡ c.check-2.result = search rules in
    ap status_number
    (refused ∙ stops _ (counted p.After-check-2) c.in_err-check-2.was ∙ first_goes_on _ _ (sym (tanks p.After-check) ∙ c.in_ok-check.was))

pub returns : goal.returns
unfolding matrix_status
returns c =
    let p = goal.at.returns c in
    ap status_number
    (fine p.After-check-3
    ∙ first_goes_on _ _ (sym (counted p.After-check-2) ∙ c.in_ok-check-2.was)
    ∙ first_goes_on _ _ (sym (tanks p.After-check) ∙ c.in_ok-check.was))
