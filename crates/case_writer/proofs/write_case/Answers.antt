-- `case_writer::write_case` meets its contract: the buffer's refusal, the case's, or its encoding in the buffer.
-- Assumes nothing.
use Prim.Native.Nat.{ℕ, ◌≤◌}
use borrow.Author.Tests.{leb-true}
use lib.ListN.{length}
use mathlib.Core.List.{List}
use mathlib.Core.Path.{◌≡◌, sym, ◌∙◌}
use native.Mathlib.Omega.{arith}
use Rattle.std.proofs.lemmas.Grind.{common_steps}
use Rattle.std.specs.Prelude.{leb, Err}
use Rattle.outcome.proofs.CallResultLaws.{written_refused, written_whole}
use Rattle.outcome.proofs.Laws.{same_status}
use Rattle.outcome.specs.Outcome.{check}
use Rattle.outcome.specs.declared.Refusal.TheVariants.{BufferTooShort}
use Rattle.casefile.specs.Case.{Case, case_status}
use Rattle.casefile.specs.Layout.{longest_case, encode}
use Rattle.casefile.specs.Write.{write_status, write}
use Rattle.case_writer.specs.Given.{given}
use Rattle.case_writer.proofs.CaseLaws.{case_room}
use Rattle.case_writer.proofs.CheckLaws.{passed}
use Rattle.case_writer.proofs.write_case.Goals as goal

pub returns-in_err-check : goal.returns-in_err-check
unfolding write write_status
returns-in_err-check c =
    let out : List ℕ = c.args.out.now in
    let h : c.from_residual.result ≡ Err c.in_err-check.field-0.0 = grind (arith, common_steps) in
    let e : c.check.result ≡ check (leb longest_case (length out)) BufferTooShort = same_status _ _ c.check.ensures in
    rw (h, ← e, c.in_err-check.was)

pub returns-in_err-check_case : goal.returns-in_err-check_case
unfolding write write_status
returns-in_err-check_case c =
    let case : Case = given c.args.case in
    let room : longest_case ≤ length c.args.out.now = leb-true _ _ (passed _ _ c.check.ensures c.in_ok-check.was) in
    let h : c.from_residual-in_err-check_case.result ≡ Err c.in_err-check_case.field-0.0 = grind (arith, common_steps) in
    rw h
    (written_refused longest_case (case_status case) (encode case) c.args.out.now _ room (sym (same_status _ _ c.check_case.ensures) ∙ c.in_err-check_case.was))

pub write_fields-requires : goal.write_fields-requires
write_fields-requires c =
    case_room _ _ (leb-true _ _ (passed _ _ c.check.ensures c.in_ok-check.was)) (sym (same_status _ _ c.check_case.ensures) ∙ c.in_ok-check_case.was)

pub returns : goal.returns
unfolding write write_status
returns c =
    let case : Case = given c.args.case in
    let room : longest_case ≤ length c.args.out.now = leb-true _ _ (passed _ _ c.check.ensures c.in_ok-check.was) in
    written_whole longest_case (case_status case) (encode case) c.args.out.now room (sym (same_status _ _ c.check_case.ensures) ∙ c.in_ok-check_case.was) c.write_fields.ensures
