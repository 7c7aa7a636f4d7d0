-- `ballast::judge_case` meets its contract: each way through it is one of the definition's cases, and the definition keeps the promise.
-- Assumes nothing.
use Rattle.std.specs.Prelude.{◌≡◌, refl, Ok}
use Rattle.std.proofs.Common.{sym, ap}
use Rattle.std.proofs.lemmas.Result.{err_from_is_err_and}
use Rattle.solver.specs.Solution.{solution_from}
use Rattle.outcome.proofs.CallResultLaws.{written_short, written_refused, written_whole}
use Rattle.casefile.specs.Decode.{decode}
use Rattle.recordfile.specs.Layout.{longest_record}
use Rattle.ballast.specs.Call.{Answer, answer_with, answer_of, answer_record, record_result, judge_result}
use Rattle.ballast.proofs.CallLaws.{kept_answer}
use Rattle.ballast.proofs.Theorem.{promised, answer_recordable}
use Rattle.ballast.proofs.judge_case.Goals as goal

pub returns-then-out-lt-LONGEST_RECORD : goal.returns-then-out-lt-LONGEST_RECORD
unfolding judge_result record_result
returns-then-out-lt-LONGEST_RECORD c =
    let a = c.args in
    let x = answer_of (decode a.input.now) in
    promised a.input.now a.out.now _ _ (written_short longest_record x.solution.status (answer_record x) a.out.now c.if-out-lt-LONGEST_RECORD.true)

pub returns-in_err-kept : goal.returns-in_err-kept
unfolding judge_result record_result
returns-in_err-kept c =
    let a = c.args in
    let x = answer_of (decode a.input.now) in
    let is = kept_answer _ _ c.in_err-kept.was c.answer_case-answer.ensures in
    let p = err_from_is_err_and c.from_residual.result c.from_residual.ensures.1 in
    rw (p.1, p.2)
    (promised a.input.now a.out.now _ _
    (written_refused longest_record x.solution.status (answer_record x) a.out.now _ c.if-out-lt-LONGEST_RECORD.false (ap (λ y. y.solution.status) (sym is))))

pub write_record-requires : goal.write_record-requires
write_record-requires c =
    let is = kept_answer _ _ c.in_ok-kept.was c.answer_case-answer.ensures in
    answer_recordable c.args.input.now _ _ is refl c.if-out-lt-LONGEST_RECORD.false

pub returns : goal.returns
unfolding judge_result record_result
returns c =
    let a = c.args in
    let r = c.answer_case-answer in
    let x : Answer = answer_with r.result.n r.result.exponent (solution_from (Ok c.in_ok-kept.kept) r.new.trial) in
    let is : x ≡ answer_of (decode a.input.now) = kept_answer _ _ c.in_ok-kept.was r.ensures in
    promised a.input.now a.out.now _ _
    (rw (← is)
    (written_whole longest_record x.solution.status (answer_record x) a.out.now c.if-out-lt-LONGEST_RECORD.false refl c.write_record.ensures))
