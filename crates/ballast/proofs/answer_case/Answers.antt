-- `ballast::answer_case` meets its contract: a refusal of the reading, or the answer of the case that was read, brought or worked out.
-- Assumes nothing.
use native.Mathlib.Omega.{arith}
use Rattle.std.proofs.Common.{refl}
use Rattle.casefile.specs.Decode.{decode}
use Rattle.case_reader.specs.ReadLaws.{read_accepted, read_refused}
use Rattle.ballast.proofs.Bounds.{workable}
use Rattle.ballast.proofs.CallLaws.{answer_read, no_answer_read}
use Rattle.ballast.proofs.answer_case.Goals as goal

pub power_of_ten-requires : goal.power_of_ten-requires
power_of_ten-requires c =
    let fit = workable c.args.input.now (read_accepted _ c.read_case.ensures c.in-Ok.is) in
    omega (arith, fit.exponent_small)

pub invariant_of-equations : goal.invariant_of-equations
invariant_of-equations c =
    let fit = workable c.args.input.now (read_accepted _ c.read_case.ensures c.in-Ok.is) in
    record { small = fit.limits.small }

pub answer_condition-requires : goal.answer_condition-requires
answer_condition-requires c =
    let fit = workable c.args.input.now (read_accepted _ c.read_case.ensures c.in-Ok.is) in
    rw c.power_of_ten.ensures fit.limits

pub returns-in-Ok : goal.returns-in-Ok
returns-in-Ok c =
    let held = read_accepted (decode c.args.input.now) c.read_case.ensures c.in-Ok.is in
    answer_read _ held _ c.power_of_ten.ensures _ c.answer_condition.ensures

pub returns-in-Err : goal.returns-in-Err
returns-in-Err c = no_answer_read _ _ (read_refused (decode c.args.input.now) c.read_case.ensures _ c.in-Err.is) _ refl
