-- `soundings::soundings` meets its contract: refusal 1, the refusal of the answer, or the answer sounded in the reference tank. Assumes nothing.
use Rattle.std.specs.Prelude.{◌≡◌, refl, Result, Ok, Err}
use Rattle.std.specs.Result.{IsErrAnd, MatchResult}
use Rattle.std.proofs.Common.{sym, ap, ◌∙◌, arith, rules, tests}
use Rattle.std.proofs.lemmas.Result.{err_from_is_err_and}
use lib.Seq.{length-take-le}
use Rattle.solver.specs.Solution.{solution_from}
use Rattle.casefile.specs.Decode.{decode}
use Rattle.ballast.proofs.AnswerBounds.{answer_bounded}
use Rattle.ballast.specs.Call.{Answer, answer_with, answer_of}
use Rattle.ballast.proofs.CallLaws.{kept_answer}
use Rattle.sounding_table.specs.Table.{reference_tank_entries}
use Rattle.soundings.proofs.SoundingLaws.{reference_usable, soundings_short, soundings_refused, soundings_answered}
use Rattle.soundings.specs.Soundings.{soundings_of, soundings_result}
use Rattle.soundings.proofs.soundings.Goals as goal

-- what `map_err` was called on, by what came of it
module _ {T E D : Type 0} where
  ok_before : {q : Result T E} (P : E → D → Type 0) {r : Result T D} {v : T} → MatchResult q (λ x. r ≡ Ok x) (λ y. IsErrAnd r (P y)) → r ≡ Ok v → q ≡ Ok v
  ok_before {q = Ok x} P h e = cc
  ok_before {q = Err y} P h e = absurd (rw e at h)

  err_before : {q : Result T E} (P : E → D → Type 0) {r : Result T D} {d : D} → MatchResult q (λ x. r ≡ Ok x) (λ y. IsErrAnd r (P y)) → r ≡ Err d
      → (y : E) × (q ≡ Err y) × P y d
  err_before {q = Ok x} P h e = absurd (cc)
  err_before {q = Err y} P h e = (y, refl, rw e at h)

pub returns-then-out-lt-SOUNDINGS_ROOM : goal.returns-then-out-lt-SOUNDINGS_ROOM
unfolding soundings_result
returns-then-out-lt-SOUNDINGS_ROOM c = soundings_short reference_tank_entries _ c.args.out.now (omega arith)

pub returns-in_err-map_err : goal.returns-in_err-map_err
unfolding soundings_result
returns-in_err-map_err c =
    let p = err_from_is_err_and c.from_residual.result c.from_residual.ensures.1 in
    let w = err_before _ c.map_err.ensures.cases c.in_err-map_err.was in
    let k = w.2 in
    let s : c.in_err-map_err.field-0.0 ≡ w.0.refusal = search (rules, tests) in
    let is = kept_answer _ _ w.1 c.answer_case-answer.ensures in
    rw (p.1, p.2, s) (soundings_refused reference_tank_entries _ c.args.out.now _ c.if-out-lt-SOUNDINGS_ROOM.false (ap (λ y. y.solution.status) (sym is)))

pub power_of_ten-scale-requires : goal.power_of_ten-scale-requires
power_of_ten-scale-requires c =
    let bounded = answer_bounded c.args.input.now _ (kept_answer _ _ (ok_before _ c.map_err.ensures.cases c.in_ok-map_err.was) c.answer_case-answer.ensures) refl in
    omega (arith, bounded.exponent_small)

pub shared_ref_as_front-write_soundings : goal.shared_ref_as_front-write_soundings
shared_ref_as_front-write_soundings c =
    let bounded = answer_bounded c.args.input.now _ (kept_answer _ _ (ok_before _ c.map_err.ensures.cases c.in_ok-map_err.was) c.answer_case-answer.ensures) refl in
    bounded.recordable.rows

pub write_soundings-requires : goal.write_soundings-requires
write_soundings-requires c =
    let bounded = answer_bounded c.args.input.now _ (kept_answer _ _ (ok_before _ c.map_err.ensures.cases c.in_ok-map_err.was) c.answer_case-answer.ensures) refl in
    (rw c.reference_tank-table.ensures reference_usable, omega (arith, length-take-le _ _ bounded.places, bounded.recordable.rows, c.if-out-lt-SOUNDINGS_ROOM.false))

pub returns : goal.returns
unfolding soundings_result
returns c =
    let r = c.answer_case-answer in
    let x : Answer = answer_with r.result.n r.result.exponent (solution_from (Ok c.in_ok-map_err.field-0) r.new.trial) in
    let is : x ≡ answer_of (decode c.args.input.now) = kept_answer _ _ (ok_before _ c.map_err.ensures.cases c.in_ok-map_err.was) r.ensures in
    let w = rw (c.reference_tank-table.ensures, c.power_of_ten-scale.ensures) at c.write_soundings.ensures in
    w ∙ soundings_answered reference_tank_entries x c.args.out.now c.if-out-lt-SOUNDINGS_ROOM.false refl ∙ ap (λ y. soundings_of reference_tank_entries y c.args.out.now) is
