-- `verdict_text::verdict_text` meets its contract: refusal 1, the refusal's line, or the lines of the answer. Assumes nothing.
use Rattle.std.specs.Prelude.{◌≡◌, refl, Ok, Err}
use Rattle.std.proofs.Common.{sym, ap}
use Rattle.solver.specs.Solution.{solution_from}
use Rattle.casefile.specs.Decode.{decode}
use Rattle.ballast.specs.Call.{Answer, answer_with, answer_of}
use Rattle.ballast.proofs.CallLaws.{kept_answer}
use Rattle.verdict_text.specs.VerdictLaws.{text_short, text_written, refusal_printed, refusal_room, answer_printed, answer_room_lem}
use Rattle.verdict_text.proofs.verdict_text.Goals as goal

pub returns-then-out-lt-TEXT_ROOM : goal.returns-then-out-lt-TEXT_ROOM
returns-then-out-lt-TEXT_ROOM c = text_short c.args.input.now c.args.out.now c.if-out-lt-TEXT_ROOM.true

pub render-requires : goal.render-requires
render-requires c =
    answer_room_lem c.args.input.now _ (kept_answer _ _ c.in-Ok.is c.answer_case-answer.ensures) refl _ c.if-out-lt-TEXT_ROOM.false

pub returns-in-Ok : goal.returns-in-Ok
returns-in-Ok c =
    let input' = c.args.input.now in
    let r = c.answer_case-answer in
    let x : Answer = answer_with r.result.n r.result.exponent (solution_from (Ok c.in-Ok.kept) r.new.trial) in
    let is : x ≡ answer_of (decode input') = kept_answer _ _ c.in-Ok.is r.ensures in
    text_written input' c.args.out.now c.if-out-lt-TEXT_ROOM.false (answer_printed input' x is refl) c.render.ensures

pub render_refusal-requires : goal.render_refusal-requires
render_refusal-requires c =
    refusal_room c.args.input.now _ (kept_answer _ _ c.in-Err.is c.answer_case-answer.ensures) _ refl _ c.number.ensures c.args.out.now c.if-out-lt-TEXT_ROOM.false

pub returns-in-Err : goal.returns-in-Err
returns-in-Err c =
    let input' = c.args.input.now in
    let r = c.answer_case-answer in
    let x : Answer = answer_with r.result.n r.result.exponent (solution_from (Err c.in-Err.unsolved) r.new.trial) in
    let is : x ≡ answer_of (decode input') = kept_answer _ _ c.in-Err.is r.ensures in
    text_written input' c.args.out.now c.if-out-lt-TEXT_ROOM.false (refusal_printed input' x is _ refl _ c.number.ensures) c.render_refusal.ensures
