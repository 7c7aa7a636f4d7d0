-- `recordfile::write_condition` meets its contract: the four fields, one behind the other. Assumes nothing.
use mathlib.Core.List.{append_assoc, append-nil}
use native.Mathlib.Omega.{arith}
use Rattle.buffer.specs.WroteLaws.{wrote_front, wrote_more}
use Rattle.judge.specs.Judgement.{judgement_from}
use Rattle.recordfile.specs.Laws.{ends}
use Rattle.recordfile.specs.Layout.{verdict_field, answer_field, rows_field, factor_field, condition_fields}
use Rattle.recordfile.proofs.write_condition.Goals as goal

pub returns : goal.returns
unfolding condition_fields
returns c =
    let a = c.args in
    let n = a.n in
    let Y = a.trial.now.figures in
    let j = judgement_from a.conclusion a.trial.now.residuals a.trial.now.reaches in
    let at = c.condition_places-places.result in
    let p = c.condition_places-places.ensures in
    let e = ends n a.rounds Y j in
    let w0 = wrote_front (verdict_field j.met j.unmet a.rounds) a.out.now c.write_verdict.ensures e.verdict in
    let w1 = wrote_more (answer_field n Y) at.rows w0 c.write_answer.ensures (omega arith) in
    let w2 = wrote_more (rows_field n j.residuals j.reaches) at.factor w1 c.write_rows.ensures (omega arith) in
    let w3 = wrote_more (factor_field j.none j.decides) at.len w2 c.write_factor.ensures (omega arith) in
    rw append-nil (simp append_assoc at w3)
