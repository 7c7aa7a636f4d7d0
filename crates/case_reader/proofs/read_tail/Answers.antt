-- `case_reader::read_tail` meets its contract: the trial's refusal, then the end field's, then whether the input ends with it.
-- Assumes nothing.
use Prim.Native.Nat.{ℕ, ◌-◌}
use lib.Dec.{eqb}
use lib.ListN.{length, drop, length-drop}
use lib.Seq.{drop-drop}
use mathlib.Core.Path.{◌≡◌, refl, sym, ap, ◌∙◌}
use native.Mathlib.Omega.{arith}
use Rattle.std.proofs.lemmas.Result.{err_from_is_err_and}
use Rattle.outcome.proofs.Laws.{first_goes_on}
use Rattle.outcome.specs.Outcome.{status_number, check, Accepted}
use Rattle.outcome.specs.declared.Refusal.TheVariants.{TrailingBytes}
use Rattle.fields.proofs.AnswerLaws.{read_status, answer_stops, read_made}
use Rattle.fields.specs.Due.{end_status}
use Rattle.fields.specs.Field.{end_tag, end_length, end_size}
use Rattle.fields.proofs.FieldLaws.{Checked, checked}
use Rattle.casefile.specs.Decode.{tail_status}
use Rattle.casefile.specs.Layout.{rows_end, trial_size, end_at}
use Rattle.case_reader.proofs.read_tail.Goals.{In_ok-read_trial, In_ok-check_field}
use Rattle.case_reader.proofs.read_tail.Goals as goal

-- where the end field stands
abbrev end : In_ok-read_trial → ℕ
end c = end_at c.args.head.rounds c.args.head.n

-- the trial is not refused: what is left to be found is the end
tail_is : (c : In_ok-read_trial) → tail_status c.args.head.rounds c.args.head.n (drop (rows_end c.args.head.n) c.args.s.now) ≡ end_status (drop (end c) c.args.s.now)
unfolding tail_status
tail_is c =
    let h = c.args.head in
    rw (← (drop-drop (trial_size h.rounds h.n) (rows_end h.n) c.args.s.now)) (sym (first_goes_on _ _ (sym (read_status c.in_ok-read_trial.ensures))))

-- nor is the end field: it is whole
whole : (c : In_ok-check_field) → Checked end_tag end_length c.args.s.now (end_at c.args.head.rounds c.args.head.n) c.tail_places-places.result.end Accepted
whole c = checked end_tag end_length c.args.s.now (end_at c.args.head.rounds c.args.head.n) c.tail_places-places.ensures.end refl c.in_ok-check_field.ensures

pub returns-in_err-read_trial : goal.returns-in_err-read_trial
unfolding tail_status
returns-in_err-read_trial c =
    let r = err_from_is_err_and c.from_residual.result c.from_residual.ensures.1 in
    rw (r.1, r.2) (answer_stops (read_status c.in_err-read_trial.ensures) _ refl)

pub returns-in_err-check_field : goal.returns-in_err-check_field
unfolding end_status
returns-in_err-check_field c =
    let r = err_from_is_err_and c.from_residual-in_err-check_field.result c.from_residual-in_err-check_field.ensures.1 in
    let k = (goal.at.returns-in_err-check_field c).In_ok-read_trial in
    let field = checked end_tag end_length c.args.s.now (end k) c.tail_places-places.ensures.end refl c.in_err-check_field.ensures in
    rw (tail_is k, r.1, r.2) (answer_stops field.is _ refl)

pub overflow_sub-s : goal.overflow_sub-s
overflow_sub-s c = omega (arith, c.tail_places-places.ensures, (whole (goal.at.overflow_sub-s c).In_ok-check_field).room refl)

pub returns : goal.returns
unfolding end_status
returns c =
    let k = (goal.at.returns c).In_ok-read_trial in
    let at = end k in
    let e = rw c.tail_places-places.ensures.end at c.check.ensures in
    let ends : check (eqb (length c.args.s.now - at) end_size) TrailingBytes ≡ end_status (drop at c.args.s.now) =
    rw (← (length-drop at c.args.s.now)) (first_goes_on _ _ (sym (whole (goal.at.returns c).In_ok-check_field).is)) in
    rw (tail_is k) (record { number = e ∙ ap status_number ends; made = λ _. read_made c.in_ok-read_trial.ensures refl })
