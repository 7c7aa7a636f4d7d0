-- `case_reader::read_trial` meets its contract, by whether the case brings a trial: the field's refusal, then its figures.
-- Assumes nothing.
use Prim.Native.Nat.{ℕ, zero, suc}
use lib.IntN.{ℤ}
use lib.ListN.{length, take, drop}
use mathlib.Core.List.{List}
use lib.Seq.{length-take-le}
use mathlib.Core.Path.{◌≡◌, refl}
use native.Mathlib.Omega.{arith}
use Rattle.std.proofs.lemmas.Result.{err_from_is_err_and}
use Rattle.outcome.specs.Outcome.{Accepted}
use Rattle.outcome.specs.declared.Refusal.TheVariants.{OutsideLimits}
use Rattle.figures.proofs.FigureLaws.{run_at}
use Rattle.figures.proofs.ItemLaws.{length_items}
use Rattle.fields.proofs.AnswerLaws.{answer_stops, answer_goes_on}
use Rattle.fields.specs.Field.{value_of}
use Rattle.fields.proofs.FieldLaws.{Checked, checked}
use Rattle.casefile.specs.Decode.{trial_status, trial_of}
use Rattle.casefile.specs.Layout.{rows_end, trial_tag, trial_kind, trial_length}
use Rattle.case_reader.specs.Read.{TrialFound}
use Rattle.case_reader.proofs.read_trial.Goals.{In_ok-check_field}
use Rattle.case_reader.proofs.read_trial.Goals as goal

-- the field is not refused: it is whole, and y has a place for each figure
whole : (c : In_ok-check_field) → Checked trial_tag (trial_length c.args.head.n) c.args.s.now (rows_end c.args.head.n) c.tail_places-places.result.trial Accepted
whole c =
    let p = c.tail_places-places.ensures in
    checked trial_tag (trial_length c.args.head.n) c.args.s.now (rows_end c.args.head.n) p.trial p.trial_len c.in_ok-check_field.ensures

taken : (c : In_ok-check_field) → length (take c.args.head.n c.args.y.now) ≡ c.args.head.n
taken c = length-take-le c.args.head.n c.args.y.now c.requires.room

-- the case brings none
no_trial : (k n : ℕ) (s : List ℕ) (y : List ℤ) → (k ≡ 0 → ⊥) → TrialFound k n s y Accepted y
unfolding trial_status trial_of
no_trial zero n s y h = absurd (h refl)
no_trial (suc k) n s y h = record { number = refl; made = λ _. refl }

pub returns-then-head-ne0 : goal.returns-then-head-ne0
returns-then-head-ne0 c = no_trial c.args.head.rounds _ _ _ c.if-head-ne0.true

pub returns-in_err-check_field : goal.returns-in_err-check_field
unfolding trial_status
returns-in_err-check_field c =
    let r = err_from_is_err_and c.from_residual.result c.from_residual.ensures.1 in
    let n = c.args.head.n in
    let p = c.tail_places-places.ensures in
    let field = checked trial_tag (trial_length n) c.args.s.now (rows_end n) p.trial p.trial_len c.in_err-check_field.ensures in
    rw (c.if-head-ne0.false, r.1, r.2) (answer_stops field.is _ refl)

pub read-fine-requires : goal.read-fine-requires
read-fine-requires c =
    let k = (goal.at.read-fine-requires c).In_ok-check_field in
    omega (arith, taken k, c.tail_places-places.ensures, (whole k).room refl)

pub returns : goal.returns
unfolding trial_status trial_of
returns c =
    let k = (goal.at.returns c).In_ok-check_field in
    let n = c.args.head.n in
    let read = run_at trial_kind _ (whole k).value (taken k) c.read-fine.ensures in
    rw c.if-head-ne0.false
    (answer_goes_on (whole k).is OutsideLimits refl read.status
    (λ _. rw (read.made, length_items _ _ n (value_of (drop (rows_end n) c.args.s.now)))) c.check.ensures)
