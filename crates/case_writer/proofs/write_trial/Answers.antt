-- `case_writer::write_trial` meets its contract, by whether the case brings a trial.
-- Assumes nothing.
use Prim.Native.Nat.{ℕ}
use lib.ListN.{length}
use mathlib.Core.List.{append-nil}
use mathlib.Core.Path.{◌≡◌, subst}
use native.Mathlib.Omega.{arith}
use Rattle.figures.proofs.FigureLaws.{length_spread}
use Rattle.figures.specs.Figures.{spread}
use Rattle.fields.proofs.FieldLaws.{field_written}
use Rattle.casefile.specs.Layout.{trial_tag, trial_kind}
use Rattle.case_writer.specs.Room.{TrialRoom}
use Rattle.case_writer.proofs.write_trial.Goals as goal

pub returns-then-head-eq0 : goal.returns-then-head-eq0
returns-then-head-eq0 c =
    let a = c.args in
    let room : TrialRoom a.out.now 0 a.head.n a.trial.now = subst (λ (r : ℕ). TrialRoom a.out.now r a.head.n a.trial.now) c.if-head-eq0.true c.requires in
    let v = spread trial_kind a.trial.now in
    let l : length v ≡ c.tail_places-tail.result.trial_len = omega (arith, length_spread trial_kind a.trial.now, room, c.tail_places-tail.ensures) in
    rw c.if-head-eq0.true (simp append-nil (field_written trial_tag _ v a.out.now _ l c.write_header.ensures c.write.ensures))
