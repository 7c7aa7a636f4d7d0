-- `recordfile::write_record` meets its contract: the end field behind the condition's. Assumes nothing.
use Prim.Native.Nat.{◌+◌, ◌≤◌}
use lib.ListN.{length}
use mathlib.Core.List.{[]}
use native.Mathlib.Omega.{arith}
use Rattle.buffer.specs.WroteLaws.{wrote_more}
use Rattle.judge.specs.Judgement.{judgement_from}
use Rattle.fields.specs.Field.{end_tag, end_size, end_field}
use Rattle.fields.proofs.FieldLaws.{length_field}
use Rattle.recordfile.specs.Laws.{length_condition}
use Rattle.recordfile.specs.Layout.{record_of}
use Rattle.recordfile.proofs.write_record.Goals as goal

pub returns : goal.returns
unfolding record_of
returns c =
    wrote_more end_field _ c.write_condition-end.ensures c.write_end.ensures (omega (arith, length_field end_tag []))

pub write_end-requires : goal.write_end-requires
write_end-requires c =
    let behind : c.write_condition-end.result + end_size ≤ length c.args.out.now = let a = c.args in
    let j = judgement_from a.conclusion a.trial.now.residuals a.trial.now.reaches in
    omega (arith, c.write_condition-end.ensures.place, length_condition a.n a.rounds a.trial.now.figures j, c.requires) in
    omega (arith, behind)
