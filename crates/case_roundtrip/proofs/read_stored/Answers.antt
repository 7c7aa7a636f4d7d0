-- `case_roundtrip::read_stored` meets its contract: lists of zeros that a case was read into are the case as it is stored.
-- Assumes nothing.
use mathlib.Core.Path.{◌≡◌}
use native.Mathlib.Omega.{arith}
use Rattle.std.proofs.lemmas.Grind.{common_steps}
use Rattle.std.specs.Prelude.{Ok, Err}
use Rattle.case_reader.specs.ReadLaws.{read_into_zeros}
use Rattle.case_roundtrip.proofs.read_stored.Goals as goal

pub returns-in_err-head : goal.returns-in_err-head
returns-in_err-head c =
    let h : c.from_residual.result ≡ Err c.in_err-head.field-0.0 = grind (arith, common_steps) in
    rw h (read_into_zeros _ (Err c.in_err-head.field-0.0) _ c.in_err-head.ensures)

pub returns : goal.returns
returns c = read_into_zeros _ (Ok c.in_ok-head.head) _ c.in_ok-head.ensures
