-- `case_roundtrip::write_and_read` meets its contract: by the law of what was written, over the two contracts.
-- In each answer `w` finds what the writer itself answered from what `?` is given, so that must-fail/refusal_lost.edit, which puts another refusal
-- between the two, keeps every name, and is refused for the refusal alone.
-- Assumes nothing.
use Prim.Native.Nat.{◌≤◌}
use lib.ListN.{length}
use lib.Seq.{length-take-le}
use mathlib.Core.Path.{◌≡◌}
use native.Mathlib.Omega.{arith}
use Rattle.std.proofs.lemmas.Grind.{common_steps}
use Rattle.std.specs.Prelude.{Ok, Err}
use Rattle.case_writer.specs.Given.{given}
use Rattle.case_roundtrip.proofs.Trips.{fits, is_read, is_refused}
use Rattle.case_roundtrip.proofs.write_and_read.Goals as goal

pub slice_bounds-read_stored-end : goal.slice_bounds-read_stored-end
slice_bounds-read_stored-end c =
    let w : c.write_case.result ≡ Ok c.in_ok-m.m = grind arith in
    omega (arith, fits (given c.args.case) c.args.out.now _ (rw w at c.write_case.ensures))

pub slice_bounds-read_stored-end-2 : goal.slice_bounds-read_stored-end-2
slice_bounds-read_stored-end-2 c =
    let w : c.write_case.result ≡ Ok c.in_ok-m.m = grind arith in
    let f : c.in_ok-m.m ≤ length c.write_case.new.out = fits (given c.args.case) c.args.out.now _ (rw w at c.write_case.ensures) in
    omega (arith, length-take-le c.in_ok-m.m c.write_case.new.out f)

pub returns-in_err-m : goal.returns-in_err-m
returns-in_err-m c =
    let h : c.from_residual.result ≡ Err c.in_err-m.field-0.0 = grind (arith, common_steps) in
    let w : c.write_case.result ≡ Err c.in_err-m.field-0.0 = grind arith in
    is_refused (given c.args.case) c.args.out.now _ (rw w at c.write_case.ensures) h

pub returns : goal.returns
returns c =
    let w : c.write_case.result ≡ Ok c.in_ok-m.m = grind arith in
    is_read (given c.args.case) c.args.out.now _ (rw w at c.write_case.ensures) c.read_stored.ensures
