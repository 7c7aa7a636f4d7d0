-- `case_roundtrip::read_and_write` meets its contract: by the law of what was read, over the two contracts.
-- Assumes nothing.
use mathlib.Core.Path.{◌≡◌, ◌∙◌}
use native.Mathlib.Omega.{arith}
use Rattle.std.proofs.lemmas.Grind.{common_steps}
use Rattle.std.specs.Prelude.{Err}
use Rattle.bigendian.specs.NumberLaws.{bytes_from}
use Rattle.casefile.specs.Decode.{decode}
use Rattle.case_roundtrip.proofs.Trips.{Small, held_case, not_read, small, again}
use Rattle.case_roundtrip.proofs.read_and_write.Goals as goal

pub returns-in_err-stored : goal.returns-in_err-stored
returns-in_err-stored c =
    let h : c.from_residual.result ≡ Err c.in_err-stored.field-0.0 = grind (arith, common_steps) in
    not_read c.args.s.now c.args.out.now c.in_err-stored.ensures h

pub overflow_mul-square : goal.overflow_mul-square
overflow_mul-square c =
    let sizes : Small c.in_ok-stored.stored = small c.args.s.now (held_case (decode c.args.s.now) c.in_ok-stored.ensures) in
    omega (arith, sizes)

pub tail_places-tail-requires : goal.tail_places-tail-requires
tail_places-tail-requires c = (small c.args.s.now (held_case (decode c.args.s.now) c.in_ok-stored.ensures)).rows.small

pub shared_ref_as_front-case : goal.shared_ref_as_front-case
shared_ref_as_front-case c =
    let sizes : Small c.in_ok-stored.stored = small c.args.s.now (held_case (decode c.args.s.now) c.in_ok-stored.ensures) in
    omega (arith, sizes)

pub returns : goal.returns
returns c =
    c.write_case.ensures
    ∙ again c.args.s.now (held_case (decode c.args.s.now) c.in_ok-stored.ensures) _ c.tail_places-tail.ensures.trial_count_lem
    (bytes_from c.args.s.now (λ i. (c.type_inv.s i).fits)) c.args.out.now
