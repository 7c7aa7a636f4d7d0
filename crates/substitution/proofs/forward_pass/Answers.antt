-- `substitution::forward_pass` meets its contract. The loop's invariant: z is the right-hand side with its first i entries reduced.
-- Assumes nothing.
use Rattle.std.proofs.Common.{sym, ◌∙◌, to_z-of_z, arith}
use mir.Syntax.{w64}
use Rattle.substitution.proofs.ForwardLaws.{reducible, forward_grown, forward_none, forward_more}
use Rattle.substitution.proofs.forward_pass.Goals as goal

pub loop-i-init : goal.loop-i-init
loop-i-init c = sym (forward_none c.args.working.now c.args.z.now)

pub reduced_entry-requires : goal.reduced_entry-requires
reduced_entry-requires c =
    let a = c.args in
    let i = c.loop-i.i in
    let g = forward_grown a.working.now a.z.now a.n c.requires i (omega arith) in
    reducible a.working.now a.n c.loop-i.z i c.requires.few c.requires.factors (omega arith) (rw (← c.loop-i.invariant) at g)

pub loop-i-preserved : goal.loop-i-preserved
loop-i-preserved c =
    let a = c.args in
    let e = to_z-of_z {w = w64} (record { sfits = c.reduced_entry.type_inv }) ∙ c.reduced_entry.ensures in
    rw (e, forward_more a.working.now a.z.now c.loop-i.i, c.loop-i.invariant)
