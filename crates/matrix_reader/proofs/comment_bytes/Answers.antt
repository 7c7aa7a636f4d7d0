-- `matrix_reader::comment_bytes` meets its contract.
-- The loop's invariant: what is left behind the comment lines from here on is what is left behind all.
-- Assumes nothing.
use lib.ListN.{length}
use mathlib.Core.Path.{◌≡◌, refl}
use native.Mathlib.Omega.{arith}
use Rattle.matrix_reader.specs.Parts.{CommentsRead}
use Rattle.matrix_reader.specs.PartLaws.{pass_begun, pass_turn, pass_stopped, pass_ended}
use Rattle.matrix_reader.proofs.comment_bytes.Goals as goal

pub returns-then-not-inside-byte : goal.returns-then-not-inside-byte
returns-then-not-inside-byte c = pass_stopped c.loop-k.invariant (omega arith) c.if-not-inside-byte.true

pub loop-k-init : goal.loop-k-init
loop-k-init c = pass_begun

pub loop-k-preserved : goal.loop-k-preserved
loop-k-preserved c = pass_turn c.loop-k.invariant (omega arith) c.if-not-inside-byte.false refl

pub returns : goal.returns
returns c =
    let end : c.loop-k.k ≡ length c.args.text.now = omega (arith, c.loop-k.invariant.within) in
    let read : CommentsRead c.args.text.now c.loop-k.k = pass_ended c.loop-k.invariant (omega arith) in
    rw end at read
