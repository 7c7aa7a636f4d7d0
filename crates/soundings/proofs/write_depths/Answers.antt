-- `soundings::write_depths` meets its contract. The loop's invariant: the depths of the tanks below j stand at the front. Assumes nothing.
use Rattle.std.specs.Prelude.{◌+◌, ◌*◌, ℤ, pos, get_or, ◌≡◌, refl}
use Rattle.std.proofs.Common.{ap, to_z-of_z, arith}
use mir.Syntax.{w32}
use mir.Val.{to_z, of_z}
use Rattle.buffer.specs.RunLaws.{run_begun, run_turn_lent, run_joined}
use Rattle.figures.proofs.FigureLaws.{length_figure}
use Rattle.figures.specs.Figures.{u16_kind, figure_bytes}
use Rattle.sounding_table.specs.Depth.{depth}
use Rattle.soundings.proofs.SoundingLaws.{searchable, depth_small, inside_at}
use Rattle.soundings.proofs.write_depths.Goals as goal

pub loop-j-init : goal.loop-j-init
loop-j-init c = run_begun (omega arith)

pub depth-depth-requires : goal.depth-depth-requires
depth-depth-requires c =
    let a = c.args in
    let y : ℤ = get_or a.answer.now c.loop-j.j (pos 0) in
    let same : to_z w32 (of_z w32 y) ≡ y = to_z-of_z {w = w32} (record { sfits = omega arith }) in
    rw same (searchable c.requires.usable a.scale y (inside_at c.requires.usable a.scale a.answer.now c.requires.inside c.loop-j.j))

pub overflow_cast-depth : goal.overflow_cast-depth
overflow_cast-depth c =
    let a = c.args in
    let y : ℤ = get_or a.answer.now c.loop-j.j (pos 0) in
    let same : to_z w32 (of_z w32 y) ≡ y = to_z-of_z {w = w32} (record { sfits = omega arith }) in
    omega (
      arith,
      c.depth-depth.ensures,
      ap (depth a.table.now a.scale) same,
      depth_small c.requires.usable a.scale y (inside_at c.requires.usable a.scale a.answer.now c.requires.inside c.loop-j.j),
    )

pub loop-j-preserved : goal.loop-j-preserved
loop-j-preserved c =
    let j = c.loop-j.j in
    let y : ℤ = get_or c.args.answer.now j (pos 0) in
    let same : to_z w32 (of_z w32 y) ≡ y = to_z-of_z {w = w32} (record { sfits = omega arith }) in
    let next : (j + 1) * u16_kind.width ≡ j * u16_kind.width + u16_kind.width = omega arith in
    rw next (run_turn_lent c.loop-j.invariant c.loop-j-test.true (length_figure u16_kind _) (rw (c.depth-depth.ensures, same) at c.write.ensures))

pub returns : goal.returns
returns c =
    let a = c.args in
    (run_joined (λ y. figure_bytes u16_kind (depth a.table.now a.scale y)) (pos 0) a.answer.now refl c.loop-j.invariant c.loop-j-test.false).bytes
