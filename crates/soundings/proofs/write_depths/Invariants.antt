use Rattle.std.specs.Prelude.{◌*◌, pos, length, get_or}
use Rattle.buffer.specs.RunLaws.{Running}
use Rattle.figures.specs.Figures.{u16_kind, figure_bytes}
use Rattle.sounding_table.specs.Depth.{depth}
use Rattle.soundings.proofs.write_depths.Given as goal

abbrev pub invariant-loop-j : goal.invariant-loop-j
invariant-loop-j l =
    Running u16_kind.width (λ k. figure_bytes u16_kind (depth l.table l.scale (get_or l.answer k (pos 0)))) (length l.answer) 0 l.initial.out l.out l.j (l.j * u16_kind.width)
