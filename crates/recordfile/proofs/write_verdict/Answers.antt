-- `recordfile::write_verdict` meets its contract: the header, and the value's bytes stored behind it. Assumes nothing.
use mathlib.Core.List.{[], ◌∷◌}
use native.Mathlib.Omega.{arith}
use Rattle.recordfile.specs.Laws.{flag_stored}
use Rattle.recordfile.specs.Layout.{verdict_tag}
use Rattle.recordfile.proofs.write_verdict.Goals as goal

pub returns : goal.returns
returns c =
    let a = c.args in
    let w = c.write_header in
    flag_stored verdict_tag a.met (a.unmet ∷ a.rounds ∷ []) a.out.now _ c.flag-m.ensures
    (omega (arith, c.requires, w.auto)) w.ensures
