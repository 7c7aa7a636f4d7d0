-- `recordfile::write_factor` meets its contract: the header, and the value's bytes stored behind it. Assumes nothing.
use mathlib.Core.List.{[], ◌∷◌}
use native.Mathlib.Omega.{arith}
use Rattle.recordfile.specs.Laws.{flag_stored}
use Rattle.recordfile.specs.Layout.{factor_tag}
use Rattle.recordfile.proofs.write_factor.Goals as goal

pub returns : goal.returns
returns c =
    let a = c.args in
    let w = c.write_header in
    flag_stored factor_tag a.none (a.decides ∷ []) a.out.now _ c.flag-m.ensures
    (omega (arith, c.requires, w.auto)) w.ensures
