-- `elimination::multiplier_of` meets its contract: the dividend is at most 2^44, and the result at most 16,384. Assumes nothing.
use Rattle.std.proofs.Common.{to_z-of_z, arith}
use mir.Syntax.{w64}
use mir.Val.{SFits}
use Rattle.std.specs.Prelude.{pos, ◌*ℤ◌}
use Rattle.integers.specs.Size.{nat_abs-*ℤ, sfits_size}
use Rattle.rounding.proofs.Laws.{defined}
use Rattle.elimination.proofs.multiplier_of.Goals as goal

pub rounded_quotient-requires : goal.rounded_quotient-requires
rounded_quotient-requires c =
    let entry_fits : SFits w64 c.args.entry = sfits_size (omega arith) in
    let pivot_fits : SFits w64 c.args.pivot = sfits_size (omega arith) in
    let product_fits : SFits w64 (pos 16384 *ℤ c.args.entry) = sfits_size (rw nat_abs-*ℤ (omega arith)) in
    rw (to_z-of_z entry_fits, to_z-of_z product_fits, to_z-of_z pivot_fits)
    (defined _ _ (rw nat_abs-*ℤ (omega arith)) c.requires.some)
