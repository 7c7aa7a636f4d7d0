-- `solver::type_ranges` meets its contract: an array by value holds numbers of its type. Assumes nothing.
use mir.Syntax.{w16, w32}
use Rattle.limits.specs.Limits.{most_tanks, most_coefficients}
use Rattle.solver.specs.Ranges.{array_within}
use Rattle.solver.proofs.type_ranges.Goals as goal

pub returns : goal.returns
returns c =
    record {
      coefficients = array_within w16 most_coefficients c.args.coefficients _ c.well_formed.0;
      right_sides_lem = array_within w32 most_tanks c.args.right_hand_side.values _ c.well_formed.1.0.1.1.0;
    }
