-- `sounding_table::reference_tank` meets its contract: the whole table passes the test of its rule, which is computed. Assumes nothing.
use mathlib.Core.Path.{refl}
use Rattle.sounding_table.specs.TableLaws.{is_reference_tank_lem}
use Rattle.sounding_table.proofs.reference_tank.Goals as goal

pub returns : goal.returns
returns c = is_reference_tank_lem _ refl
