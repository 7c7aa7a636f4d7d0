-- Definitions only.
-- The system that an `Equations` of the code is, and the trial of figures for it.
use Rattle.std.specs.Prelude.{ℤ, List}
use Rattle.judge.specs.System.{System, Trial, system, trial}
use Rattle.judge.specs.declared.Equations.{Equations}

abbrev pub system_of : Equations → System
system_of e = system e.n e.coefficients.now e.tolerances.now e.right_hand_side.values e.right_hand_side.tolerances

abbrev pub trial_for : Equations → List ℤ → Trial
trial_for e Y = trial e.n e.scale Y
