use Prim.Native.Nat.{◌-◌, ◌≤◌}
use mathlib.Core.Path.{◌≡◌}
use Rattle.integers.specs.Tables.{Within}
use Rattle.solver.specs.Refinement.{figure_limit, corrected_from}
use Rattle.solver.proofs.correct_figures.Given as goal

abbrev pub invariant-loop-j : goal.invariant-loop-j
invariant-loop-j l =
    (l.j ≤ l.n)
    × Within figure_limit l.trial
    × (corrected_from l.corrections l.j (l.n - l.j) l.trial ≡ corrected_from l.corrections 0 l.n l.initial.trial)

abbrev pub decreases-loop-j : goal.decreases-loop-j
decreases-loop-j l = l.n - l.j
