use Prim.Native.Nat.{ℕ, ◌-◌, ◌<◌, ◌≤◌}
use lib.IntN.{ℤ, nat_abs}
use mathlib.Core.List.{List}
use mathlib.Core.Path.{◌≡◌}
use Rattle.elimination.specs.Matrix.{at}
use Rattle.elimination.specs.Outcome.{complete}
use Rattle.elimination.specs.Steps.{pivot_from, pivot_row, Run, after_steps}
use Rattle.elimination.proofs.eliminate.Given as goal

-- the state of the code
abbrev pub state : List (List ℤ) → List ℕ → ℕ → Run
state w places k = record { working = w; order = places; steps = k }

pub record Made (n : ℕ) (a : List ℤ) (w : List (List ℤ)) (places : List ℕ) (k : ℕ) : Type 0 where
  pub few : k ≤ n
  pub is : after_steps n a k ≡ state w places k

pub record Searched (w : List (List ℤ)) (k n pivot size i : ℕ) : Type 0 where
  pub some : i ≤ n
  pub inside : pivot < n
  pub size_is : size ≡ nat_abs (at w pivot k)
  pub rest : pivot_from w k pivot i (n - i) ≡ pivot_row w k n

abbrev pub invariant-rows : goal.invariant-rows
invariant-rows l = Searched l.eliminated.working l.k l.n l.pivot l.largest l.i × (l.outcome ≡ complete)

abbrev pub decreases-rows : goal.decreases-rows
decreases-rows l = l.n - l.i

abbrev pub invariant-steps : goal.invariant-steps
invariant-steps l = Made l.n l.coefficients l.eliminated.working l.eliminated.order l.k × (l.outcome ≡ complete)
