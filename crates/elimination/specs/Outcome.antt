-- Definitions only.
-- What the elimination answers.
use Rattle.std.specs.Prelude.{ℕ, suc, ltb, ℤ, cond, List, ◌≡◌}
use Rattle.std.specs.declared.result.Result.{Result}
use Rattle.std.specs.declared.result.Result.TheVariants.{Ok, Err}
use Rattle.elimination.specs.Steps.{eliminated}
use Rattle.elimination.specs.declared.ZeroPivot.{ZeroPivot}

-- every step found a pivot, or so many steps were made and at the next every candidate is zero
abbrev pub Elimination : Type 0
Elimination = Result (Unit {0}) ZeroPivot

abbrev pub complete : Elimination
complete = Ok tt

abbrev pub zero_pivot : ℕ → Elimination
zero_pivot k = Err (record { steps = k })

-- by the number of steps made, of n
unfoldable pub outcome : ℕ → ℕ → Elimination
outcome n steps = cond (ltb steps n) (zero_pivot steps) complete

-- document 01's number: refusal 8, "At some step of the elimination every candidate for the pivot is zero"; 0 for none
abbrev pub refusal : Elimination → ℕ
refusal (Ok u) = 0
refusal (Err e) = 8

-- the step at which it is refused, counted from 1 as the paper does; 0 for none
abbrev pub refusal_step : Elimination → ℕ
refusal_step (Ok u) = 0
refusal_step (Err e) = suc e.steps

-- the answer, by its refusal's number and step, the working matrix and the order that an elimination leaves for n rows of coefficients
pub record Eliminates (n : ℕ) (A : List ℤ) (answer : Elimination) (working : List (List ℤ)) (order : List ℕ) : Type 0 where
  pub refusal_is : refusal answer ≡ refusal (outcome n (eliminated n A).steps)
  pub step_is : refusal_step answer ≡ refusal_step (outcome n (eliminated n A).steps)
  pub working_is : working ≡ (eliminated n A).working
  pub order_is : order ≡ (eliminated n A).order
