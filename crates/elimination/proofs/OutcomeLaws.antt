-- When an elimination is complete, and when it is refused: exactly if at some step every candidate for the pivot is zero. Assumes nothing.
use Rattle.std.specs.Prelude.{ℕ, ◌<◌, ◌≤◌, ℤ, pos, nat_abs, Bool, List}
use Rattle.std.specs.declared.result.Result.TheVariants.{Ok, Err}
use borrow.Author.Tests.{ltb-true, ltb-false, lt-ltb, le-ltb}
use Rattle.std.proofs.Math.Dec.{ltb}
use Rattle.std.proofs.Math.Bool.{true, false, cond}
use Rattle.std.proofs.Math.Path.{◌≡◌, refl, sym, ap}
use Rattle.std.proofs.Common.{◌∙◌, arith}
use Rattle.std.proofs.Math.Decide.{dec_lt}
use Rattle.integers.specs.Size.{nat_abs_zero}
use Rattle.elimination.specs.Claims.{ZeroColumn}
use Rattle.elimination.specs.Matrix.{at}
use Rattle.elimination.specs.Outcome.{Elimination, complete, zero_pivot, outcome, refusal, refusal_step, Eliminates}
use Rattle.elimination.proofs.Pivot.{pivot_best}
use Rattle.elimination.proofs.Runs.{ended, stays, made}
use Rattle.elimination.specs.Steps.{Run, next_pivot, largest, after_steps, eliminated}

-- ---- the refusal's number and step tell the answer

same_elimination : (x y : Elimination) → refusal x ≡ refusal y → refusal_step x ≡ refusal_step y → x ≡ y
same_elimination (Ok u) (Ok v) e f = refl
same_elimination (Ok u) (Err k) e f = absurd (omega arith)
same_elimination (Err k) (Ok u) e f = absurd (omega arith)
same_elimination (Err k) (Err m) e f = let g : k.steps ≡ m.steps = omega arith in ap zero_pivot g

pub answer_is : {n : ℕ} {a : List ℤ} {answer : Elimination} {w : List (List ℤ)} {o : List ℕ}
    → Eliminates n a answer w o → answer ≡ outcome n (eliminated n a).steps
answer_is h = same_elimination _ _ h.refusal_is h.step_is

-- ---- the answer tells the number of steps

module _ (n s : ℕ) where
  pub complete_steps : outcome n s ≡ complete → n ≤ s
  unfolding outcome
  complete_steps e = go (ltb s n) refl e
    where
      go : (t : Bool) → ltb s n ≡ t → cond t (zero_pivot s) complete ≡ complete → n ≤ s
      go true f p = absurd (let z : ◌≡◌ {A = ℕ} 0 1 = cc in omega arith)
      go false f p = ltb-false s n f

  pub steps_complete : n ≤ s → outcome n s ≡ complete
  unfolding outcome
  steps_complete h = rw (le-ltb s n h)

  pub zero_pivot_steps : (k : ℕ) → outcome n s ≡ zero_pivot k → (s < n) × (k ≡ s)
  unfolding outcome
  zero_pivot_steps k e = go (ltb s n) refl e
    where
      go : (t : Bool) → ltb s n ≡ t → cond t (zero_pivot s) complete ≡ zero_pivot k → (s < n) × (k ≡ s)
      go true f p = (ltb-true s n f, omega (arith, ap refusal_step p))
      go false f p = absurd (let z : ◌≡◌ {A = ℕ} 0 1 = cc in omega arith)

  pub steps_zero_pivot : s < n → outcome n s ≡ zero_pivot s
  unfolding outcome
  steps_zero_pivot h = rw (lt-ltb s n h)

-- ---- all candidates are zero exactly if the largest is

pub zero_largest : (n : ℕ) (r : Run) → r.steps < n → ((i : ℕ) → r.steps ≤ i → i < n → at r.working i r.steps ≡ pos 0) → largest n r ≡ 0
zero_largest n r h z =
    let b = pivot_best r.working r.steps n h in
    ap nat_abs (z (next_pivot n r) b.low b.high)

pub largest_zero : (n : ℕ) (r : Run) → r.steps < n → largest n r ≡ 0 → (i : ℕ) → r.steps ≤ i → i < n → at r.working i r.steps ≡ pos 0
largest_zero n r h e i p q =
    nat_abs_zero (at r.working i r.steps) (omega (arith, (pivot_best r.working r.steps n h).largest i p q))

-- ---- refused exactly at the step whose candidates are all zero

module _ (n : ℕ) (a : List ℤ) (k : ℕ) where
  pub zero_pivot_column : outcome n (eliminated n a).steps ≡ zero_pivot k → ZeroColumn n a k
  unfolding eliminated
  zero_pivot_column e =
      let s = zero_pivot_steps n (after_steps n a n).steps k e in
      let m : after_steps n a k ≡ after_steps n a n = ap (after_steps n a) s.1 ∙ made n a n in
      record {
        below = omega arith;
        reached = ap (λ (r : Run). r.steps) m ∙ sym s.1;
        zero = λ i p q. rw (m, s.1) (largest_zero n (after_steps n a n) s.0 (ended n a n s.0) i (omega arith) q);
      }

  pub column_zero_pivot : ZeroColumn n a k → outcome n (eliminated n a).steps ≡ zero_pivot k
  unfolding eliminated
  column_zero_pivot c =
      let e = c.reached in
      let z = zero_largest n (after_steps n a k) (omega (arith, c.below)) (λ i p q. rw e (c.zero i (omega arith) q)) in
      let m = stays n a k n (omega (arith, c.below)) z in
      rw (m, e) (steps_zero_pivot n k c.below)

-- refusal 8 exactly if there is such a step
pub refused_column : (n : ℕ) (a : List ℤ) → refusal (outcome n (eliminated n a).steps) ≡ 8 → ZeroColumn n a (eliminated n a).steps
refused_column n a e = go (dec_lt (eliminated n a).steps n)
  where
    go : Dec ((eliminated n a).steps < n) → ZeroColumn n a (eliminated n a).steps
    go (yes h) = zero_pivot_column n a (eliminated n a).steps (steps_zero_pivot n (eliminated n a).steps h)
    go (no h) = absurd (omega (arith, sym (ap refusal (steps_complete n (eliminated n a).steps (omega arith))) ∙ e))

pub column_refused : (n : ℕ) (a : List ℤ) (k : ℕ) → ZeroColumn n a k → refusal (outcome n (eliminated n a).steps) ≡ 8
column_refused n a k c = ap refusal (column_zero_pivot n a k c)
