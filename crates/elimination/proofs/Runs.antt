-- The steps one after another: each is made, or all its candidates are zero and nothing changes from then on. Assumes nothing.
use Prim.Native.Nat.{ℕ, zero, suc, ◌+◌, ◌<◌, ◌≤◌}
use borrow.Author.Tests.{eqb-true, eqb-false, eq-eqb, ne_eqb}
use Rattle.std.proofs.Math.Dec.{eqb}
use Rattle.std.specs.Prelude.{ℤ, Bool, cond, List, ◌≡◌}
use Rattle.std.proofs.Math.Bool.{true, false}
use Rattle.std.proofs.Math.Path.{refl, ap}
use Rattle.std.proofs.Common.{sym, ◌∙◌}
use Rattle.std.proofs.Math.Decide.{ℕ_discrete, dec_lt}
use Rattle.std.proofs.Math.Numerals.{add-one}
use native.Mathlib.Omega.{arith}
use Rattle.elimination.specs.Steps.{working_matrix, start_order, Run, largest, stepped, next_run, after_steps}

-- ---- one step

module _ (n : ℕ) (r : Run) where
  pub advanced_cases : (P : Run → Type 0) → (largest n r ≡ 0 → P r) → (0 < largest n r → P (stepped n r)) → P (next_run n r)
  unfolding next_run
  advanced_cases P a b = go (eqb (largest n r) 0) refl
    where
      go : (t : Bool) → eqb (largest n r) 0 ≡ t → P (cond t r (stepped n r))
      go true e = a (eqb-true (largest n r) 0 e)
      go false e = b (let f = eqb-false (largest n r) 0 e in omega arith)

  pub advanced_zero : largest n r ≡ 0 → next_run n r ≡ r
  unfolding next_run
  advanced_zero h = rw (eq-eqb (largest n r) 0 h)

  pub advanced_step : 0 < largest n r → next_run n r ≡ stepped n r
  unfolding next_run
  advanced_step h = rw (ne_eqb (largest n r) 0 (λ e. omega arith))

-- ---- several

module _ (n : ℕ) (a : List ℤ) where
  pub after_none : after_steps n a 0 ≡ record { working = working_matrix n a; order = start_order; steps = 0 }
  unfolding after_steps
  after_none = refl

  -- one step more, as code counts
  pub after_more : (k : ℕ) → after_steps n a (k + 1) ≡ next_run n (after_steps n a k)
  unfolding after_steps
  after_more k = rw add-one

  pub steps_few : (k : ℕ) → (after_steps n a k).steps ≤ k
  unfolding after_steps
  steps_few zero = omega arith
  steps_few (suc k) =
      let h = steps_few k in
      advanced_cases n (after_steps n a k) (λ s. s.steps ≤ suc k) (λ e. omega arith) (λ l. omega arith)

  -- fewer than k steps are made only where all candidates are zero
  pub ended : (k : ℕ) → (after_steps n a k).steps < k → largest n (after_steps n a k) ≡ 0
  unfolding after_steps
  ended zero h = absurd (omega arith)
  ended (suc k) h =
      let g = ended k in
      advanced_cases n (after_steps n a k) (λ s. s.steps < suc k → largest n s ≡ 0)
      (λ e q. e)
      (λ l q. absurd (omega (arith, g (omega arith))))
      h

  -- and from then on nothing changes
  pub stays : (k j : ℕ) → k ≤ j → largest n (after_steps n a k) ≡ 0 → after_steps n a j ≡ after_steps n a k
  unfolding after_steps
  stays k zero h e = let f : zero ≡ k = omega arith in ap (after_steps n a) f
  stays k (suc j) h e = go (λ l. stays k j l e) (ℕ_discrete k (suc j))
    where
      go : (k ≤ j → after_steps n a j ≡ after_steps n a k) → Dec (k ≡ suc j) → after_steps n a (suc j) ≡ after_steps n a k
      go s (yes f) = ap (after_steps n a) (sym f)
      go s (no f) = ap (next_run n) (s (omega arith)) ∙ advanced_zero n (after_steps n a k) e

  -- the run is the one after the steps that were made
  pub made : (k : ℕ) → after_steps n a (after_steps n a k).steps ≡ after_steps n a k
  unfolding after_steps
  made zero = refl
  made (suc k) =
      let m = made k in
      advanced_cases n (after_steps n a k) (λ s. after_steps n a s.steps ≡ s)
      (λ e. m)
      (λ l. full l (dec_lt (after_steps n a k).steps k))
    where
      full : 0 < largest n (after_steps n a k) → Dec ((after_steps n a k).steps < k)
          → after_steps n a ((after_steps n a k).steps + 1) ≡ stepped n (after_steps n a k)
      full l (yes h) = absurd (omega (arith, ended k h))
      full l (no h) =
          let e : (after_steps n a k).steps + 1 ≡ suc k = omega (arith, steps_few k) in
          ap (after_steps n a) e ∙ advanced_step n (after_steps n a k) l
