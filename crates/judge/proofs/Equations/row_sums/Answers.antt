-- `judge::Equations::row_sums` meets its contract. The loop's invariant: after j tanks the two locals are the pass's running sums, which `running_products` and
-- `running_weights` turn into the sums over the first j tanks; each product is at most 2 ^ 46 and each weight at most 2 ^ 47. Assumes nothing.
use Prim.Native.Nat.{ℕ, ◌+◌, ◌*◌, ◌^◌, ◌≤◌, ◌<◌}
use borrow.Author.Rules.{rules}
use lib.IntN.{ℤ, nat_abs, ◌+ℤ◌, ◌*ℤ◌}
use mathlib.Core.Path.{◌≡◌, sym, ap, ◌∙◌}
use mir.Facts.{to_z-of_z}
use mir.Syntax.{w16, w64}
use mir.Val.{SFits, to_z, of_z}
use native.Mathlib.Omega.{arith}
use Rattle.integers.specs.Signed.{wide_is}
use Rattle.integers.specs.Size.{at_most, bounds, size_by, size_sfits, sfits_size, nat_abs-+ℤ}
use Rattle.judge.proofs.RowSumLaws.{running_products, running_weights, running_more}
use Rattle.judge.specs.RowSums.{add_terms, running_sums, product_sum, weight_sum}
use Rattle.judge.specs.declared.RowSums.{RowSums}
use Rattle.judge.specs.System.{coefficients_from, tolerances_from, trial_figures}
use Rattle.judge.proofs.Equations.row_sums.Invariants.{standing}
use Rattle.judge.proofs.Equations.row_sums.Goals.{In-loop-j}
use Rattle.judge.proofs.Equations.row_sums.Goals as goal

-- one turn: the product as the code forms it, and the sum p of the first j products with it, as the code reads them from their bits
record Turn (a y p : ℤ) (j : ℕ) : Type 0 where
  formed : to_z w64 (of_z w64 (to_z w16 (of_z w16 a))) *ℤ to_z w64 (of_z w64 y) ≡ a *ℤ y
  fits : SFits w64 (a *ℤ y)
  sum_fits : SFits w64 (p +ℤ a *ℤ y)
  grown : nat_abs (p +ℤ a *ℤ y) ≤ (j + 1) * 2 ^ 46

turn : (a y p : ℤ) (j : ℕ) → SFits w16 a → SFits w64 y → nat_abs y ≤ 2 ^ 31 → nat_abs p ≤ j * 2 ^ 46 → j < 8 → Turn a y p j
turn a y p j f g small k l =
    let x = at_most a (2 ^ 15) (size_sfits f) in
    let z = at_most y (2 ^ 31) small in
    let product : nat_abs (a *ℤ y) ≤ 2 ^ 46 = size_by (a *ℤ y) (search bounds) tt in
    let grown : nat_abs (p +ℤ a *ℤ y) ≤ (j + 1) * 2 ^ 46 = omega (arith, nat_abs-+ℤ p (a *ℤ y)) in
    record { formed = rw (wide_is w16 tt a f, to_z-of_z g); fits = sfits_size (omega arith); sum_fits = sfits_size (omega arith); grown = grown }

-- the turn of tank j
turn_of : (c : In-loop-j) → SFits w16 (coefficients_from c.args.from c.args.self.now.coefficients.now c.loop-j.j)
    → SFits w64 (trial_figures c.args.trial.now.figures c.loop-j.j)
    → Turn (coefficients_from c.args.from c.args.self.now.coefficients.now c.loop-j.j) (trial_figures c.args.trial.now.figures c.loop-j.j)
    (to_z w64 c.loop-j.products-bits) c.loop-j.j
turn_of c f g =
    let e = c.args.self.now.small in
    turn _ _ _ _ f g (c.requires.1.small _ c.loop-j-test.true) c.loop-j.invariant.2 (omega arith)

pub overflow_mul-products : goal.overflow_mul-products
overflow_mul-products c =
    let t = turn_of (goal.at.overflow_mul-products c).In-loop-j (search rules) (search rules) in
    rw t.formed t.fits

pub overflow_add-products-in-loop-j : goal.overflow_add-products-in-loop-j
overflow_add-products-in-loop-j c =
    let t = turn_of (goal.at.overflow_add-products-in-loop-j c).In-loop-j (search rules) (search rules) in
    rw (t.formed, to_z-of_z t.fits) t.sum_fits

pub loop-j-preserved : goal.loop-j-preserved
loop-j-preserved c =
    let j = c.loop-j.j in
    let A : ℕ → ℤ = coefficients_from c.args.from c.args.self.now.coefficients.now in
    let E : ℕ → ℕ = tolerances_from c.args.from c.args.self.now.tolerances.now in
    let Y : ℕ → ℤ = trial_figures c.args.trial.now.figures in
    let t = turn_of (goal.at.loop-j-preserved c).In-loop-j (search rules) (search rules) in
    let w = rw (c.requires.1.are j c.loop-j-test.true) at c.weight-weights.ensures.0 in
    -- the two sums with this tank's terms are the running sums of one tank more
    let next : add_terms (A j) (E j) (Y j) (standing (to_z w64 c.loop-j.products-bits) c.loop-j.weights) ≡ running_sums A E Y (j + 1)
    = ap (add_terms (A j) (E j) (Y j)) c.loop-j.invariant.0 ∙ sym (running_more A E Y j) in
    rw (t.formed, to_z-of_z t.fits, to_z-of_z t.sum_fits) (
      rw w next,
      omega arith,
      t.grown,
      omega arith,
    )

-- the sums over j tanks, and after the last turn j is n
pub returns-clause-products : goal.returns-clause-products
returns-clause-products c =
    let l = c.loop-j in
    let a = c.args in
    let q : l.j ≡ a.self.now.n = omega arith in
    ap (λ (s : RowSums). s.products) l.invariant.0
    ∙ running_products (coefficients_from a.from a.self.now.coefficients.now) (tolerances_from a.from a.self.now.tolerances.now) (trial_figures a.trial.now.figures) l.j
    ∙ ap (product_sum (coefficients_from a.from a.self.now.coefficients.now) (trial_figures a.trial.now.figures)) q

pub returns-clause-weights : goal.returns-clause-weights
returns-clause-weights c =
    let l = c.loop-j in
    let a = c.args in
    let q : l.j ≡ a.self.now.n = omega arith in
    ap (λ (s : RowSums). s.weights) l.invariant.0
    ∙ running_weights (coefficients_from a.from a.self.now.coefficients.now) (tolerances_from a.from a.self.now.tolerances.now) (trial_figures a.trial.now.figures) l.j
    ∙ ap (weight_sum (tolerances_from a.from a.self.now.tolerances.now) (trial_figures a.trial.now.figures)) q
