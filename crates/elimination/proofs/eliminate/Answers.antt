-- `elimination::eliminate` meets its contract. The steps' invariant: the state is that after k steps. The rows' invariant: the search from
-- here on finds the pivot. Where it ends with zero, all later steps leave the state as it is. Assumes nothing.
use Prim.Native.Nat.{ℕ, ◌+◌, ◌<◌, ◌≤◌}
use lib.IntN.{ℤ, nat_abs}
use mathlib.Core.List.{List, []}
use Rattle.std.proofs.Common.{rules}
use mathlib.Core.Path.{◌≡◌, refl, sym, ap, ◌∙◌}
use mir.Facts.{to_z-of_z}
use native.Mathlib.Omega.{arith}
use Rattle.limits.specs.Limits.{most_tanks}
use Rattle.elimination.proofs.Bounds.{last_step}
use Rattle.elimination.specs.Conditions.{Pivoted, StartRows}
use Rattle.elimination.proofs.Factors.{kept, kept_pivoted}
use Rattle.elimination.proofs.Laws.{exchange_same, swapped}
use Rattle.elimination.specs.Matrix.{at}
use Rattle.elimination.specs.Outcome.{Elimination, outcome, Eliminates}
use Rattle.elimination.proofs.OutcomeLaws.{steps_zero_pivot, steps_complete}
use Rattle.elimination.proofs.Pivot.{pivot_best, pivot_up, pivot_stay, pivot_done}
use Rattle.elimination.proofs.Runs.{after_none, after_more, advanced_step, stays}
use Rattle.elimination.specs.Steps.{working_matrix, pivot_row, exchange, eliminated_below, Run, largest, next_run, after_steps, eliminated}
use Rattle.elimination.proofs.eliminate.Invariants.{Made, Searched, state}
use Rattle.elimination.proofs.eliminate.Goals as goal
use Rattle.elimination.proofs.eliminate.Goals.{then-largest-size, else-largest-size, then-k-n, else-k-n}
use mir.Syntax.{w64}
use mir.Val.{SFits}

-- one step more
made_more : {n k p : ℕ} {a : List ℤ} {w w₁ : List (List ℤ)} {places places₁ : List ℕ}
    → Made n a w places k → k < n → 0 < largest n (state w places k) → p ≡ pivot_row w k n
    → w₁ ≡ eliminated_below (exchange [] w k p) k n → places₁ ≡ exchange 0 places k p → Made n a w₁ places₁ (k + 1)
made_more {n} {k} {p} {a} {w} {w₁} {places} m h l e f g =
    record {
      few = omega arith;
      is = after_more n a k ∙ ap (next_run n) m.is ∙ advanced_step n (state w places k) l ∙ rw (f, g, e);
    }

-- the last step, which changes nothing: its pivot is its own row, and no row is below
made_last : {n k : ℕ} {a : List ℤ} {w : List (List ℤ)} {places : List ℕ}
    → Made n a w places k → k < n → n ≤ k + 1 → 0 < largest n (state w places k) → Made n a w places (k + 1)
made_last {n} {k} {a} {w} {places} m h o l =
    let b = pivot_best w k n h in
    made_more {p = k} m h l (omega (arith, b.low, b.high)) (sym (last_step _ k n o ∙ exchange_same [] w k)) (sym (exchange_same 0 places k))

-- what is left when the steps are over
eliminates : {n : ℕ} {a : List ℤ} {r : Run} {answer : Elimination} → eliminated n a ≡ r → answer ≡ outcome n r.steps
    → Eliminates n a answer r.working r.order
eliminates e p = record { refusal_is = rw (e, p); step_is = rw (e, p); working_is = rw e; order_is = rw e }

-- one candidate more, which is larger or not
module _ {w : List (List ℤ)} {k n pivot size i next : ℕ} (s : Searched w k n pivot size i) (h : i < n) (e : next ≡ nat_abs (at w i k)) where
  searched_up : size < next → Searched w k n i next (i + 1)
  searched_up l =
      record {
        some = omega arith;
        inside = h;
        size_is = e;
        rest = pivot_up w k pivot i n h (omega arith) ∙ s.rest;
      }

  searched_stay : next ≤ size → Searched w k n pivot size (i + 1)
  searched_stay l =
      record {
        some = omega arith;
        inside = s.inside;
        size_is = s.size_is;
        rest = pivot_stay w k pivot i n h (omega arith) ∙ s.rest;
      }

-- once the rows are looked through, the pivot is found
module _ {w : List (List ℤ)} {k n pivot size i : ℕ} (s : Searched w k n pivot size i) (h : n ≤ i) where
  pivot_is : pivot ≡ pivot_row w k n
  pivot_is = sym (pivot_done w k pivot i n h) ∙ s.rest

  size_largest : (places : List ℕ) → largest n (state w places k) ≡ size
  size_largest places = sym (s.size_is ∙ ap (λ (x : ℕ). nat_abs (at w x k)) pivot_is)

-- the whole, once the steps are left: all are made, or the pivot is zero
module _ {n k : ℕ} {a : List ℤ} {w : List (List ℤ)} {places : List ℕ} (m : Made n a w places k) where
  all_made : n ≤ k → eliminated n a ≡ state w places k
  unfolding eliminated
  all_made h = let e : n ≡ k = omega (arith, m.few) in ap (after_steps n a) e ∙ m.is

  zero_found : largest n (state w places k) ≡ 0 → eliminated n a ≡ state w places k
  unfolding eliminated
  zero_found h = stays n a k n m.few (rw m.is h) ∙ m.is

-- where the pivot is not zero
ready : {n k : ℕ} {a : List ℤ} {w w₀ : List (List ℤ)} {places : List ℕ} → n ≤ most_tanks → StartRows w₀ (working_matrix n a) → Made n a w places k
    → k < n → 0 < largest n (state w places k) → Pivoted (exchange [] w k (pivot_row w k n)) k n
ready {n} {k} {a} {w} {w₀} {places} h8 f m h l =
    kept_pivoted n (state w places k) h8 h (rw m.is at (kept n a h8 (rw f.are at f.in_bound) k m.few)) l

pub steps-init : goal.steps-init
steps-init c = (
  record { few = omega arith; is = after_none c.args.n c.args.coefficients.now ∙ rw (← c.fill_rows.ensures.are) },
  refl,
)

pub rows-init : goal.rows-init
unfolding pivot_row
rows-init c =
    let f : SFits w64 (at c.steps.eliminated.working c.steps.k c.steps.k) = record { sfits = omega arith } in (
      record {
        some = omega arith;
        inside = omega arith;
        size_is = rw (to_z-of_z f) at c.magnitude-largest.ensures;
        rest = refl;
      },
      c.steps.invariant.1,
    )

pub rows-preserved : goal.rows-preserved
rows-preserved c =
    let f : SFits w64 (at c.steps.eliminated.working c.rows.i c.steps.k) = record { sfits = omega arith } in
    let e = rw (to_z-of_z f) at c.magnitude-size.ensures in
    elim c.if-largest-size.branch [
      | then-largest-size w ↦ rw (w.pivot-is, w.largest-is) (searched_up c.rows.invariant.0 (omega arith) e w.if-largest-size.true, c.rows.invariant.1)
      | else-largest-size w ↦ rw (w.pivot-is, w.largest-is) (searched_stay c.rows.invariant.0 (omega arith) e w.if-largest-size.false, c.rows.invariant.1)
    ]

pub step-eliminated-requires : goal.step-eliminated-requires
step-eliminated-requires c =
    let n = c.args.n in
    let w = c.steps.eliminated.working in
    let k = c.steps.k in
    let found : c.rows.pivot ≡ pivot_row w k n = pivot_is c.rows.invariant.0 (omega arith) in
    let nonzero : 0 < largest n (state w c.steps.eliminated.order k) = omega (arith, size_largest c.rows.invariant.0 (omega arith) c.steps.eliminated.order) in
    (omega arith, rw found (ready c.requires c.fill_rows.ensures c.steps.invariant.0 (omega arith) nonzero))

pub steps-preserved : goal.steps-preserved
steps-preserved c =
    let n = c.args.n in
    let w = c.steps.eliminated.working in
    let k = c.steps.k in
    let found : c.rows.pivot ≡ pivot_row w k n = pivot_is c.rows.invariant.0 (omega arith) in
    let nonzero : 0 < largest n (state w c.steps.eliminated.order k) = omega (arith, size_largest c.rows.invariant.0 (omega arith) c.steps.eliminated.order) in
    elim c.if-k-n.branch [
      | then-k-n t ↦
          let moved = swapped 0 _ _ k c.rows.pivot t.swap.ensures.after (search rules) (search rules) in
          rw t.eliminated-is (made_more c.steps.invariant.0 (omega arith) nonzero found t.step-eliminated.ensures moved, c.rows.invariant.1)
      | else-k-n t ↦ rw t.eliminated-is (made_last c.steps.invariant.0 (omega arith) t.if-k-n.false nonzero, c.rows.invariant.1)
    ]

pub returns-then-largest-eq0 : goal.returns-then-largest-eq0
returns-then-largest-eq0 c =
    eliminates (zero_found c.steps.invariant.0 (size_largest c.rows.invariant.0 (omega arith) c.steps.eliminated.order ∙ c.if-largest-eq0.true))
    (sym (steps_zero_pivot _ _ (omega arith)))

pub returns-after-steps : goal.returns-after-steps
returns-after-steps c =
    eliminates (all_made c.steps.invariant.0 c.steps-test.false) (c.steps.invariant.1 ∙ sym (steps_complete _ _ c.steps-test.false))
