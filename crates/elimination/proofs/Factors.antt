-- What the steps leave in the working numbers: after k steps none is above 2^k × 2^23, the multipliers of the columns done are at most 16,384,
-- and their pivots are not 0. `Factors` is what a substitution rests on. Assumes nothing.
use Rattle.std.specs.Prelude.{ℕ, zero, suc, ◌+◌, ◌-◌, ◌^◌, ◌<◌, ◌≤◌, min, ℤ, pos, nat_abs, get_or, set, List, [], ◌≡◌}
use Rattle.std.proofs.Common.{pow_mono, get_or-set_other, sym, subst, arith}
use Rattle.std.proofs.Math.Decide.{ℕ_discrete, dec_lt}
use Rattle.limits.specs.Limits.{most_tanks}
use Rattle.integers.specs.TableLaws.{set_here, fill_at}
use Rattle.integers.specs.Tables.{fill, Within, AllWithin}
use Rattle.rounding.specs.Scale.{multiplier_scale}
use Rattle.elimination.proofs.Bounds.{bound_le, multiplier_le, ready, step_grows, last_step, exchanged_row, pivoted}
use Rattle.elimination.specs.Claims.{Factors}
use Rattle.elimination.specs.Conditions.{bound, RowEliminable, Pivoted}
use Rattle.elimination.proofs.Laws.{transposed_cases}
use Rattle.elimination.specs.Matrix.{at}
use Rattle.elimination.proofs.Pivot.{Best, pivot_best}
use Rattle.elimination.proofs.Runs.{advanced_cases, steps_few}
use Rattle.elimination.proofs.Start.{working_in}
use Rattle.elimination.specs.Steps.{working_matrix, pivot_row, exchange, multiplier, reduced_entry_of, eliminated_row, row_below, eliminated_below}
use Rattle.elimination.specs.Steps.{Run, next_pivot, largest, stepped, after_steps, eliminated}

-- ---- a row, once k steps are made: its multipliers, and its entry on the diagonal

pub record Done (k n i : ℕ) (row : List ℤ) : Type 0 where
  pub small : (j : ℕ) → j < k → j < i → i < n → nat_abs (get_or row j (pos 0)) ≤ multiplier_scale
  pub pivot : i < k → 0 < nat_abs (get_or row i (pos 0))

-- a row below the pivot's after its step
row_done : (top row : List ℤ) (k n i : ℕ) → RowEliminable top row k n → k < i → Done k n i row → Done (k + 1) n i (eliminated_row top row k n)
unfolding eliminated_row
row_done top row k n i h l d =
    record {
      small = λ j a b c. go j a b c (ℕ_discrete j k);
      pivot = λ a. absurd (omega arith);
    }
  where
    m : ℤ
    m = multiplier top row k

    filled : List ℤ
    filled = fill (reduced_entry_of m top row) (k + 1) (n - (k + 1)) row

    go : (j : ℕ) → j < k + 1 → j < i → i < n → Dec (j ≡ k) → nat_abs (get_or (set filled k m) j (pos 0)) ≤ multiplier_scale
    go j a b c (yes e) =
        subst (λ (x : ℕ). nat_abs (get_or (set filled k m) x (pos 0)) ≤ multiplier_scale) (sym e)
        (set_here (λ (z : ℤ). nat_abs z ≤ multiplier_scale) (pos 0) filled k m (multiplier_le top row k n h) (λ o. omega arith))
    go j a b c (no g) =
        subst (λ (z : ℤ). nat_abs z ≤ multiplier_scale) (sym (get_or-set_other filled k j m (pos 0) g))
        (fill_at (λ (z : ℤ). nat_abs z ≤ multiplier_scale) (pos 0) j (reduced_entry_of m top row) (k + 1) (n - (k + 1)) row
        (λ p q. absurd (omega arith))
        (λ p q o. omega arith)
        (λ o. d.small j (omega arith) b c))

-- all rows after a step
step_done : (w : List (List ℤ)) (k n : ℕ) → Pivoted w k n → ((i : ℕ) → Done k n i (get_or w i []))
    → (i : ℕ) → Done (k + 1) n i (get_or (eliminated_below w k n) i [])
unfolding eliminated_below
step_done w k n h d i =
    fill_at (Done (k + 1) n i) [] i (row_below w k n) (k + 1) (n - (k + 1)) w
    (λ p q. row_done (get_or w k []) (get_or w i []) k n i (ready w k n i h (omega arith) (omega arith)) (omega arith) (d i))
    (λ p q o. record { small = λ j a b c. omega arith; pivot = λ a. absurd (omega arith) })
    (λ o. record { small = λ j a b c. (d i).small j (below j a b c o) b c; pivot = λ a. diagonal a (ℕ_discrete i k) })
  where
    below : (j : ℕ) → j < k + 1 → j < i → i < n → (k + 1 ≤ i → i < (k + 1) + (n - (k + 1)) → ⊥) → j < k
    below j a b c o = let l = h.below in go (dec_lt k i)
      where
        go : Dec (k < i) → j < k
        go (yes p) = absurd (o (omega arith) (omega arith))
        go (no p) = omega arith

    diagonal : i < k + 1 → Dec (i ≡ k) → 0 < nat_abs (at w i i)
    diagonal a (yes e) = subst (λ (x : ℕ). 0 < nat_abs (at w x x)) (sym e) h.pivot
    diagonal a (no g) = (d i).pivot (omega arith)

-- an exchange of rows that are not done
exchange_done : (w : List (List ℤ)) (k n : ℕ) → k < n → 0 < nat_abs (at w (pivot_row w k n) k) → ((i : ℕ) → Done k n i (get_or w i []))
    → (i : ℕ) → Done k n i (get_or (exchange [] w k (pivot_row w k n)) i [])
exchange_done w k n h hp d i =
    rw (exchanged_row w k n h hp i)
    (transposed_cases k (pivot_row w k n) (λ x. Done k n i (get_or w x [])) i
    (λ e. record { small = λ j a b c. (d (pivot_row w k n)).small j a (omega (arith, best.low)) best.high; pivot = λ a. absurd (omega arith) })
    (λ e. record { small = λ j a b c. (d k).small j a a h; pivot = λ a. absurd (omega (arith, best.low)) })
    (λ f g. d i))
  where
    best : Best w k k (pivot_row w k n) n
    best = pivot_best w k n h

-- ---- all of it

-- (the last step has no row below it and changes nothing, so that n - 1 doublings are the most)
pub record Kept (n : ℕ) (r : Run) : Type 0 where
  pub all_in : AllWithin (bound (min r.steps (n - 1))) r.working
  pub done : (i : ℕ) → Done r.steps n i (get_or r.working i [])

-- the next step has its pivot
pub kept_pivoted : (n : ℕ) (r : Run) → n ≤ most_tanks → r.steps < n → Kept n r → 0 < largest n r
    → Pivoted (exchange [] r.working r.steps (next_pivot n r)) r.steps n
kept_pivoted n r h8 h s p =
    let e : min r.steps (n - 1) ≡ r.steps = omega arith in
    pivoted r.working r.steps n h p h8 (rw e at s.all_in)

kept_more : (n : ℕ) (r : Run) → n ≤ most_tanks → r.steps < n → Kept n r → 0 < largest n r → Kept n (stepped n r)
kept_more n r h8 h s p =
    record {
      all_in = next_in (dec_lt (r.steps + 1) n);
      done = step_done w r.steps n q (exchange_done r.working r.steps n h p s.done);
    }
  where
    w : List (List ℤ)
    w = exchange [] r.working r.steps (next_pivot n r)

    q : Pivoted w r.steps n
    q = kept_pivoted n r h8 h s p

    next_in : Dec (r.steps + 1 < n) → AllWithin (bound (min (r.steps + 1) (n - 1))) (eliminated_below w r.steps n)
    next_in (yes l) = let e : min (r.steps + 1) (n - 1) ≡ r.steps + 1 = omega arith in rw e (step_grows w r.steps n q)
    next_in (no l) =
        let e : min (r.steps + 1) (n - 1) ≡ r.steps = omega arith in
        rw (e, last_step w r.steps n (omega arith)) q.all_in

pub kept : (n : ℕ) (a : List ℤ) → n ≤ most_tanks → AllWithin (bound 0) (working_matrix n a) → (k : ℕ) → k ≤ n → Kept n (after_steps n a k)
unfolding after_steps
kept n a h8 h zero l =
    let e : min 0 (n - 1) ≡ 0 = omega arith in
    record {
      all_in = rw e h;
      done = λ i. record { small = λ j x y z. absurd (omega arith); pivot = λ x. absurd (omega arith) };
    }
kept n a h8 h (suc k) l =
    let s = kept n a h8 h k (omega arith) in
    advanced_cases n (after_steps n a k) (Kept n) (λ e. s) (λ p. kept_more n (after_steps n a k) h8 (omega (arith, steps_few n a k)) s p)

-- "At step k": no working number is above 2^k × 2^23 after k steps, or after those that were made
pub grown : (n : ℕ) (a : List ℤ) → n ≤ most_tanks → Within (2 ^ 15) a → (k : ℕ) → k ≤ n → AllWithin (bound k) (after_steps n a k).working
grown n a h8 h k l i j =
    omega (
      arith,
      (kept n a h8 (working_in n a h) k l).all_in i j,
      pow_mono {i = min (after_steps n a k).steps (n - 1)} {j = k} (omega (arith, steps_few n a k)),
    )

-- ---- after all steps

module _ (n : ℕ) (a : List ℤ) (h8 : n ≤ most_tanks) (h : Within (2 ^ 15) a) where
  last : Kept n (after_steps n a n)
  last = kept n a h8 (working_in n a h) n (omega arith)

  -- after an early end too
  pub eliminated_in : AllWithin (2 ^ 30) (eliminated n a).working
  unfolding eliminated
  eliminated_in i j =
      omega (arith, last.all_in i j, bound_le (min (after_steps n a n).steps (n - 1)) (omega arith))

  pub factors : n ≤ (eliminated n a).steps → Factors n (eliminated n a).working
  unfolding eliminated
  factors c =
      record {
        multipliers = λ i j p q. (last.done i).small j (omega arith) q p;
        pivots = λ i p. (last.done i).pivot (omega arith);
        all_in = eliminated_in;
      }
