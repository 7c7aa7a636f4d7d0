-- Why nothing of the backward pass wraps: no correction that is used is above its limit. And what the pass does at a loop's turn.
-- Assumes nothing.
use Rattle.std.specs.Prelude.{ℕ, zero, suc, ◌+◌, ◌-◌, ◌^◌, ◌<◌, ◌≤◌, leb, ℤ, pos, nat_abs, ◌-ℤ◌, ◌*ℤ◌, get_or, set, Bool, true, false, cond, List, [], ◌≡◌, refl}
use Rattle.std.proofs.Common.{le-leb, leb-true, SFits, arith}
use Rattle.std.proofs.lemmas.Bool.{lt-leb}
use Rattle.std.specs.Int.{w64}
use Rattle.limits.specs.Limits.{most_tanks}
use Rattle.integers.specs.Size.{nat_abs_sub_ℤ, sfits_size, product_ok}
use Rattle.integers.proofs.SumLaws.{sum_bound}
use Rattle.integers.specs.Sums.{sum}
use Rattle.integers.specs.TableLaws.{zeros_within, within_set}
use Rattle.integers.specs.Tables.{Within}
use Rattle.elimination.specs.Steps.{working_scale}
use Rattle.substitution.specs.Bounds.{forward_bound, Backward, Summable, Correctable}
use Rattle.substitution.specs.Passes.{product_above, sum_above_row, correction_at, correction_limit, no_corrections, corrections, backward_from, backward}

module _ (row d : List ℤ) (i n : ℕ) (h : Summable row d i n) where
  -- none of them wraps
  pub working_fits : (j : ℕ) → SFits w64 (get_or row j (pos 0))
  working_fits j = sfits_size (omega (arith, h.entries j))

  pub correction_fits : (j : ℕ) → SFits w64 (get_or d j (pos 0))
  correction_fits j = sfits_size (omega (arith, h.corrections j))

  pub term_fits : (j : ℕ) → SFits w64 (get_or row j (pos 0) *ℤ get_or d j (pos 0))
  term_fits j = sfits_size (omega (arith, product_ok (get_or row j (pos 0)) (get_or d j (pos 0)) _ _ (h.entries j) (h.corrections j)))

  pub sum_fits : (m : ℕ) → m ≤ 7 → SFits w64 (sum m (product_above row d i))
  sum_fits m l =
      sfits_size
      (omega (arith, sum_bound m _ (product_above row d i) (λ j q. product_ok (get_or row (suc i + j) (pos 0)) (get_or d (suc i + j) (pos 0)) _ _ (h.entries _) (h.corrections _))))

module _ (row : List ℤ) (z : ℤ) (d : List ℤ) (i n : ℕ) (h : Correctable row z d i n) where
  pub numerator_small : nat_abs (pos working_scale *ℤ z -ℤ sum_above_row row d i n) < 2 ^ 63
  numerator_small =
      let c = h.summable.columns in
      omega (
        arith,
        nat_abs_sub_ℤ (pos working_scale *ℤ z) (sum_above_row row d i n),
        product_ok (pos working_scale) z working_scale (forward_bound 7) (omega arith) h.right,
        sum_bound (n - suc i) _ (product_above row d i) (λ j q. product_ok (get_or row (suc i + j) (pos 0)) (get_or d (suc i + j) (pos 0)) _ _ (h.summable.entries _) (h.summable.corrections _)),
      )

-- a row of the pass is ready
pub correctable : (w : List (List ℤ)) (z : List ℤ) (n i : ℕ) (d : List ℤ) → Backward w z n → i < n → Within correction_limit d → Correctable (get_or w i []) (get_or z i (pos 0)) d i n
correctable w z n i d h l k =
    record {
      summable = record { place = l; columns = h.few; entries = h.factors.all_in i; corrections = k };
      pivot = h.factors.pivots i l;
      right = h.right i;
    }

-- the pass, at a loop's turn: the rest of the work from here is all of it
module _ (w : List (List ℤ)) (z : List ℤ) (n i : ℕ) (d : List ℤ) where
  pub backward_more : nat_abs (correction_at w z n i d) ≤ correction_limit → backward_from w z n (suc i) d ≡ backward_from w z n i (set d i (correction_at w z n i d))
  unfolding backward_from
  backward_more h = rw (le-leb (nat_abs (correction_at w z n i d)) correction_limit h)

  pub backward_stop : correction_limit < nat_abs (correction_at w z n i d) → backward_from w z n (suc i) d ≡ corrections false d
  unfolding backward_from
  backward_stop h = rw (lt-leb (nat_abs (correction_at w z n i d)) correction_limit h)

pub backward_done : (w : List (List ℤ)) (z : List ℤ) (n : ℕ) (d : List ℤ) → backward_from w z n 0 d ≡ corrections true d
unfolding backward_from
backward_done w z n d = refl

-- whatever is formed is within its limit
from_within : (w : List (List ℤ)) (z : List ℤ) (n i : ℕ) (d : List ℤ) → Within correction_limit d → Within correction_limit (backward_from w z n i d).values
unfolding backward_from
from_within w z n zero d h = h
from_within w z n (suc i) d h = go (leb (nat_abs (correction_at w z n i d)) correction_limit) refl (from_within w z n i (set d i (correction_at w z n i d)))
  where
    value : ℤ
    value = correction_at w z n i d

    go : (t : Bool) → leb (nat_abs value) correction_limit ≡ t
        → (Within correction_limit (set d i value) → Within correction_limit (backward_from w z n i (set d i value)).values)
        → Within correction_limit (cond t (backward_from w z n i (set d i value)) (corrections false d)).values
    go true e r = r (within_set d i value (leb-true (nat_abs value) correction_limit e) h)
    go false e r = h

pub backward_within : (w : List (List ℤ)) (z : List ℤ) (n : ℕ) → Within correction_limit (backward w z n).values
unfolding backward
backward_within w z n = from_within w z n n no_corrections (zeros_within most_tanks)
