-- Why no number of a step wraps: a multiplier is at most 16,384, and an entry at most doubles in a step. Rests on the laws of rnd alone.
-- Assumes nothing.
use Rattle.std.specs.Prelude.{ℕ, ◌+◌, ◌*◌, ◌-◌, ◌^◌, ◌<◌, ◌≤◌, ℤ, pos, ◌*ℤ◌, get_or, length, List, [], ◌≡◌}
use Rattle.std.proofs.Math.IntN.{nat_abs}
use Rattle.std.proofs.Common.{pow_mono, pow-add, ap, arith}
use Rattle.std.proofs.Math.Pow.{pow_pos}
use Rattle.limits.specs.Limits.{most_tanks}
use Rattle.integers.specs.Size.{nat_abs_sub_ℤ, product_ok}
use Rattle.integers.specs.TableLaws.{all_fill, fill_none, within_set}
use Rattle.integers.specs.Tables.{fill, Within, AllWithin}
use Rattle.rounding.proofs.Laws.{rnd_le}
use Rattle.rounding.specs.Round.{rnd}
use Rattle.rounding.specs.Scale.{multiplier_scale}
use Rattle.elimination.specs.Conditions.{bound, Dividing, RowEliminable, Pivoted}
use Rattle.elimination.proofs.Laws.{transposed, transposed_cases, transposed_first, exchange_at}
use Rattle.elimination.specs.Matrix.{at}
use Rattle.elimination.proofs.Pivot.{Best, pivot_best, nonzero_in}
use Rattle.elimination.specs.Steps.{pivot_row, exchange, multiplier, reduced_entry_of, eliminated_row, row_below, eliminated_below}

pub bound_le : (k : ℕ) → k < most_tanks → bound k ≤ 2 ^ 30
bound_le k h = omega (arith, pow_mono {i = k} {j = 7} (omega arith))

pub bound_suc : (k : ℕ) → bound (k + 1) ≡ bound k + bound k
bound_suc k = omega (arith, ap (λ (x : ℕ). x * 2 ^ 23) (pow-add 2 k 1))

-- ---- a multiplier

pub divided_le : (entry pivot : ℤ) → Dividing entry pivot → nat_abs (rnd (pos multiplier_scale *ℤ entry) pivot) ≤ multiplier_scale
divided_le entry pivot h = rnd_le (pos multiplier_scale *ℤ entry) pivot multiplier_scale (product_ok (pos multiplier_scale) entry multiplier_scale (nat_abs pivot) (omega arith) h.largest)

-- ---- a row

module _ (top row : List ℤ) (k n : ℕ) (h : RowEliminable top row k n) where
  small : bound k ≤ 2 ^ 30
  small = let b = h.below in let c = h.few in bound_le k (omega arith)

  pub top_le : (j : ℕ) → nat_abs (get_or top j (pos 0)) ≤ 2 ^ 30
  top_le j = omega (arith, h.top_in j, small)

  pub row_le : (j : ℕ) → nat_abs (get_or row j (pos 0)) ≤ 2 ^ 30
  row_le j = omega (arith, h.row_in j, small)

  pub dividing : Dividing (get_or row k (pos 0)) (get_or top k (pos 0))
  dividing = record { some = h.pivot; largest = h.largest; small = top_le k }

  pub multiplier_le : nat_abs (multiplier top row k) ≤ multiplier_scale
  multiplier_le = divided_le (get_or row k (pos 0)) (get_or top k (pos 0)) dividing

  product_in : (j : ℕ) → nat_abs (multiplier top row k *ℤ get_or top j (pos 0)) ≤ bound k * multiplier_scale
  product_in j =
      omega (arith, product_ok (multiplier top row k) (get_or top j (pos 0)) multiplier_scale (bound k) multiplier_le (h.top_in j))

  pub product_le : (j : ℕ) → nat_abs (multiplier top row k *ℤ get_or top j (pos 0)) ≤ 2 ^ 44
  product_le j = omega (arith, product_in j, small)

  loss_in : (j : ℕ) → nat_abs (rnd (multiplier top row k *ℤ get_or top j (pos 0)) (pos multiplier_scale)) ≤ bound k
  loss_in j = rnd_le (multiplier top row k *ℤ get_or top j (pos 0)) (pos multiplier_scale) (bound k) (product_in j)

  pub loss_le : (j : ℕ) → nat_abs (rnd (multiplier top row k *ℤ get_or top j (pos 0)) (pos multiplier_scale)) ≤ 2 ^ 30
  loss_le j = omega (arith, loss_in j, small)

  reduced_in : (j : ℕ) → nat_abs (reduced_entry_of (multiplier top row k) top row j) ≤ bound k + bound k
  reduced_in j =
      omega (arith, nat_abs_sub_ℤ (get_or row j (pos 0)) (rnd (multiplier top row k *ℤ get_or top j (pos 0)) (pos multiplier_scale)), h.row_in j, loss_in j)

  pub reduced_le : (j : ℕ) → nat_abs (reduced_entry_of (multiplier top row k) top row j) ≤ 2 ^ 31
  reduced_le j = omega (arith, reduced_in j, small)

  -- an eliminated row
  pub row_grows : Within (bound (k + 1)) (eliminated_row top row k n)
  unfolding eliminated_row
  row_grows =
      let f = reduced_entry_of (multiplier top row k) top row in
      rw (bound_suc k)
      (within_set (fill f (k + 1) (n - (k + 1)) row) k (multiplier top row k)
      (omega (arith, multiplier_le, pow_pos k))
      (all_fill (λ (z : ℤ). nat_abs z ≤ bound k + bound k) (pos 0) f (k + 1) (n - (k + 1)) row
      (λ i p q. reduced_in i)
      (λ j. omega (arith, h.row_in j))))

-- ---- a step

-- row i below the pivot's is ready
pub ready : (w : List (List ℤ)) (k n i : ℕ) → Pivoted w k n → k < i → i < n → RowEliminable (get_or w k []) (get_or w i []) k n
ready w k n i h p q =
    record {
      below = h.below;
      few = h.few;
      top_in = h.all_in k;
      row_in = h.all_in i;
      pivot = h.pivot;
      largest = h.largest i p q;
    }

pub step_grows : (w : List (List ℤ)) (k n : ℕ) → Pivoted w k n → AllWithin (bound (k + 1)) (eliminated_below w k n)
unfolding eliminated_below
step_grows w k n h =
    all_fill (Within (bound (k + 1))) [] (row_below w k n) (k + 1) (n - (k + 1)) w
    (λ i p q. let b = h.below in row_grows (get_or w k []) (get_or w i []) k n (ready w k n i h (omega arith) (omega arith)))
    (λ i j. rw (bound_suc k) (omega (arith, h.all_in i j)))

-- the last step has no row below it
pub last_step : (w : List (List ℤ)) (k n : ℕ) → n ≤ k + 1 → eliminated_below w k n ≡ w
unfolding eliminated_below
last_step w k n h = fill_none (row_below w k n) (k + 1) n w h

-- the exchange brings the pivot up
module _ (w : List (List ℤ)) (k n : ℕ) (h : k < n) (hp : 0 < nat_abs (at w (pivot_row w k n) k)) where
  abbrev p' : ℕ
  p' = pivot_row w k n

  in_p : p' < length w
  in_p = nonzero_in w p' k hp

  in_k : k < length w
  in_k = omega (arith, (pivot_best w k n h).low, in_p)

  pub exchanged_row : (i : ℕ) → get_or (exchange [] w k (pivot_row w k n)) i [] ≡ get_or w (transposed k (pivot_row w k n) i) []
  exchanged_row i = exchange_at [] w k p' i in_k in_p

  pub pivoted : n ≤ most_tanks → AllWithin (bound k) w → Pivoted (exchange [] w k (pivot_row w k n)) k n
  pivoted h8 hw =
      record {
        below = h;
        few = h8;
        all_in = λ i. rw (exchanged_row i) (hw (transposed k p' i));
        pivot = rw (exchanged_row k, transposed_first k p') hp;
        largest = λ i a c. rw (exchanged_row i, exchanged_row k, transposed_first k p')
            (transposed_cases k p' (λ x. nat_abs (at w x k) ≤ nat_abs (at w p' k)) i
            (λ e. omega arith)
            (λ e. best.largest k (omega arith) h)
            (λ f g. best.largest i (omega arith) c));
      }
    where
      best : Best w k k p' n
      best = pivot_best w k n h
