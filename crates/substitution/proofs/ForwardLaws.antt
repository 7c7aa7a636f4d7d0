-- Why nothing of the forward pass wraps: an entry at most doubles with each multiplier. And what the pass does at a loop's turn.
-- Assumes nothing.
use Prim.Native.Nat.{ℕ, zero, suc, ◌+◌, ◌^◌, ◌<◌, ◌≤◌}
use Rattle.std.specs.Prelude.{ℤ, pos, nat_abs, ◌*ℤ◌, get_or, set, List, [], ◌≡◌, refl}
use Rattle.std.proofs.Common.{pow_mono, pow_pos, SFits, add-one, arith}
use Rattle.std.specs.Int.{w64}
use Rattle.std.proofs.Math.Decide.{dec_lt}
use Rattle.limits.specs.Limits.{most_tanks}
use Rattle.integers.specs.Size.{nat_abs_sub_ℤ, sfits_size, product_ok}
use Rattle.integers.specs.TableLaws.{all_set_at}
use Rattle.integers.specs.Tables.{Within}
use Rattle.rounding.proofs.Laws.{rnd_le}
use Rattle.rounding.specs.Scale.{multiplier_scale}
use Rattle.elimination.specs.Claims.{Factors}
use Rattle.substitution.specs.Bounds.{residual_bound, forward_bound, Forward, Backward, Reducible}
use Rattle.substitution.specs.Passes.{loss, after_losses, reduce_entry, forward}

module _ (row z : List ℤ) (i : ℕ) (h : Reducible row z i) where
  -- the loss at a place below i
  loss_le : (j : ℕ) → j < i → nat_abs (loss row z j) ≤ forward_bound j
  loss_le j l =
      rnd_le (get_or row j (pos 0) *ℤ get_or z j (pos 0)) (pos multiplier_scale) (forward_bound j)
      (omega (arith, product_ok (get_or row j (pos 0)) (get_or z j (pos 0)) _ _ (h.multipliers j l) (h.above j l)))

  reduced_le : (j : ℕ) → j ≤ i → nat_abs (after_losses row z (get_or z i (pos 0)) j) ≤ forward_bound j
  reduced_le zero l = omega (arith, h.own)
  reduced_le (suc j) l =
      omega (
        arith,
        nat_abs_sub_ℤ (after_losses row z (get_or z i (pos 0)) j) (loss row z j),
        reduced_le j (omega arith),
        loss_le j (omega arith),
      )

  -- none of them wraps
  pub multiplier_fits : (j : ℕ) → j < i → SFits w64 (get_or row j (pos 0))
  multiplier_fits j l = sfits_size (omega (arith, h.multipliers j l))

  pub entry_fits : (j : ℕ) → j < i → SFits w64 (get_or z j (pos 0))
  entry_fits j l = let p = h.place in sfits_size (omega (arith, h.above j l, pow_mono {i = j} {j = 6} (omega arith)))

  pub product_small : (j : ℕ) → j < i → nat_abs (get_or row j (pos 0) *ℤ get_or z j (pos 0)) < 2 ^ 63
  product_small j l =
      let p = h.place in
      omega (arith, product_ok (get_or row j (pos 0)) (get_or z j (pos 0)) _ _ (h.multipliers j l) (h.above j l), pow_mono {i = j} {j = 6} (omega arith))

  pub loss_fits : (j : ℕ) → j < i → SFits w64 (loss row z j)
  loss_fits j l = let p = h.place in sfits_size (omega (arith, loss_le j l, pow_mono {i = j} {j = 6} (omega arith)))

  pub reduced_fits : (j : ℕ) → j ≤ i → SFits w64 (after_losses row z (get_or z i (pos 0)) j)
  reduced_fits j l = let p = h.place in sfits_size (omega (arith, reduced_le j l, pow_mono {i = j} {j = 7} (omega arith)))

-- the pass: entries above i are reduced, the others are as they were
pub record Grown (z : List ℤ) (i : ℕ) : Type 0 where
  pub above : (l : ℕ) → l < i → nat_abs (get_or z l (pos 0)) ≤ forward_bound l
  pub fresh : (l : ℕ) → i ≤ l → nat_abs (get_or z l (pos 0)) ≤ residual_bound

grown_set : (z : List ℤ) (i : ℕ) (v : ℤ) → Grown z i → nat_abs v ≤ forward_bound i → Grown (set z i v) (suc i)
grown_set z i v g h =
    record {
      above = all_set_at (λ (l : ℕ) (x : ℤ). l < suc i → nat_abs x ≤ forward_bound l) (pos 0) z i v (λ p. h) (λ l p. old l);
      fresh = all_set_at (λ (l : ℕ) (x : ℤ). suc i ≤ l → nat_abs x ≤ residual_bound) (pos 0) z i v (λ p. absurd (omega arith)) (λ l p. g.fresh l (omega arith));
    }
  where
    old : (l : ℕ) → nat_abs (get_or z l (pos 0)) ≤ forward_bound l
    old l = go (dec_lt l i)
      where
        go : Dec (l < i) → nat_abs (get_or z l (pos 0)) ≤ forward_bound l
        go (yes p) = g.above l p
        go (no p) = omega (arith, g.fresh l (omega arith), pow_pos l)

pub reducible : (w : List (List ℤ)) (n : ℕ) (z : List ℤ) (i : ℕ) → n ≤ most_tanks → Factors n w → i < n → Grown z i → Reducible (get_or w i []) z i
reducible w n z i r h l g =
    record { place = omega arith; multipliers = λ j p. h.multipliers i j l p; above = g.above; own = g.fresh i (omega arith) }

pub forward_more : (w : List (List ℤ)) (z : List ℤ) (i : ℕ) → forward w z (i + 1) ≡ reduce_entry w i (forward w z i)
unfolding forward
forward_more w z i = rw add-one

pub forward_none : (w : List (List ℤ)) (z : List ℤ) → forward w z 0 ≡ z
unfolding forward
forward_none w z = refl

module _ (w : List (List ℤ)) (z : List ℤ) (n : ℕ) (h : Forward w z n) where
  pub forward_grown : (i : ℕ) → i ≤ n → Grown (forward w z i) i
  unfolding forward
  forward_grown zero l = record { above = λ k p. absurd (omega arith); fresh = λ k p. h.right k }
  forward_grown (suc i) l =
      let g = forward_grown i (omega arith) in
      grown_set (forward w z i) i (after_losses (get_or w i []) (forward w z i) (get_or (forward w z i) i (pos 0)) i) g
      (reduced_le (get_or w i []) (forward w z i) i (reducible w n (forward w z i) i h.few h.factors (omega arith) g) i (omega arith))

  -- |z(i)| at the end is at most 2 ^ 7 times the largest right-hand side
  pub forward_within : Within (forward_bound 7) (forward w z n)
  forward_within l = go (dec_lt l n)
    where
      g : Grown (forward w z n) n
      g = forward_grown n (omega arith)

      go : Dec (l < n) → nat_abs (get_or (forward w z n) l (pos 0)) ≤ forward_bound 7
      go (yes p) = let r = h.few in omega (arith, g.above l p, pow_mono {i = l} {j = 7} (omega arith))
      go (no p) = omega (arith, g.fresh l (omega arith))

  -- so the backward pass may follow
  pub backward_ready : Backward w (forward w z n) n
  backward_ready = record { few = h.few; factors = h.factors; right = forward_within }
