-- What the depth of an answer is: its entry is not above, the next one is, and in a table that does not fall it is the one depth of which this holds; and the
-- search by halving, which finds it. Assumes nothing.
use Rattle.std.specs.Prelude.{ℕ, zero, suc, ◌+◌, ◌*◌, ◌-◌, ◌<◌, ◌≤◌, leb, ℤ, pos, negsuc, nat_abs, ◌*ℤ◌, ◌≤ℤ◌, ◌<ℤ◌, Bool, true, List, ◌≡◌, refl}
use Rattle.std.proofs.Common.{leb-false, le-leb, ltb-true, le-ltb, sym, ◌∙◌, add-zero, mul-le-mul_right}
use Rattle.std.proofs.lemmas.Bool.{lt-leb, false≢true}
use Rattle.std.proofs.lemmas.List.Sorted.{IsPartitionedBy-leb, IsNonDecreasingBy-from_default}
use Rattle.std.specs.List.Sorted.{IsPartitionedBy, IsPartitionPoint}
use Rattle.std.proofs.Math.Dec.{leb-zero}
use Rattle.std.proofs.Math.ListN.{length}
use Rattle.std.specs.Int.Signed.{lt_z, le_z}
use Rattle.std.proofs.Math.Bool.{false}
use Rattle.std.proofs.Math.Decide.{ℕ_discrete}
use native.Mathlib.Omega.{arith}
use Rattle.integers.specs.Diff.{mul_parts}
use Rattle.integers.specs.Order.{ints, tests, le_z_true}
use Rattle.sounding_table.specs.Depth.{kilograms_in_tonne, entry_at, not_above, greatest_below, depth, last_entry, inside, NonDecreasing, Searchable}

-- ---- the greatest place that passes a test

module _ (p : ℕ → Bool) where
  -- it passes, and none behind it does
  record Greatest (n m : ℕ) : Type 0 where
    below : m < n
    passes : p m ≡ true
    last : (h : ℕ) → m < h → h < n → p h ≡ false

  -- there is one such place
  greatest_is : (n m : ℕ) → Greatest n m → greatest_below p n ≡ m
  greatest_is zero m g = absurd (omega (arith, g.below))
  greatest_is (suc n) m g =
      go (ℕ_discrete m n) λ l. greatest_is n m (record { below = l; passes = g.passes; last = λ h a b. g.last h a (omega arith) })
    where
      go : Dec (m ≡ n) → (m < n → greatest_below p n ≡ m) → greatest_below p (suc n) ≡ m
      go (yes q) r = let e : p n ≡ true = rw q at g.passes in rw e (sym q)
      go (no q) r = let l : m < n = omega (arith, g.below) in rw (g.last n l (omega arith)) (r l)

  -- where the first place passes, there is one
  greatest : (n : ℕ) → 0 < n → p 0 ≡ true → Greatest n (greatest_below p n)
  greatest zero l e = absurd (omega arith)
  greatest (suc zero) l e = rw e (record { below = omega arith; passes = e; last = λ h a b. absurd (omega arith) })
  greatest (suc (suc n)) l e = go (p (suc n)) refl (greatest (suc n) (omega arith) e)
    where
      at : Greatest (suc n) (greatest_below p (suc n)) → p (suc n) ≡ false → (h : ℕ) → greatest_below p (suc n) < h → h < suc (suc n) → Dec (h ≡ suc n) → p h ≡ false
      at g q h a b (yes r) = rw r q
      at g q h a b (no r) = g.last h a (omega arith)

      go : (b : Bool) → p (suc n) ≡ b → Greatest (suc n) (greatest_below p (suc n)) → Greatest (suc (suc n)) (greatest_below p (suc (suc n)))
      go true q g = rw q (record { below = omega arith; passes = q; last = λ h a b. absurd (omega arith) })
      go false q g =
          rw q (record { below = omega (arith, g.below); passes = g.passes; last = λ h a b. at g q h a b (ℕ_discrete h (suc n)) })

-- ---- the depth of an answer in any table whose first entry is not above it

module _ (table : List ℕ) (D : ℕ) (Y : ℤ) (some : 0 < length table) (first : not_above D Y (entry_at table 0) ≡ true) where
  deepest : Greatest (λ h. not_above D Y (entry_at table h)) (length table) (depth table D Y)
  unfolding depth
  deepest = greatest (λ h. not_above D Y (entry_at table h)) (length table) some first

  pub depth_below : depth table D Y < length table
  depth_below = deepest.below

  -- the entry at the depth is not above
  pub depth_entry : pos (entry_at table (depth table D Y) * D) ≤ℤ (Y *ℤ pos kilograms_in_tonne)
  depth_entry = let e = deepest.passes in omega (arith, ints, tests)

  -- the next one is, where there is a next one
  pub depth_next : depth table D Y + 1 < length table → (Y *ℤ pos kilograms_in_tonne) <ℤ pos (entry_at table (depth table D Y + 1) * D)
  depth_next l = let e = deepest.last (depth table D Y + 1) (omega arith) l in omega (arith, ints, tests)

-- ---- in a table that does not fall, no other depth is so

more_above : (a b : ℕ) (z : ℤ) → a ≤ b → le_z (pos a) z ≡ false → le_z (pos b) z ≡ false
more_above a b (pos m) l e = lt-leb b m (omega (arith, leb-false a m e))
more_above a b (negsuc m) l e = refl

module _ {table : List ℕ} (r : NonDecreasing table) where
  ordered_le : (i d : ℕ) → i + d < length table → entry_at table i ≤ entry_at table (i + d)
  ordered_le i zero l = rw (add-zero i) (omega arith)
  ordered_le i (suc d) l =
      let q : i + suc d ≡ (i + d) + 1 = omega arith in
      rw q (omega (arith, ordered_le i d (omega arith), r.next (i + d) (omega arith)))

  module _ (D : ℕ) (Y : ℤ) where
    -- from an entry that is above on, all are
    above_on : (i d : ℕ) → i + d < length table → not_above D Y (entry_at table i) ≡ false → not_above D Y (entry_at table (i + d)) ≡ false
    above_on i d l e = more_above (entry_at table i * D) (entry_at table (i + d) * D) (Y *ℤ pos kilograms_in_tonne) (mul-le-mul_right D (ordered_le i d l)) e

    pub depth_is : (h : ℕ) → h < length table → not_above D Y (entry_at table h) ≡ true
        → (h + 1 < length table → not_above D Y (entry_at table (h + 1)) ≡ false) → depth table D Y ≡ h
    unfolding depth
    depth_is h l e f =
        greatest_is (λ k. not_above D Y (entry_at table k)) (length table) h
        (record { below = l; passes = e; last = λ k a b. on k a b })
      where
        on : (k : ℕ) → h < k → k < length table → not_above D Y (entry_at table k) ≡ false
        on k a b =
            let q : (h + 1) + (k - (h + 1)) ≡ k = omega arith in
            rw q at (above_on (h + 1) (k - (h + 1)) (omega arith) (f (omega arith)))

-- ---- by the answer's sign, as the code meets it

no_sign : {P : Type 0} (n : ℕ) → lt_z (negsuc n) (pos 0) ≡ false → P
no_sign n t = let z : ◌≡◌ {A = ℕ} 0 1 = cc in absurd (omega arith)

module _ (table : List ℕ) (D : ℕ) where
  pub negative_outside : (Y : ℤ) → lt_z Y (pos 0) ≡ true → false ≡ inside table D Y
  negative_outside (pos n) t = absurd (omega (arith, ltb-true n 0 t))
  negative_outside (negsuc n) t = refl

  pub from_zero_inside : (Y : ℤ) → lt_z Y (pos 0) ≡ false → leb (nat_abs Y * kilograms_in_tonne) (last_entry table * D) ≡ inside table D Y
  from_zero_inside (pos n) t = rw (leb-zero n)
  from_zero_inside (negsuc n) t = no_sign n t

  pub from_zero_above : (Y : ℤ) → lt_z Y (pos 0) ≡ false → (h : ℕ) → leb (entry_at table h * D) (nat_abs Y * kilograms_in_tonne) ≡ not_above D Y (entry_at table h)
  from_zero_above (pos n) t h = refl
  from_zero_above (negsuc n) t h = no_sign n t

-- an answer that some entry is not above is not negative
pub from_zero : (D : ℕ) (Y : ℤ) (entry : ℕ) → not_above D Y entry ≡ true → lt_z Y (pos 0) ≡ false
from_zero D (pos n) entry e = le-ltb n 0 (omega arith)
from_zero D (negsuc n) entry e = absurd (omega (arith, le_z_true (pos (entry * D)) (negsuc n *ℤ pos kilograms_in_tonne) e, mul_parts (negsuc n) (pos kilograms_in_tonne)))

-- ---- the search by halving: the entry at low is not above, and that at high, where there is one, is

pub record Halving (table : List ℕ) (D : ℕ) (Y : ℤ) (low high : ℕ) : Type 0 where
  pub between : low < high
  pub inside : high ≤ length table
  pub not_above_lem : not_above D Y (entry_at table low) ≡ true
  pub above : high < length table → not_above D Y (entry_at table high) ≡ false

pub halving_begun : {table : List ℕ} {D : ℕ} {Y : ℤ} → Searchable table D Y → Halving table D Y 0 (length table)
halving_begun s = record { between = s.some; inside = omega arith; not_above_lem = s.first; above = λ l. absurd (omega arith) }

module _ {table : List ℕ} {D : ℕ} {Y : ℤ} {low high : ℕ} (v : Halving table D Y low high) where
  -- an entry between them, tested
  tested : (m : ℕ) → leb (entry_at table m * D) (nat_abs Y * kilograms_in_tonne) ≡ not_above D Y (entry_at table m)
  tested = from_zero_above table D Y (from_zero D Y (entry_at table low) v.not_above_lem)

  pub halving_up : (m : ℕ) → m < high → entry_at table m * D ≤ nat_abs Y * kilograms_in_tonne → Halving table D Y m high
  halving_up m l e = record { between = l; inside = v.inside; not_above_lem = sym (tested m) ∙ le-leb _ _ e; above = v.above }

  pub halving_down : (m : ℕ) → low < m → m < high → nat_abs Y * kilograms_in_tonne < entry_at table m * D → Halving table D Y low m
  halving_down m k l e =
      record { between = k; inside = omega (arith, v.inside); not_above_lem = v.not_above_lem; above = λ _. sym (tested m) ∙ lt-leb _ _ e }

  pub halving_ended : NonDecreasing table → high ≤ low + 1 → low ≡ depth table D Y
  halving_ended r l =
      let q : high ≡ low + 1 = omega (arith, v.between) in
      sym (depth_is r D Y low (omega (arith, v.between, v.inside)) v.not_above_lem (rw q at v.above))

-- ---- the library's search: the entries that are not above stand first, and it finds how many there are

module _ {table : List ℕ} {D : ℕ} {Y : ℤ} (s : Searchable table D Y) (mass : ℕ) (is : mass ≡ nat_abs Y * kilograms_in_tonne) where
  fine_is : (h : ℕ) → leb (entry_at table h * D) mass ≡ not_above D Y (entry_at table h)
  fine_is h = rw is (from_zero_above table D Y (from_zero D Y (entry_at table 0) s.first) h)

  pub fine_first : IsPartitionedBy (λ entry. leb (entry * D) mass) table
  fine_first =
      IsPartitionedBy-leb (λ entry. entry * D) table mass
      (IsNonDecreasingBy-from_default (λ entry. entry * D) table 0 λ i j h l.
      let q : i + (j - i) ≡ j = omega arith in
      mul-le-mul_right D (rw q at (ordered_le s.ordered i (j - i) (omega arith))))

  module _ {i : ℕ} (inside : i ≤ length table) (p : IsPartitionPoint (λ entry. leb (entry * D) mass ≡ true) (λ entry. leb (entry * D) mass ≡ false) table i) where
    pub some_fine : 0 < i
    some_fine = go i refl
      where
        go : (k : ℕ) → i ≡ k → 0 < i
        go zero e = absurd (false≢true (sym (p.1 0 0 (omega arith) s.some) ∙ fine_is 0 ∙ s.first))
        go (suc k) e = omega arith

    pub last_fine : i - 1 ≡ depth table D Y
    last_fine =
        let some = some_fine in
        halving_ended (record {
          between = omega (arith, some);
          inside = inside;
          not_above_lem = sym (fine_is (i - 1)) ∙ p.0 (i - 1) 0 (omega arith) (omega (arith, some));
          above = λ l. sym (fine_is i) ∙ p.1 i 0 (omega arith) l;
        }) s.ordered (omega (arith, some))
