-- One tank's depth in the reference tank, and when an answer is outside it. Assumes nothing.
use Rattle.std.specs.Prelude.{ℕ, ◌+◌, ◌*◌, ◌<◌, ℤ, pos, ◌*ℤ◌, ◌≤ℤ◌, ◌<ℤ◌, Bool, true, false, ◌≡◌, refl}
use Rattle.std.specs.Int.Signed.{le_z}
use Rattle.std.proofs.Common.{inl, inr, mul-le-mul_right, arith}
use Rattle.std.proofs.Math.Decide.{ℕ_discrete}
use Rattle.buffer.specs.AllLaws.{and_left, and_right}
use Rattle.integers.specs.Order.{ints, tests}
use Rattle.sounding_table.specs.Depth.{kilograms_in_tonne, depth, last_entry, inside, Searchable}
use Rattle.sounding_table.specs.DepthLaws.{depth_below, depth_entry, depth_next}
use Rattle.sounding_table.specs.Table.{reference_entry, reference_tank_entries}
use Rattle.sounding_table.specs.TableLaws.{reference_length, reference_entry_lem, reference_last, reference_entry_le}
use Rattle.soundings.specs.Sounded.{SoundedAt, Outside}
use Rattle.soundings.proofs.SoundingLaws.{searchable, reference_usable}

module _ (D : ℕ) (Y : ℤ) where
  -- the parts of the test
  abbrev from_zero : Bool
  from_zero = le_z (pos 0) Y

  abbrev up_to_last : Bool
  up_to_last = le_z (Y *ℤ pos kilograms_in_tonne) (pos (last_entry reference_tank_entries * D))

  last_is : up_to_last ≡ le_z (Y *ℤ pos 1000) (pos (520000 * D))
  last_is = rw reference_last

  -- ---- an answer that is outside

  pub not_inside : inside reference_tank_entries D Y ≡ false → Outside D Y
  not_inside e = go from_zero refl
    where
      go : (b : Bool) → from_zero ≡ b → Outside D Y
      go false q = inl (omega (arith, ints, tests))
      go true q = let t : le_z (Y *ℤ pos 1000) (pos (520000 * D)) ≡ false = rw (q, last_is) at e in inr (omega (arith, ints, tests))

  inside_most : inside reference_tank_entries D Y ≡ true → (Y *ℤ pos 1000) ≤ℤ pos (520000 * D)
  inside_most e = let t = rw last_is at (and_right from_zero up_to_last e) in omega (arith, ints, tests)

  pub outside_not : Outside D Y → inside reference_tank_entries D Y ≡ true → ⊥
  outside_not (inl t) e = let q = and_left from_zero up_to_last e in omega (arith, ints, tests)
  outside_not (inr t) e = let q = inside_most e in omega (arith, ints)

-- ---- an answer that is inside

module _ (D : ℕ) (Y : ℤ) (e : inside reference_tank_entries D Y ≡ true) where
  abbrev h : ℕ
  h = depth reference_tank_entries D Y

  found : Searchable reference_tank_entries D Y
  found = searchable reference_usable D Y e

  below : h < 401
  below = omega (arith, reference_length, depth_below reference_tank_entries D Y found.some found.first)

  low : pos (reference_entry h * D) ≤ℤ (Y *ℤ pos 1000)
  low = rw (reference_entry_lem h below) at (depth_entry reference_tank_entries D Y found.some found.first)

  high : h < 400 → (Y *ℤ pos 1000) <ℤ pos (reference_entry (h + 1) * D)
  high l =
      rw (reference_entry_lem (h + 1) (omega arith)) at (depth_next reference_tank_entries D Y found.some found.first (omega (arith, reference_length)))

  zero_if : (Y *ℤ pos 1000) <ℤ pos (901 * D) → h ≡ 0
  zero_if t = go (ℕ_discrete h 0)
    where
      go : Dec (h ≡ 0) → h ≡ 0
      go (yes q) = q
      go (no q) = absurd (omega (arith, ints, low, t, mul-le-mul_right D (reference_entry_le 1 h (omega arith))))

  last_if : Y *ℤ pos 1000 ≡ pos (520000 * D) → h ≡ 400
  last_if t = go (ℕ_discrete h 400)
    where
      go : Dec (h ≡ 400) → h ≡ 400
      go (yes q) = q
      go (no q) =
          let l : h < 400 = omega (arith, below) in
          absurd (omega (arith, ints, t, high l, mul-le-mul_right D (reference_entry_le (h + 1) 400 (omega arith))))

  pub sounded_at : SoundedAt D Y h
  sounded_at =
      record {
        deepest = omega (arith, below);
        not_above_lem = low;
        next_above = high;
        depth_zero = (λ q. rw q at (high (omega arith)), zero_if);
        depth_last = (λ q. let t = rw q at low in omega (arith, ints, t, inside_most D Y e), last_if);
      }
