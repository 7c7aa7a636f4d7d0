-- The library's bytes of a number, at 2, 4 and 8 of them, are those of the definitions: what is read at a place, and what is written over a front.
-- Assumes nothing.
use Rattle.std.specs.Prelude.{ℕ, zero, suc, ◌+◌, ◌^◌, ◌≤◌, ◌<◌, length, take, drop, get_or, List, [], ◌∷◌, ◌≡◌, refl}
use Rattle.std.proofs.Common.{sym, ap, drop-cons, add-zero, mod-lt, arith, lit<}
use Rattle.std.proofs.Math.Nat.{add-suc}
use Rattle.std.proofs.lemmas.Nat.{from_be_bytes-to_be_bytes_2, from_be_bytes-to_be_bytes_4, from_be_bytes-to_be_bytes_8}
use Rattle.std.specs.Int.{w16, w32, w64, to_be_bytes, from_be_bytes, bytes_high_first, byte_at}
use Rattle.bigendian.specs.Number.{be, be_bytes, Bytes}
use Rattle.bigendian.specs.NumberLaws.{none, one, bytes_be}

-- the n elements from a place and i more on
unfoldable picked : List ℕ → ℕ → ℕ → ℕ → List ℕ
picked s at i zero = []
picked s at i (suc n) = get_or s (at + i) 0 ∷ picked s at (suc i) n

taken : (s : List ℕ) (at i n : ℕ) → at + i + n ≤ length s → take n (drop (at + i) s) ≡ picked s at i n
unfolding picked
taken s at i zero h = refl
taken s at i (suc n) h = rw (drop-cons s (at + i) 0 (omega arith), ← (add-suc at i)) (ap (λ r. get_or s (at + i) 0 ∷ r) (taken s at (suc i) n (omega arith)))

module _ (s : List ℕ) (at : ℕ) where
  pub read_2 : at + 2 ≤ length s → from_be_bytes w16 (get_or s at 0 ∷ get_or s (at + 1) 0 ∷ []) ≡ be (take 2 (drop at s))
  unfolding be picked
  read_2 h = rw (rw (add-zero at) at (taken s at 0 2 (omega arith))) (omega arith)

  pub read_4 : at + 4 ≤ length s → from_be_bytes w32 (get_or s at 0 ∷ get_or s (at + 1) 0 ∷ get_or s (at + 2) 0 ∷ get_or s (at + 3) 0 ∷ []) ≡ be (take 4 (drop at s))
  unfolding be picked
  read_4 h = rw (rw (add-zero at) at (taken s at 0 4 (omega arith))) (omega arith)

  pub read_8 : at + 8 ≤ length s
      → from_be_bytes w64 (get_or s at 0 ∷ get_or s (at + 1) 0 ∷ get_or s (at + 2) 0 ∷ get_or s (at + 3) 0 ∷ get_or s (at + 4) 0 ∷ get_or s (at + 5) 0 ∷ get_or s (at + 6) 0 ∷ get_or s (at + 7) 0 ∷ [])
      ≡ be (take 8 (drop at s))
  unfolding be picked
  read_8 h = rw (rw (add-zero at) at (taken s at 0 8 (omega arith))) (omega arith)

-- each byte of a number is below 256
byte_below : (i x : ℕ) → byte_at i x < 256
byte_below zero x = mod-lt x (lit< tt)
byte_below (suc i) x = mod-lt _ (lit< tt)

bytes_below : (n x : ℕ) → Bytes (bytes_high_first n x)
bytes_below zero x = none
bytes_below (suc n) x = one (byte_below n x) (bytes_below n x)

-- bytes whose number is x are the bytes of x
same_bytes : (n x : ℕ) → length (bytes_high_first n x) ≡ n → be (bytes_high_first n x) ≡ x → bytes_high_first n x ≡ be_bytes n x
same_bytes n x l e = sym (rw (l, e) at (bytes_be (bytes_high_first n x) (bytes_below n x)))

pub written_2 : (x : ℕ) → x < 2 ^ 16 → to_be_bytes w16 x ≡ be_bytes 2 x
unfolding be
written_2 x h = same_bytes 2 x refl (omega (arith, from_be_bytes-to_be_bytes_2 x h))

pub written_4 : (x : ℕ) → x < 2 ^ 32 → to_be_bytes w32 x ≡ be_bytes 4 x
unfolding be
written_4 x h = same_bytes 4 x refl (omega (arith, from_be_bytes-to_be_bytes_4 x h))

pub written_8 : (x : ℕ) → x < 2 ^ 64 → to_be_bytes w64 x ≡ be_bytes 8 x
unfolding be
written_8 x h = same_bytes 8 x refl (omega (arith, from_be_bytes-to_be_bytes_8 x h))
