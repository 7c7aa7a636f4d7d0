-- The bits of a signed number, once for every width: by its sign, by the half of the width that they stand in, and where a number of one width
-- is worked on in 64 bits. Assumes nothing.
use Rattle.std.specs.Prelude.{ℕ, suc, ◌+◌, ◌*◌, ◌-◌, ◌/◌, ◌^◌, ◌≤◌, ◌<◌, T, leb, ℤ, pos, negsuc, Bool, true, false, ◌≡◌, refl}
use Rattle.std.proofs.Common.{ltb-true, lit≤, ap, ◌∙◌, to_z-of_z, arith}
use Rattle.std.specs.Int.Signed.{lt_z, mag}
use Rattle.std.proofs.Math.Facts.{to_z_pos, to_z-neg, sfits_to_z, sfits_widen}
use Rattle.std.specs.Int.{Width, w64}
use mir.Val.{Fits, SFits, to_z, of_z, bits, hbits}
use mir.ValLaws.{pow-bits}
use Rattle.std.proofs.Math.Nat.{one-le-pow}

-- what a number of 64 bits is read back as
abbrev pub read : ℤ → ℤ
read z = to_z w64 (of_z w64 z)

-- a natural cast to a signed width that holds it
pub to_z_fits : (w : Width) (m : ℕ) → SFits w (pos m) → to_z w m ≡ pos m
to_z_fits w m f = to_z_pos w f.sfits

-- ---- by the sign; `mag z` is z from zero on and, below zero, what `!z` is

pub bits_below_zero : (w : Width) (z : ℤ) → lt_z z (pos 0) ≡ true → of_z w z ≡ 2 ^ bits w - 1 - mag z
bits_below_zero w (pos n) t = let z : n < 0 = ltb-true n 0 t in absurd (omega arith)
bits_below_zero w (negsuc k) t = omega arith

pub bits_from_zero : (w : Width) (z : ℤ) → lt_z z (pos 0) ≡ false → of_z w z ≡ mag z
bits_from_zero w (pos n) t = refl
bits_from_zero w (negsuc k) t = let z : ◌≡◌ {A = ℕ} 0 1 = cc in absurd (omega arith)

half : (w : Width) → 0 < 2 ^ hbits w
half w = one-le-pow (hbits w) 2 (lit≤ tt)

module _ (w : Width) (z : ℤ) (h : SFits w z) where
  -- a branch on `z < 0` tests the number that is read back from the bits
  pub sign_of : (b : Bool) → lt_z (to_z w (of_z w z)) (to_z w 0) ≡ b → lt_z z (pos 0) ≡ b
  sign_of b t = rw (to_z-of_z h, to_z_pos w {n = 0} (half w)) at t

  pub below_zero : lt_z z (pos 0) ≡ true → to_z w (2 ^ bits w - 1 - of_z w z) ≡ pos (mag z)
  below_zero t =
      let p : 2 ^ bits w ≡ 2 ^ hbits w * 2 = pow-bits w in
      let l : mag z < 2 ^ hbits w = h.sfits in
      let e : 2 ^ bits w - 1 - of_z w z ≡ mag z = rw (bits_below_zero w z t) (omega arith) in
      rw (e) (to_z_pos w l)

  pub from_zero : lt_z z (pos 0) ≡ false → to_z w (of_z w z) ≡ pos (mag z)
  from_zero t = rw (bits_from_zero w z t) (to_z_pos w h.sfits)

  pub mag_ones : mag z ≤ 2 ^ bits w - 1
  mag_ones = omega (arith, pow-bits w, h.sfits)

-- ---- by the half that the bits x stand in

pub lower_half : (w : Width) (x : ℕ) → x ≤ (2 ^ bits w - 1) / 2 → to_z w x ≡ pos x
lower_half w x h = to_z_pos w (omega (arith, pow-bits w, half w))

-- k is what is left from x to the width's highest number
pub upper_half : (w : Width) (x k : ℕ) → x + k ≡ 2 ^ bits w - 1 → k ≤ (2 ^ bits w - 1) / 2 → to_z w x ≡ negsuc k
upper_half w x k e h =
    let p : 2 ^ bits w ≡ 2 ^ hbits w * 2 = pow-bits w in
    let f : 2 ^ bits w - suc k ≡ x = omega (arith, half w) in
    rw (f) at (to_z-neg w k (omega (arith, half w)))

-- ---- a number of a narrower width in 64 bits

module _ (w : Width) (narrow : T (leb (hbits w) (hbits w64))) (z : ℤ) (h : SFits w z) where
  pub wide_fits : SFits w64 (to_z w (of_z w z))
  wide_fits = rw (to_z-of_z h) (sfits_widen narrow h)

  pub wide_is : to_z w64 (of_z w64 (to_z w (of_z w z))) ≡ z
  wide_is = to_z-of_z wide_fits ∙ to_z-of_z h

  pub wide_mag : mag (to_z w64 (of_z w64 (to_z w (of_z w z)))) < 2 ^ hbits w
  wide_mag = rw (wide_is) h.sfits

  pub wide_bits : {x : ℕ} → x ≡ of_z w (to_z w64 (of_z w64 (to_z w (of_z w z)))) → x ≡ of_z w z
  wide_bits e = e ∙ ap (of_z w) wide_is

-- ---- the number of the bits x of a width, worked out in 64 bits

module _ (w : Width) {x : ℕ} (f : Fits w x) {r : ℤ} (g : SFits w64 r) (e : r ≡ to_z w x) where
  pub narrow_fits : SFits w (to_z w64 (of_z w64 r))
  narrow_fits = rw (to_z-of_z g, e) (sfits_to_z f)

  pub narrow_is : to_z w (of_z w (to_z w64 (of_z w64 r))) ≡ to_z w x
  narrow_is = to_z-of_z narrow_fits ∙ to_z-of_z g ∙ e
