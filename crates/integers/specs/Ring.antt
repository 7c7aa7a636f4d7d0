-- The laws of the ring ℤ that are cited here and that `lib.IntN` lacks. Those of products are one call of `ring` each. Assumes nothing.
use Rattle.std.specs.Prelude.{ℤ, pos, neg_ℤ, ◌-ℤ◌, ◌*ℤ◌, [], ◌∷◌, ◌≡◌}
use Rattle.std.proofs.Math.IntN.{+ℤ_idl, +ℤ_idr}
use Rattle.std.proofs.Common.{arith}
use Rattle.integers.specs.Diff.{vars, ring, quote}

module _ (x y : ℤ) where
  pub neg_ℤ-*ℤ : neg_ℤ x *ℤ y ≡ neg_ℤ (x *ℤ y)
  neg_ℤ-*ℤ = let w = vars (x ∷ y ∷ []) in ring (search quote) (omega arith)

  pub *ℤ-neg_ℤ : x *ℤ neg_ℤ y ≡ neg_ℤ (x *ℤ y)
  *ℤ-neg_ℤ = let w = vars (x ∷ y ∷ []) in ring (search quote) (omega arith)

  pub neg_ℤ-*ℤ-neg_ℤ : neg_ℤ x *ℤ neg_ℤ y ≡ x *ℤ y
  neg_ℤ-*ℤ-neg_ℤ = let w = vars (x ∷ y ∷ []) in ring (search quote) (omega arith)

module _ (x : ℤ) where
  pub sub_ℤ_zero : x -ℤ pos 0 ≡ x
  sub_ℤ_zero = +ℤ_idr x

  pub zero_sub_ℤ : pos 0 -ℤ x ≡ neg_ℤ x
  zero_sub_ℤ = +ℤ_idl (neg_ℤ x)
