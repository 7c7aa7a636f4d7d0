-- The figures of an array of signed numbers have the range of their type: what a function knows of an array that it takes by value.
-- Assumes nothing.
use Rattle.std.specs.Prelude.{ℕ, zero, suc, ◌^◌, ℤ, List, [], ◌∷◌}
use denote.Array.{Array, each}
use denote.Laws.{Is}
use denote.Shadow.{shadow}
use denote.Signed.{SInt}
use Rattle.std.specs.Int.{Width}
use mir.Val.{Val, hbits}
use Rattle.std.proofs.Common.{arith}
use Rattle.integers.specs.Size.{size_sfits}
use Rattle.integers.specs.Tables.{Within}

module _ (w : Width) where
  each_within : (l : List ℤ) (us : List Val) → shadow (each ℤ (SInt w).own_val l us) → Within (2 ^ hbits w) l
  each_within [] us h j = omega arith
  each_within (x ∷ l) [] h j = absurd h
  each_within (x ∷ l) (u ∷ us) h zero = size_sfits {w = w} {z = x} (record { sfits = h.0.1 })
  each_within (x ∷ l) (u ∷ us) h (suc j) = each_within l us h.1 j

  pub array_within : (n : ℕ) (l : List ℤ) (vs : List Val) → Is (Array (SInt w) n) l vs → Within (2 ^ hbits w) l
  array_within n l vs h = each_within l h.0 h.1.1
