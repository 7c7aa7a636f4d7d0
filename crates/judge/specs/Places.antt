-- Eight places that a loop fills from the front, with z behind them. Assumes nothing.
use Rattle.std.specs.Prelude.{ℕ, ◌+◌, ◌<◌, ◌≤◌, set, replicate, List, ◌≡◌}
use Rattle.std.proofs.Math.Path.{refl}
use Rattle.std.proofs.Common.{ap₂, ◌∙◌, arith}
use Rattle.limits.specs.Limits.{most_tanks}
use Rattle.integers.specs.TableLaws.{filled_more}
use Rattle.integers.specs.Tables.{filled}

-- i of n places are filled
pub record Filling {X : Type 0} (f : ℕ → X) (z : X) (n : ℕ) (l : List X) (i : ℕ) : Type 0 where
  pub count : i ≤ n
  pub is : l ≡ filled most_tanks i z f

module _ {X : Type 0} {f : ℕ → X} {z : X} {n : ℕ} where
  pub filling_begun : Filling f z n (replicate most_tanks z) 0
  unfolding filled
  filling_begun = record { count = omega arith; is = refl }

  pub filling_turn : {l : List X} {i : ℕ} {v : X} → Filling f z n l i → n ≤ most_tanks → i < n → v ≡ f i → Filling f z n (set l i v) (i + 1)
  filling_turn {l} {i} {v} r h k e =
      record { count = omega arith; is = ap₂ (λ l v. set l i v) r.is e ∙ filled_more z f most_tanks i (omega arith) }

  pub filling_ended : {l : List X} {i : ℕ} → Filling f z n l i → n ≤ i → l ≡ filled most_tanks n z f
  filling_ended {l} {i} r h = let q : i ≡ n = omega (arith, r.count) in rw q at r.is
