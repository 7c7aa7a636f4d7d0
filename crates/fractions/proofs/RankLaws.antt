-- Laws of the first of the greatest and of the first of the least: when one fraction is greater, and that each is the first of its kind.
-- Assumes nothing.
use Rattle.std.specs.Prelude.{ℕ, zero, suc, ◌*◌, ◌<◌, ◌≤◌, true, false, ◌⊎◌, ◌≡◌, refl}
use Rattle.std.proofs.Common.{inl, inr, ap, mul-le-mul, mul-le-mul_left, mul-le-mul_right, arith}
use Rattle.std.proofs.Math.Decide.{dec_lt}
use Rattle.fractions.proofs.FirstLaws.{Ranks, first_is}
use Rattle.fractions.specs.Fraction.{◌over◌, Fraction, base, ◌≼◌, ◌≺◌, order}
use Rattle.fractions.specs.Greatest.{is_greater_order, greater, first_greatest, FirstGreatest}
use Rattle.fractions.proofs.Laws.{numerator_base, proper_base, order_equal, order_less, order_greater, greater_than, ≼_refl, ≼-total, ≼-≺-trans, ≺-≼-trans}
use Rattle.fractions.specs.Least.{less, first_least, FirstLeast}
use Rattle.std.specs.declared.cmp.Ordering.{Ordering}
use Rattle.std.specs.declared.cmp.Ordering.TheVariants.{Less, Equal, Greater}

-- ---- without a division: by the numerators and the denominators alone

at_most : (f g : Fraction) → f ≼ g → is_greater_order (order f g) ≡ false
at_most f g h = go (dec_lt (f.num * base g) (g.num * base f))
  where
    go : Dec (f ≺ g) → is_greater_order (order f g) ≡ false
    go (yes l) = ap is_greater_order (order_less f g l)
    go (no l) = ap is_greater_order (order_equal f g (omega arith))

module _ (a b c d : ℕ) where
  -- no more over no less is not greater
  pub smaller : a ≤ c → d ≤ b → is_greater_order (order (a over b) (c over d)) ≡ false
  smaller h k = at_most (a over b) (c over d) (go a h)
    where
      go : (m : ℕ) → m ≤ c → (m over b) ≼ (c over d)
      go zero l = omega arith
      go (suc m) l = rw (numerator_base c d (omega arith)) (mul-le-mul l k)

  -- more over no more, which is not 0, is greater
  pub larger : c < a → b ≤ d → 0 < b → is_greater_order (order (a over b) (c over d)) ≡ true
  larger h k l =
      ap is_greater_order
      (order_greater (a over b) (c over d)
      (rw (proper_base a b l, proper_base c d (omega arith)) (omega (arith, mul-le-mul_left c k, mul-le-mul_right d h))))

-- ---- what the test says

module _ (f h : Fraction) where
  is_greater : greater f h ≡ true → h ≺ f
  is_greater e = go (order f h) refl e
    where
      go : (o : Ordering) → order f h ≡ o → is_greater_order o ≡ true → h ≺ f
      go Less q t = let z : ◌≡◌ {A = ℕ} 0 1 = cc in absurd (omega arith)
      go Equal q t = let z : ◌≡◌ {A = ℕ} 0 1 = cc in absurd (omega arith)
      go Greater q t = greater_than f h q

  not_greater : greater f h ≡ false → f ≼ h
  not_greater e = go (≼-total f h)
    where
      go : (f ≼ h) ⊎ (h ≺ f) → f ≼ h
      go (inl l) = l
      go (inr l) = let q = ap is_greater_order (order_greater f h l) in let z : ◌≡◌ {A = ℕ} 0 1 = cc in absurd (omega arith)

-- ---- each is the first of its kind

greatest_ranks : Ranks greater (λ f h. f ≼ h) (λ f h. f ≺ h)
greatest_ranks =
    record {
      is_better = is_greater;
      no_better = not_greater;
      same = ≼_refl;
      along = ≼-≺-trans;
      weaker = λ f h l. omega arith;
    }

least_ranks : Ranks less (λ f h. h ≼ f) (λ f h. h ≺ f)
least_ranks =
    record {
      is_better = λ f h. is_greater h f;
      no_better = λ f h. not_greater h f;
      same = ≼_refl;
      along = λ f h l p q. ≺-≼-trans l h f q p;
      weaker = λ f h l. omega arith;
    }

pub first_greatest_is : (g : ℕ → Fraction) (k : ℕ) → 0 < k → FirstGreatest g k (first_greatest g k)
first_greatest_is g = first_is greatest_ranks g

pub first_least_is : (g : ℕ → Fraction) (k : ℕ) → 0 < k → FirstLeast g k (first_least g k)
first_least_is g = first_is least_ranks g
