-- Definitions only.
-- The first of the best among the first n fractions of a sequence, whatever is better: greater for the row that decides, less for the trial that is kept.
use Rattle.std.specs.Prelude.{ℕ, zero, suc, ◌<◌, Bool, cond}
use Rattle.fractions.specs.Fraction.{Fraction}

-- its place, from 0: a later fraction takes it over only where it is better
unfoldable pub first_best : (Fraction → Fraction → Bool) → (ℕ → Fraction) → ℕ → ℕ
first_best better g zero = 0
first_best better g (suc k) = cond (better (g k) (g (first_best better g k))) k (first_best better g k)

-- ---- what it is

-- b is a place below k, no fraction below k is better, and those before b are worse
pub record First (NoBetter Worse : Fraction → Fraction → Type 0) (g : ℕ → Fraction) (k b : ℕ) : Type 0 where
  pub place : b < k
  pub none_better : (i : ℕ) → i < k → NoBetter (g i) (g b)
  pub earlier : (i : ℕ) → i < b → Worse (g i) (g b)
