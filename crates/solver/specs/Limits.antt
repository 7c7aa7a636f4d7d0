-- Definitions only.
-- What the rounds ask of a system, of its elimination and of a trial, so that nothing wraps.
use Rattle.std.specs.Prelude.{ℕ, suc, ◌^◌, ◌<◌, ◌≤◌, ℤ, List, ◌≡◌}
use Rattle.limits.specs.Limits.{most_tanks, most_exponent}
use Rattle.integers.specs.Tables.{Within}
use Rattle.judge.specs.Judgement.{residual_vector}
use Rattle.judge.specs.System.{System, trial}
use Rattle.elimination.specs.Claims.{Factors, Permutation}
use Rattle.substitution.specs.Bounds.{residual_bound}
use Rattle.substitution.specs.Passes.{correction_limit}
use Rattle.solver.specs.Refinement.{Progress, figure_limit}

-- "The exponent e is 0 to 3 and D is 10 to the power e."
abbrev pub scale_limit : ℕ
scale_limit = 10 ^ most_exponent

-- n is at most 8 and D at most 1,000
pub record Limits (n D : ℕ) : Type 0 where
  pub small : n ≤ most_tanks
  pub scale : D ≤ scale_limit

-- the figures' types: 16 bits for a coefficient, 32 for a right-hand side
pub record Ranges (a b : List ℤ) : Type 0 where
  pub coefficients : Within (2 ^ 15) a
  pub right_sides_lem : Within (2 ^ 31) b

-- the working matrix as a complete elimination of n rows leaves it, and the order
pub record Eliminated (n : ℕ) (w : List (List ℤ)) (o : List ℕ) : Type 0 where
  pub factors : Factors n w
  pub order : Permutation n o

-- what the rounds ask, over one elimination
pub record Startable (w : List (List ℤ)) (o : List ℕ) (n D : ℕ) : Type 0 where
  pub limits : Limits n D
  pub eliminated : Eliminated n w o

-- a trial within its limits, beside the residuals that it leaves
pub record Resumable (s : System) (D : ℕ) (p : Progress) : Type 0 where
  pub figures : Within figure_limit p.trial
  pub residuals_are : p.judgement.residuals ≡ residual_vector s (trial s.n D p.trial)

-- what a round asks; the last, that rounds can be counted on
pub record Ready (w : List (List ℤ)) (o : List ℕ) (s : System) (D : ℕ) (p : Progress) : Type 0 where
  pub startable : Startable w o s.n D
  pub resumable : Resumable s D p
  pub countable : suc p.rounds < 2 ^ 64

-- what an update asks, from the residuals R on
pub record Updatable (n : ℕ) (w : List (List ℤ)) (o : List ℕ) (R Y : List ℤ) : Type 0 where
  pub places : n ≤ most_tanks
  pub eliminated : Eliminated n w o
  pub residuals : Within residual_bound R
  pub figures : Within figure_limit Y

-- and from the corrections d on
pub record FiguresCorrectable (n : ℕ) (Y d : List ℤ) : Type 0 where
  pub places : n ≤ most_tanks
  pub figures : Within figure_limit Y
  pub corrections : Within correction_limit d
