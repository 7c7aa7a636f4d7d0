-- Definitions only.
-- What is claimed of every solution, in the words of its laws. Rounds are counted from 1.
use Rattle.std.specs.Prelude.{ℕ, suc, ◌<◌, ◌≤◌, ℤ, true, false, List, ◌≡◌}
use Rattle.integers.specs.Tables.{Within}
use Rattle.fractions.specs.Fraction.{◌≼◌, ◌≺◌}
use Rattle.judge.specs.Judgement.{judgement}
use Rattle.judge.specs.System.{System, trial}
use Rattle.elimination.specs.Claims.{ZeroColumn}
use Rattle.elimination.specs.Outcome.{outcome, complete}
use Rattle.elimination.specs.Steps.{eliminated}
use Rattle.solver.specs.Ranking.{factor_of_round}
use Rattle.solver.specs.Refinement.{figure_limit, trial_of_round, within_of_round, judgement_of_round}
use Rattle.solver.specs.Solution.{Solution}
use Rattle.outcome.specs.Outcome.{Accepted}

-- the kept trial is within ±10,000,000, and the judgement beside an answer is its own: the same as for a trial that a case brings
pub record KeptAnswer (s : System) (D : ℕ) (r : Solution) : Type 0 where
  pub figures : Within figure_limit r.trial
  pub judgement_is : r.status ≡ Accepted → r.judgement ≡ judgement s (trial s.n D r.trial)

-- rounds used are 1 to K, and where they are fewer than K the answer is met, by the judge's verdict
pub record Rounds (K : ℕ) (r : Solution) : Type 0 where
  pub some : 1 ≤ r.rounds
  pub few : r.rounds ≤ K
  pub early : r.rounds < K → r.judgement.met ≡ true

-- ---- over one elimination: w its working matrix, o the order of its rows

-- round k stays within its limits, and its trial is not met
pub record RoundUnmet (w : List (List ℤ)) (o : List ℕ) (s : System) (D k : ℕ) : Type 0 where
  pub within : within_of_round w o s D k ≡ true
  pub not_met : (judgement_of_round w o s D k).met ≡ false

-- every round before round k is so
abbrev pub UnmetBefore : List (List ℤ) → List ℕ → System → ℕ → ℕ → Type 0
UnmetBefore w o s D k = (i : ℕ) → 1 ≤ i → i < k → RoundUnmet w o s D i

-- round k, one of K, is the first that is met; and round k is the first that leaves its limits, with none met before it
pub record FirstMet (w : List (List ℤ)) (o : List ℕ) (s : System) (D K k : ℕ) : Type 0 where
  pub some : 1 ≤ k
  pub few : k ≤ K
  pub before : UnmetBefore w o s D k
  pub within : within_of_round w o s D k ≡ true
  pub met : (judgement_of_round w o s D k).met ≡ true

pub record FirstOutside (w : List (List ℤ)) (o : List ℕ) (s : System) (D K k : ℕ) : Type 0 where
  pub some : 1 ≤ k
  pub few : k ≤ K
  pub before : UnmetBefore w o s D k
  pub outside : within_of_round w o s D k ≡ false

-- of K rounds each stays within its limits, none is met, and round b has the best trial: no round's trial has a smaller factor, each earlier round's
-- has a greater one or, where the best one has one, none; and it has one if any has. A trial without a factor is a fraction over 0: above every other,
-- and equal to its like
pub record BestRound (w : List (List ℤ)) (o : List ℕ) (s : System) (D K b : ℕ) : Type 0 where
  pub some : 1 ≤ b
  pub few : b ≤ K
  pub none_met : UnmetBefore w o s D (suc K)
  pub least : (k : ℕ) → 1 ≤ k → k ≤ K → factor_of_round w o s D b ≼ factor_of_round w o s D k
  pub earlier : (k : ℕ) → 1 ≤ k → k < b → factor_of_round w o s D b ≺ factor_of_round w o s D k
  pub factor : (k : ℕ) → 1 ≤ k → k ≤ K → (judgement_of_round w o s D k).none ≡ false → (judgement_of_round w o s D b).none ≡ false

-- which trial an answer of K rounds is: that of a round, with what is said of it. Where it is met, its round is the first so and is the number of
-- rounds used; where it is not, its round is the best and K rounds are used
pub record KeptTrial (w : List (List ℤ)) (o : List ℕ) (s : System) (D K : ℕ) (r : Solution) : Type 0 where
  pub round : ℕ
  pub trial_is : r.trial ≡ trial_of_round w o s D round
  pub judgement_is : r.judgement ≡ judgement_of_round w o s D round
  pub met : r.judgement.met ≡ true → FirstMet w o s D K round × (r.rounds ≡ round)
  pub not_met : r.judgement.met ≡ false → BestRound w o s D K round × (r.rounds ≡ K)

-- ---- over a system's own elimination, which is complete

abbrev pub working_of : System → List (List ℤ)
working_of s = (eliminated s.n s.rows.A).working

abbrev pub order_of : System → List ℕ
order_of s = (eliminated s.n s.rows.A).order

abbrev pub Complete : System → Type 0
Complete s = outcome s.n (eliminated s.n s.rows.A).steps ≡ complete

pub record KeptOfRounds (s : System) (D K : ℕ) (r : Solution) : Type 0 where
  pub complete : Complete s
  pub kept : KeptTrial (working_of s) (order_of s) s D K r

-- the round that leaves its limits, with none met before it
pub record OutsideRangeFound (s : System) (D K : ℕ) : Type 0 where
  pub complete : Complete s
  pub round : ℕ
  pub first : FirstOutside (working_of s) (order_of s) s D K round

-- the step, counted from 0, at which every candidate for the pivot is zero
pub record ZeroPivotFound (s : System) : Type 0 where
  pub step : ℕ
  pub column : ZeroColumn s.n s.rows.A step
