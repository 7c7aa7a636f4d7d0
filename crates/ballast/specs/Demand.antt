-- Definitions only.
-- The third demand, in one piece, about the case's figures and the bytes that the call left.
use Rattle.std.specs.Prelude.{ℕ, ◌<◌, ◌≤◌, pos, get_or, take, List, ◌≡◌, Ok}
use Rattle.judge.specs.Finding.{Justified}
use Rattle.judge.specs.System.{System, Trial}
use Rattle.solver.specs.Claims.{KeptOfRounds}
use Rattle.solver.specs.Solution.{Solution}
use Rattle.outcome.specs.CallResult.{call_result}
use Rattle.outcome.specs.Outcome.{reported_outcome, Outcome}
use Rattle.casefile.specs.Case.{Case}
use Rattle.casefile.specs.Decode.{accepted, decode}
use Rattle.recordfile.specs.ReadOff.{recorded_rounds, recorded_answer, recorded_finding}
use Rattle.ballast.specs.Call.{scale_of, system_of, case_solution, judge_result}

-- the answer that a condition's bytes hold, from the place where they begin, over the scale D
abbrev pub recorded_trial : ℕ → ℕ → ℕ → List ℕ → Trial
recorded_trial n D at bytes = record { n = n; D = D; Y = recorded_answer at bytes }

-- a finished condition: its rows s, the scale D, the answer that was kept, and its bytes, which begin at a place. The recorded answer, rounds and verdict
-- are those that were kept, and all that the bytes say of that answer is justified: met, the changes they yield, the named row, the least factor, and none
pub record Finished (s : System) (D : ℕ) (kept : Solution) (at : ℕ) (bytes : List ℕ) : Type 0 where
  pub answer : (j : ℕ) → j < s.n → recorded_answer at bytes j ≡ get_or kept.trial j (pos 0)
  pub rounds : recorded_rounds at bytes ≡ kept.rounds
  pub met : (recorded_finding s.n at bytes).met ≡ kept.judgement.met
  pub justified : Justified s (recorded_trial s.n D at bytes) (recorded_finding s.n at bytes)

-- "a case is finished when the call .. returns a count and no refusal, and its record is that many bytes, as the call left them at the
-- buffer's front": the case's one condition begins there, and its answer is the trial brought or that of the steps, which is the first trial that is
-- met or the best of the rounds
pub record Demand (input buffer : List ℕ) (m : ℕ) : Type 0 where
  pub case : Case
  pub read : decode input ≡ accepted case
  pub finished : Finished (system_of case) (scale_of case.exponent) (case_solution case) 0 (take m buffer)
  pub kept : 1 ≤ case.rounds → KeptOfRounds (system_of case) (scale_of case.exponent) case.rounds (case_solution case)

abbrev pub Demanded : List ℕ → Outcome → List ℕ → Type 0
Demanded input outcome buffer = (m : ℕ) → reported_outcome outcome ≡ reported_outcome (Ok m) → Demand input buffer m

-- what the call promises: its answer and the buffer are those of the definition, and every record is justified
pub record Promise (input entry : List ℕ) (outcome : Outcome) (exit : List ℕ) : Type 0 where
  pub called : call_result outcome exit ≡ judge_result input entry
  pub demand : Demanded input outcome exit
