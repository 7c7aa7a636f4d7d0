-- Definitions only.
-- The call that takes a case and a result buffer and leaves the record: what it answers and what the buffer then holds, in document 01's order.
use Rattle.std.specs.Prelude.{ℕ, ◌^◌, ℤ, pos, length, replicate, false, List, ◌≡◌}
use Rattle.limits.specs.Limits.{most_tanks}
use Rattle.judge.specs.System.{System}
use Rattle.judge.specs.declared.MeasuredTrial.{MeasuredTrial}
use Rattle.solver.specs.Refinement.{Progress, nothing_said_yet}
use Rattle.solver.specs.Solution.{Solution, solution_from, judged_trial, refused_solution, solution, SolutionIs}
use Rattle.outcome.specs.CallResult.{CallResult, write_if_accepted, check_room}
use Rattle.outcome.specs.declared.Refusal.{Refusal}
use Rattle.casefile.specs.Case.{Case, where_trial_given}
use Rattle.casefile.specs.Decode.{Decoded, accepted, refused, decode, padded}
use Rattle.recordfile.specs.Layout.{record_of, longest_record}
use Rattle.ballast.specs.declared.Answered.{Answered}

-- "D is 10 to the power e"
abbrev pub scale_of : ℕ → ℕ
scale_of e = 10 ^ e

-- the rows of a case, over its own lists
abbrev pub system_of : Case → System
system_of c = record { n = c.n; rows = c.rows }

-- "that answer is the trial brought or, for K above 0, the one kept from the steps": of one condition, with the rows s, the scale D, K = k and the
-- trial Y. "0 means that the case brings its trial", with no round used
abbrev pub condition_solution : System → ℕ → ℕ → List ℤ → Solution
condition_solution s D k Y = where_trial_given k (judged_trial s D 0 Y) (solution s D k)

-- a case has one condition
unfoldable pub case_solution : Case → Solution
case_solution c = condition_solution (system_of c) (scale_of c.exponent) c.rounds c.Y

-- ---- the answer of a file, with no record written

-- what a file's case comes to: its answer with the rounds used and its judgement, or the refusal
pub record Answer : Type 0 where
  pub n : ℕ
  pub exponent : ℕ
  pub solution : Solution

-- by what is returned, and the trial that is lent
abbrev pub answer_from : Answered → MeasuredTrial → Answer
answer_from r t = record { n = r.n; exponent = r.exponent; solution = solution_from r.kept t }

-- the answer in the places that are there for any case: zeros stand behind a trial that is brought
abbrev pub in_places : Solution → Solution
in_places a =
    record { status = a.status; rounds = a.rounds; trial = padded most_tanks (pos 0) a.trial; judgement = a.judgement }

abbrev pub answer_with : ℕ → ℕ → Solution → Answer
answer_with n exponent a = record { n = n; exponent = exponent; solution = a }

-- beside a refusal of the reading all figures are zero
abbrev pub no_progress : Progress
no_progress =
    record {
      within = false;
      rounds = 0;
      trial = replicate most_tanks (pos 0);
      judgement = nothing_said_yet (replicate most_tanks (pos 0)) (replicate most_tanks 0);
    }

abbrev pub no_answer : Refusal → Answer
no_answer r = answer_with 0 0 (refused_solution r no_progress)

-- refusals 8 and 9 "come only when the whole case has been read"
unfoldable pub answer_of : Decoded → Answer
answer_of (accepted c) = answer_with c.n c.exponent (in_places (case_solution c))
answer_of (refused r) = no_answer r

-- what is promised: r is the answer x, its status by the paper's number
pub record AnswerIs (r x : Answer) : Type 0 where
  pub n : r.n ≡ x.n
  pub exponent : r.exponent ≡ x.exponent
  pub solution : SolutionIs r.solution x.solution

-- ---- the call

-- the bytes of an answer's record
abbrev pub answer_record : Answer → List ℕ
answer_record a = record_of a.n a.solution.rounds a.solution.trial a.solution.judgement

-- "The result buffer is shorter than 180 bytes", checked once and first; "The result buffer beyond the record stays as it was. The count
-- returned is the record's length."
unfoldable pub record_result : Answer → List ℕ → CallResult
record_result a out = write_if_accepted (check_room longest_record (length out) a.solution.status) (answer_record a) out

unfoldable pub judge_result : List ℕ → List ℕ → CallResult
judge_result input out = record_result (answer_of (decode input)) out
