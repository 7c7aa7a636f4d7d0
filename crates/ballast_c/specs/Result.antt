-- Definitions only.
-- The one number that a C function returns: a count from 0 on, or a refusal below 0.
use Rattle.std.specs.Prelude.{ℕ, suc, ◌^◌, ◌<◌, ℤ, pos, negsuc, neg_ℤ, cond, List, ◌≡◌, Err, Ok}
use Rattle.outcome.specs.CallResult.{LentResult}
use Rattle.outcome.specs.Outcome.{refusal_of, ReportedOutcome, reported_outcome, Outcome}

abbrev pub reported_number : ReportedOutcome → ℤ
reported_number s = cond s.refused (neg_ℤ (pos s.number)) (pos s.number)

abbrev pub result_number : Outcome → ℤ
result_number o = reported_number (reported_outcome o)

-- what can be returned: a count that is a signed number of 64 bits
pub record CountFits (o : Outcome) : Type 0 where
  pub count : (m : ℕ) → o ≡ Ok m → m < 2 ^ 63

-- a call's result and its list are those of an outcome and the list beside it
pub record Returned {X : Type 0} (result : ℤ) (exit : List X) (w : LentResult X) : Type 0 where
  pub is : result ≡ reported_number w.outcome
  pub buffer : exit ≡ w.buffer

-- ---- count or refusal, without ambiguity: the outcome that a number stands for

abbrev pub outcome_of_result : ℤ → Outcome
outcome_of_result (pos m) = Ok m
outcome_of_result (negsuc k) = Err (refusal_of (suc k))
