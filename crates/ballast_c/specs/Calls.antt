-- Definitions only.
-- What the C functions return and leave, over the definitions of the calls behind them.
use Rattle.std.specs.Prelude.{ℕ, ℤ, pos, List, ◌≡◌, Err, Ok}
use Rattle.casefile.specs.Decode.{Decoded, accepted, refused}
use Rattle.ballast.specs.Call.{judge_result}
use Rattle.ballast.specs.Demand.{Demand}
use Rattle.ballast_c.specs.Result.{Returned}
use Rattle.outcome.specs.Outcome.{Outcome}

-- the number of tanks of what was read
unfoldable pub tank_count : Decoded → Outcome
tank_count (accepted c) = Ok c.n
tank_count (refused r) = Err r

-- the outcome and the buffer are those of the call, and a result from 0 on is the length of a record of which the third demand holds
pub record Judged (input entry : List ℕ) (result : ℤ) (exit : List ℕ) : Type 0 where
  pub called : Returned result exit (judge_result input entry)
  pub demand : (m : ℕ) → result ≡ pos m → Demand input exit m
