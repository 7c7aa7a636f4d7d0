-- Definitions only.
-- What the writers of a case's fields and of its trial ask: figures within their limits, lists that have the counts due, and room in the buffer.
use Rattle.std.specs.Prelude.{ℕ, ◌+◌, ◌≤◌, ℤ, length, List, ◌≡◌}
use Rattle.limits.specs.Limits.{most_tanks}
use Rattle.rows.specs.Block.{RowsRoom}
use Rattle.outcome.specs.Outcome.{Accepted}
use Rattle.fields.specs.Field.{end_size}
use Rattle.casefile.specs.Case.{Case, HeadSmall, trial_count_due, case_status}
use Rattle.casefile.specs.Layout.{trial_size, end_at}

pub record CaseRoom (out : List ℕ) (c : Case) : Type 0 where
  pub accepted : case_status c ≡ Accepted
  pub limits : HeadSmall c.n c.exponent c.rounds
  pub rows : RowsRoom c.n c.rows
  pub count : length c.Y ≡ trial_count_due c.rounds c.n
  pub room : end_at c.rounds c.n + end_size ≤ length out

pub record TrialRoom (out : List ℕ) (rounds n : ℕ) (Y : List ℤ) : Type 0 where
  pub room : trial_size rounds n ≤ length out
  pub small : n ≤ most_tanks
  pub count : length Y ≡ trial_count_due rounds n
