-- Definitions only.
-- The call that takes a case and a buffer and leaves the depths of the case's answer: document 02, "Soundings for the mate".
use Rattle.std.specs.Prelude.{ℕ, ◌*◌, ◌^◌, ◌<◌, ◌≤◌, ℤ, length, take, Bool, true, List, ◌≡◌}
use Rattle.std.specs.Int.{w16}
use Rattle.limits.specs.Limits.{most_tanks}
use Rattle.buffer.specs.Buffer.{joined, all}
use Rattle.outcome.specs.CallResult.{CallResult, write_if_accepted, check_room}
use Rattle.outcome.specs.Outcome.{check, first, Status}
use Rattle.outcome.specs.declared.Refusal.TheVariants.{OutsideTable}
use Rattle.bigendian.specs.Number.{size}
use Rattle.figures.specs.Figures.{u16_kind, figure_bytes}
use Rattle.casefile.specs.Decode.{decode}
use Rattle.ballast.specs.Call.{Answer, scale_of, answer_of}
use Rattle.sounding_table.specs.Depth.{entry_at, depth, inside, NonDecreasing}
use Rattle.sounding_table.specs.Table.{reference_tank_entries}

-- "a buffer of at least 16 bytes": two bytes for each of eight tanks
abbrev pub soundings_room : ℕ
soundings_room = size w16 * most_tanks

-- ---- the answers Y of the tanks, over the scale D, in a table

-- none is "negative or above the entry for 400"
abbrev pub all_are_inside : List ℕ → ℕ → List ℤ → Bool
all_are_inside table D Y = all (inside table D) Y

-- "each tank's greatest depth whose entry is not above Y × 1,000 / D kilograms", "two bytes each", tank 1 first
abbrev pub depth_bytes : List ℕ → ℕ → List ℤ → List ℕ
depth_bytes table D Y = joined (λ y. figure_bytes u16_kind (depth table D y)) Y

-- "It refuses, with 10 .., when an answer is negative or above the entry for 400; no byte then changes"
abbrev pub table_status : List ℕ → ℕ → List ℤ → Status
table_status table D Y = check (all_are_inside table D Y) OutsideTable

-- ---- the call

-- of the answer of a file: "with 10 and after 1 to 9"; "bytes beyond the depths stay as they were, and a shorter buffer is refusal 1"
unfoldable pub soundings_of : List ℕ → Answer → List ℕ → CallResult
soundings_of table a out =
    let D = scale_of a.exponent in
    let Y = take a.n a.solution.trial in
    write_if_accepted (check_room soundings_room (length out) (first a.solution.status (table_status table D Y))) (depth_bytes table D Y) out

-- "For a case, work out its answer as before, write no record", and sound it in the reference tank
unfoldable pub soundings_result : List ℕ → List ℕ → CallResult
soundings_result input out = soundings_of reference_tank_entries (answer_of (decode input)) out

-- ---- what is asked of a table: it does not fall, its first entry is that of an empty tank, and it has no more depths than two bytes count

pub record SoundingTable (table : List ℕ) : Type 0 where
  pub ordered : NonDecreasing table
  pub some : 0 < length table
  pub empty : entry_at table 0 ≡ 0
  pub few : length table ≤ 2 ^ 16

-- what is asked to write depths: also that every answer is inside, and that they have room
pub record DepthsFit (table : List ℕ) (D : ℕ) (Y : List ℤ) (out : List ℕ) : Type 0 where
  pub usable : SoundingTable table
  pub inside : all_are_inside table D Y ≡ true
  pub room : size w16 * length Y ≤ length out
