-- The definition of soundings as the code meets it: an answer inside a table can be looked up there, and each way through the call. Assumes nothing.
use Rattle.std.specs.Prelude.{ℕ, ◌*◌, ◌^◌, ◌<◌, ◌≤◌, ℤ, pos, negsuc, length, get_or, take, true, false, List, ◌≡◌, Err, Ok}
use Rattle.std.proofs.Common.{le-leb, arith}
use Rattle.std.proofs.Math.Seq.{take-length}
use Rattle.std.proofs.lemmas.Bool.{false≢true}
use Rattle.std.specs.Int.{w16}
use Rattle.buffer.specs.AllLaws.{all_at}
use Rattle.buffer.specs.Buffer.{onto, run}
use Rattle.buffer.specs.RunLaws.{length_run, joined_run}
use Rattle.outcome.specs.CallResult.{call_result, write_if_accepted}
use Rattle.outcome.proofs.CallResultLaws.{written_short, written_refused}
use Rattle.outcome.specs.declared.Refusal.{Refusal}
use Rattle.outcome.specs.declared.Refusal.TheVariants.{BufferTooShort, OutsideTable}
use Rattle.bigendian.specs.Number.{size}
use Rattle.figures.proofs.FigureLaws.{length_figure}
use Rattle.figures.specs.Figures.{u16_kind, figure_bytes}
use Rattle.ballast.specs.Call.{Answer, scale_of}
use Rattle.sounding_table.specs.Depth.{depth, last_entry, inside, Searchable}
use Rattle.sounding_table.specs.DepthLaws.{depth_below}
use Rattle.sounding_table.specs.Table.{reference_tank_entries}
use Rattle.sounding_table.specs.TableLaws.{reference_length, reference_entry_lem, reference_ordered}
use Rattle.soundings.specs.Soundings.{soundings_room, all_are_inside, depth_bytes, table_status, soundings_of, SoundingTable}
use Rattle.outcome.specs.Outcome.{Accepted}

-- ---- an answer that is inside a table

module _ {table : List ℕ} (s : SoundingTable table) (D : ℕ) where
  pub searchable : (Y : ℤ) → inside table D Y ≡ true → Searchable table D Y
  searchable (pos y) e = record { ordered = s.ordered; some = s.some; first = rw s.empty (le-leb (0 * D) (y * 1000) (omega arith)) }
  searchable (negsuc y) e = absurd (false≢true e)

  -- two bytes hold its depth
  pub depth_small : (Y : ℤ) → inside table D Y ≡ true → depth table D Y < 2 ^ 16
  depth_small Y e =
      let q = searchable Y e in
      omega (arith, s.few, depth_below table D Y q.some q.first)

  -- one of those of which all are
  pub inside_at : (Y : List ℤ) → all_are_inside table D Y ≡ true → (j : ℕ) → inside table D (get_or Y j (pos 0)) ≡ true
  inside_at Y e j = all_at (inside table D) (pos 0) (le-leb 0 (last_entry table * D) (omega arith)) Y e j

-- ---- the bytes of depths, by their places

module _ (table : List ℕ) (D : ℕ) (Y : List ℤ) where
  abbrev pub piece : ℕ → List ℕ
  piece j = figure_bytes u16_kind (depth table D (get_or Y j (pos 0)))

  pub depths_run : depth_bytes table D Y ≡ run (length Y) piece
  depths_run = rw (take-length Y) at (joined_run (λ y. figure_bytes u16_kind (depth table D y)) (pos 0) Y (length Y) (omega arith))

  pub length_depths : length (depth_bytes table D Y) ≡ size w16 * length Y
  length_depths = rw depths_run (length_run (size w16) piece (λ j. length_figure u16_kind (depth table D (get_or Y j (pos 0)))) (length Y))

-- ---- each way through the code

module _ (table : List ℕ) (D : ℕ) (Y : List ℤ) (out : List ℕ) where
  pub written_outside : all_are_inside table D Y ≡ false → call_result (Err OutsideTable) out ≡ write_if_accepted (table_status table D Y) (depth_bytes table D Y) out
  written_outside e = rw e

  pub written_inside : {exit : List ℕ} → all_are_inside table D Y ≡ true → exit ≡ onto (depth_bytes table D Y) out
      → call_result (Ok (size w16 * length Y)) exit ≡ write_if_accepted (table_status table D Y) (depth_bytes table D Y) out
  written_inside e w = rw (e, w, ← (length_depths table D Y))

module _ (table : List ℕ) (x : Answer) (out : List ℕ) where
  pub soundings_short : length out < soundings_room → call_result (Err BufferTooShort) out ≡ soundings_of table x out
  unfolding soundings_of
  soundings_short h = written_short soundings_room _ _ out h

  pub soundings_refused : (r : Refusal) → soundings_room ≤ length out → x.solution.status ≡ Err r → call_result (Err r) out ≡ soundings_of table x out
  unfolding soundings_of
  soundings_refused r h e = written_refused soundings_room _ _ out r h (rw e)

  pub soundings_answered : soundings_room ≤ length out → x.solution.status ≡ Accepted
      → let D = scale_of x.exponent in let Y = take x.n x.solution.trial in
      write_if_accepted (table_status table D Y) (depth_bytes table D Y) out ≡ soundings_of table x out
  unfolding soundings_of
  soundings_answered h e = rw (le-leb soundings_room (length out) h, e)

-- ---- the reference tank can be searched

pub reference_usable : SoundingTable reference_tank_entries
reference_usable =
    record {
      ordered = reference_ordered;
      some = rw reference_length (omega arith);
      empty = reference_entry_lem 0 (omega arith);
      few = rw reference_length (omega arith);
    }
