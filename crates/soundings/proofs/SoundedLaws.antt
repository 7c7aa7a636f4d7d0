-- What the call's result says: of a count, each tank's depth by the bytes; of refusal 10, that some answer is outside the table; of 2 to 9, that a record is
-- refused so. Assumes nothing.
use Rattle.std.specs.Prelude.{ℕ, ◌*◌, ◌^◌, ◌<◌, ◌≤◌, leb, ℤ, pos, length, get_or, take, drop, Bool, true, false, List, ◌++◌, ◌≡◌, refl, Err, Ok}
use Rattle.std.proofs.Common.{leb-true, le-leb, length-take-le, get_or-take, sym, ap, ◌∙◌, arith}
use Rattle.limits.specs.Limits.{most_tanks}
use Rattle.buffer.specs.AllLaws.{all_fails}
use Rattle.buffer.specs.Buffer.{onto}
use Rattle.buffer.specs.RunLaws.{run_piece}
use Rattle.outcome.specs.CallResult.{call_result, write_if_accepted, check_room}
use Rattle.outcome.proofs.CallResultLaws.{WrittenCount, written_count, written_refusal}
use Rattle.outcome.proofs.Laws.{check_accepted, check_refused, first_left, first_right}
use Rattle.outcome.specs.Outcome.{reported_outcome, check, first, Accepted, Status}
use Rattle.outcome.specs.declared.Refusal.{Refusal}
use Rattle.outcome.specs.declared.Refusal.TheVariants.{BufferTooShort, OutsideTable}
use Rattle.figures.proofs.FigureLaws.{length_figure, figure_back}
use Rattle.figures.specs.Figures.{u16_kind, figure_at}
use Rattle.casefile.specs.Case.{Case}
use Rattle.casefile.proofs.CaseLaws.{Good, decode_good}
use Rattle.casefile.specs.Decode.{accepted, decode}
use Rattle.casefile.proofs.StoredLaws.{get_d_padded, padded_places}
use Rattle.recordfile.specs.Layout.{longest_record}
use Rattle.recordfile.specs.ReadOff.{recorded_answer}
use Rattle.ballast.specs.Call.{Answer, scale_of, case_solution, in_places, answer_of, answer_record, record_result, judge_result}
use Rattle.ballast.proofs.CallLaws.{Answering, answering}
use Rattle.ballast.specs.Demand.{Demand}
use Rattle.ballast.proofs.Theorem.{kept_case}
use Rattle.sounding_table.specs.Depth.{depth, inside}
use Rattle.sounding_table.specs.Table.{reference_tank_entries}
use Rattle.soundings.specs.Sounded.{sounded_depth, SoundedAt, case_answer, OutsideCase, Sounded}
use Rattle.soundings.proofs.SoundingLaws.{depth_small, inside_at, piece, depths_run, length_depths, soundings_refused, soundings_answered, reference_usable}
use Rattle.soundings.specs.Soundings.{soundings_room, all_are_inside, depth_bytes, table_status, soundings_of, soundings_result}
use Rattle.soundings.proofs.TankLaws.{sounded_at, not_inside, outside_not}

-- ---- a depth read back, whatever stands behind the depths

depth_read : (table : List ℕ) (D : ℕ) (Y : List ℤ) (rest : List ℕ) (j : ℕ) → j < length Y → depth table D (get_or Y j (pos 0)) < 2 ^ 16
    → sounded_depth (depth_bytes table D Y ++ rest) j ≡ depth table D (get_or Y j (pos 0))
depth_read table D Y rest j h l =
    let p = run_piece u16_kind.width (piece table D Y) (λ i. length_figure u16_kind (depth table D (get_or Y i (pos 0)))) (length Y) j rest h in
    rw (depths_run table D Y) (ap (figure_at u16_kind) p.here ∙ figure_back u16_kind (depth table D (get_or Y j (pos 0))) l refl p.behind)

-- ---- the answers that are sounded are the case's own

module _ (c : Case) (g : Good c) where
  abbrev answers : List ℤ
  answers = take c.n (in_places (case_solution c)).trial

  length_answers : length answers ≡ c.n
  length_answers = length-take-le c.n _ (omega (arith, g.limits.small, padded_places (pos 0) most_tanks (case_solution c).trial))

  answer_at : (j : ℕ) → j < c.n → get_or answers j (pos 0) ≡ case_answer c j
  answer_at j h = get_or-take c.n _ j (pos 0) h ∙ get_d_padded (pos 0) most_tanks (case_solution c).trial j

-- ---- refusal 10: of a case that 1 to 9 do not refuse

module _ (input out : List ℕ) (c : Case) (read : decode input ≡ accepted c) (answered : (case_solution c).status ≡ Accepted) (room : soundings_room ≤ length out) where
  abbrev D' : ℕ
  D' = scale_of c.exponent

  good : Good c
  good = decode_good input c read

  call_is : write_if_accepted (table_status reference_tank_entries D' (answers c good)) (depth_bytes reference_tank_entries D' (answers c good)) out ≡ soundings_result input out
  unfolding soundings_result answer_of
  call_is = rw read (soundings_answered reference_tank_entries (answer_of (accepted c)) out room answered)

  -- 10 comes only if some answer is outside the table
  pub refused_outside_table : (soundings_result input out).outcome ≡ reported_outcome (Err OutsideTable) → OutsideCase c
  refused_outside_table e =
      let t = written_refusal (table_status reference_tank_entries D' (answers c good)) _ out OutsideTable (ap (λ w. w.outcome) call_is ∙ e) in
      let f = all_fails (inside reference_tank_entries D') (pos 0) (answers c good) (check_refused _ OutsideTable t) in
      let l : f.place < c.n = omega (arith, f.inside, length_answers c good) in
      record { tank = f.place; is_tank = l; outside = not_inside D' (case_answer c f.place) (rw (answer_at c good f.place l) at f.fails) }

  -- and then it does
  pub outside_table_refused : OutsideCase c → (soundings_result input out).outcome ≡ reported_outcome (Err OutsideTable)
  outside_table_refused w = rw (← call_is) (go (all_are_inside reference_tank_entries D' (answers c good)) refl)
    where
      go : (b : Bool) → all_are_inside reference_tank_entries D' (answers c good) ≡ b
          → (write_if_accepted (table_status reference_tank_entries D' (answers c good)) (depth_bytes reference_tank_entries D' (answers c good)) out).outcome ≡ reported_outcome (Err OutsideTable)
      go true q =
          absurd (outside_not D' (case_answer c w.tank) w.outside (rw (answer_at c good w.tank w.is_tank) at (inside_at reference_usable D' (answers c good) q w.tank)))
      go false q = rw q

-- ---- refusals 2 to 9: with room for both, those of a record

pub refused_as_recorded : (input left out : List ℕ) (r : Refusal) → longest_record ≤ length left → soundings_room ≤ length out
    → (judge_result input left).outcome ≡ reported_outcome (Err r) → call_result (Err r) out ≡ soundings_result input out
unfolding judge_result record_result soundings_result
refused_as_recorded input left out r h k e =
    let x = answer_of (decode input) in
    let t = written_refusal (check_room longest_record (length left) x.solution.status) (answer_record x) left r e in
    soundings_refused reference_tank_entries x out r k (rw (le-leb longest_record (length left) h) at t)

-- ---- a count

module _ (input out : List ℕ) (m : ℕ) (e : (soundings_result input out).outcome ≡ reported_outcome (Ok m)) where
  abbrev x : Answer
  x = answer_of (decode input)

  abbrev roomy : Status
  roomy = check (leb soundings_room (length out)) BufferTooShort

  abbrev asked : Status
  asked = table_status reference_tank_entries (scale_of x.exponent) (take x.n x.solution.trial)

  passed : first roomy (first x.solution.status asked) ≡ Accepted
  unfolding soundings_result soundings_of
  passed = (written_count _ _ out m e).accepted

  from : Answering (decode input)
  from = answering (decode input) (first_left x.solution.status asked (first_right roomy _ passed))

  abbrev k : Case
  k = from.figures

  fine : Good k
  fine = decode_good input k from.decoded

  abbrev Y'' : List ℤ
  Y'' = answers k fine

  abbrev D'' : ℕ
  D'' = scale_of k.exponent

  result_is : write_if_accepted (table_status reference_tank_entries D'' Y'') (depth_bytes reference_tank_entries D'' Y'') out ≡ soundings_result input out
  result_is =
      call_is input out k from.decoded from.answered
      (leb-true soundings_room (length out) (check_accepted (leb soundings_room (length out)) BufferTooShort (first_left roomy _ passed)))

  written : WrittenCount (table_status reference_tank_entries D'' Y'') (depth_bytes reference_tank_entries D'' Y'') out m
  written = written_count (table_status reference_tank_entries D'' Y'') (depth_bytes reference_tank_entries D'' Y'') out m (ap (λ w. w.outcome) result_is ∙ e)

  left : (soundings_result input out).buffer ≡ onto (depth_bytes reference_tank_entries D'' Y'') out
  left = ap (λ w. w.buffer) (sym result_is) ∙ written.buffer

  depth_at : (j : ℕ) → j < k.n → SoundedAt D'' (case_answer k j) (sounded_depth (soundings_result input out).buffer j)
  depth_at j h =
      let each = inside_at reference_usable D'' Y'' (check_accepted _ OutsideTable written.accepted) j in
      let here = depth_read reference_tank_entries D'' Y'' (drop (length (depth_bytes reference_tank_entries D'' Y'')) out) j (omega (arith, length_answers k fine)) (depth_small reference_usable D'' (get_or Y'' j (pos 0)) each) in
      rw (left, here, answer_at k fine j h) (sounded_at D'' (case_answer k j) (rw (answer_at k fine j h) at each))

  tanks : m ≡ 2 * k.n
  tanks = omega (arith, written.count, length_depths reference_tank_entries D'' Y'', length_answers k fine)

  pub sounded : Sounded input (soundings_result input out).buffer m
  sounded =
      record {
        case = k;
        read = from.decoded;
        answered = from.answered;
        kept = kept_case k from.answered;
        count = tanks;
        depths = depth_at;
      }

  -- no count is above the room
  pub soundings_count_le : m ≤ soundings_room
  soundings_count_le = omega (arith, tanks, fine.limits.small)

-- ---- the answer that is sounded is the one that a record of the same case holds

pub sounded_as_recorded : {input left buffer : List ℕ} {k m : ℕ} → Demand input left k → (s : Sounded input buffer m)
    → (j : ℕ) → j < s.case.n → SoundedAt (scale_of s.case.exponent) (recorded_answer 0 (take k left) j) (sounded_depth buffer j)
sounded_as_recorded d s j h =
    let q : d.case ≡ s.case = search (d.read, s.read) in
    let a = rw q at d.finished.answer in
    rw (a j h) (s.depths j h)
