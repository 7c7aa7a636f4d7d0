-- The third demand holds of every record that the call leaves: what is read off the bytes is the judgement of the recorded answer, and that is
-- justified by the theorem of Oettli and Prager. Assumes nothing.
use Rattle.std.specs.Prelude.{ℕ, zero, suc, ◌^◌, ◌≤◌, ◌<◌, ℤ, pos, length, get_or, List, ◌≡◌, refl, Ok}
use Rattle.std.proofs.Common.{sym, ◌∙◌, SFits, arith}
use Rattle.std.proofs.Math.Path.{ap, subst}
use Rattle.std.specs.Int.{w32, w64}
use Rattle.limits.specs.Limits.{most_tanks, most_rounds}
use Rattle.integers.specs.Size.{sfits_size}
use Rattle.judge.proofs.Agreement.{judgement_agrees, agrees_with}
use Rattle.judge.specs.Finding.{Justified, Agrees}
use Rattle.judge.specs.Judgement.{Judgement, judgement}
use Rattle.judge.proofs.Laws.{unmet_le, deciding_below}
use Rattle.judge.specs.System.{System, Trial, row, trial, residual, reach}
use Rattle.judge.proofs.Theorem.{justified}
use Rattle.solver.proofs.Answers.{answer, rounds, kept_trial}
use Rattle.solver.specs.Claims.{KeptAnswer, KeptOfRounds}
use Rattle.solver.proofs.Sizes.{residual_le}
use Rattle.solver.specs.Solution.{Solution}
use Rattle.outcome.specs.CallResult.{check_room, call_result}
use Rattle.outcome.proofs.CallResultLaws.{WrittenCount, written_count}
use Rattle.outcome.proofs.Laws.{first_right}
use Rattle.outcome.specs.Outcome.{reported_outcome, Accepted, Outcome}
use Rattle.casefile.specs.Case.{Case}
use Rattle.casefile.proofs.CaseLaws.{Good, decode_good}
use Rattle.casefile.specs.Decode.{decode}
use Rattle.casefile.proofs.StoredLaws.{get_d_padded}
use Rattle.recordfile.specs.Laws.{length_record, longest_record_lem}
use Rattle.recordfile.specs.Layout.{record_of, longest_record, RecordFits}
use Rattle.recordfile.specs.ReadOff.{recorded_answer, recorded_finding}
use Rattle.recordfile.proofs.ReadOffLaws.{HoldsCondition, record_holds, recorded_met, recorded_unmet, recorded_rounds_lem, recorded_answer_lem, recorded_residual, recorded_reach, recorded_none, recorded_decides}
use Rattle.ballast.proofs.Bounds.{limits, ranges, trial_figures_lem, reach_le}
use Rattle.ballast.specs.Call.{Answer as FileAnswer, scale_of, system_of, condition_solution, case_solution, in_places, answer_of, answer_record, record_result, judge_result}
use Rattle.ballast.proofs.CallLaws.{trial_padded, Answering, answering}
use Rattle.ballast.specs.Demand.{recorded_trial, Finished, Demand, Promise}

-- ---- the answer, brought or worked out: within its limits, and where it is accepted beside its own judgement

module _ (c : Case) (g : Good c) where
  solution_with_answer : (k : ℕ) → KeptAnswer (system_of c) (scale_of c.exponent) (condition_solution (system_of c) (scale_of c.exponent) k c.Y)
  solution_with_answer zero = record { figures = trial_figures_lem c g; judgement_is = λ _. refl }
  solution_with_answer (suc k) = answer (system_of c) (scale_of c.exponent) (suc k)

  solution_answer : KeptAnswer (system_of c) (scale_of c.exponent) (case_solution c)
  unfolding case_solution
  solution_answer = solution_with_answer c.rounds

  -- in its places too
  pub placed_answer : KeptAnswer (system_of c) (scale_of c.exponent) (in_places (case_solution c))
  placed_answer =
      record {
        figures = λ i. rw (get_d_padded (pos 0) most_tanks (case_solution c).trial i) (solution_answer.figures i);
        judgement_is = λ e. solution_answer.judgement_is e ∙ ap (judgement (system_of c)) (sym (trial_padded c.n (scale_of c.exponent) (case_solution c).trial));
      }

-- which trial is the answer of a condition that brings none
kept_condition : (s : System) (D k : ℕ) (Y : List ℤ) → 1 ≤ k → (condition_solution s D k Y).status ≡ Accepted → KeptOfRounds s D k (condition_solution s D k Y)
kept_condition s D zero Y l = absurd (omega arith)
kept_condition s D (suc k) Y l = kept_trial s D (suc k) l

pub kept_case : (c : Case) → (case_solution c).status ≡ Accepted → 1 ≤ c.rounds → KeptOfRounds (system_of c) (scale_of c.exponent) c.rounds (case_solution c)
unfolding case_solution
kept_case c e l = kept_condition (system_of c) (scale_of c.exponent) c.rounds c.Y l e

-- ---- what is read off the bytes of a condition

-- the fields of an answer Y over the rows s, with the rounds used, from a place on; what stands behind them plays no part
module _ (s : System) (D rounds : ℕ) (Y : List ℤ) (h : 0 < s.n) (k : s.n ≤ most_tanks)
    (fits-answer : (i : ℕ) → SFits w32 (get_or Y i (pos 0)))
    (fits_residual : (i : ℕ) → SFits w64 (residual (row s i) (trial s.n D Y)))
    (fits-reach : (i : ℕ) → reach (row s i) (trial s.n D Y) < 256 ^ 8)
    {at : ℕ} {bytes : List ℕ} (c : HoldsCondition s.n rounds Y (judgement s (trial s.n D Y)) at bytes) where
  abbrev t : Trial
  t = trial s.n D Y

  -- the bytes agree with the judgement
  agreeing : Agrees s t (recorded_finding s.n at bytes)
  agreeing =
      let g = judgement_agrees s t h k in
      record {
        met = recorded_met c ∙ g.met;
        unmet = recorded_unmet c ∙ g.unmet;
        none = recorded_none c ∙ g.none;
        decides = recorded_decides c ∙ g.decides;
        R = λ i l. recorded_residual c i l (rw (g.R i l) (fits_residual i)) ∙ g.R i l;
        T = λ i l. recorded_reach c i l (rw (g.T i l) (fits-reach i)) ∙ g.T i l;
      }

  answered : (j : ℕ) → j < s.n → recorded_answer at bytes j ≡ get_or Y j (pos 0)
  answered j l = recorded_answer_lem c j l (fits-answer j)

  -- so what they say of the answer that they hold is justified
  condition_justified : Justified s (recorded_trial s.n D at bytes) (recorded_finding s.n at bytes)
  condition_justified =
      justified s (recorded_trial s.n D at bytes) h (recorded_finding s.n at bytes)
      (agrees_with t (recorded_answer at bytes) (λ j l. sym (answered j l)) s (recorded_finding s.n at bytes) agreeing)

  -- and the condition is finished, by whatever kept answer has those figures, rounds and verdict
  pub finished_condition : (kept : Solution) → ((j : ℕ) → j < s.n → get_or Y j (pos 0) ≡ get_or kept.trial j (pos 0)) → rounds ≡ kept.rounds
      → (judgement s t).met ≡ kept.judgement.met → Finished s D kept at bytes
  finished_condition kept same e m =
      record {
        answer = λ j l. answered j l ∙ same j l;
        rounds = recorded_rounds_lem c ∙ e;
        met = recorded_met c ∙ m;
        justified = condition_justified;
      }

-- ---- a finished case

module _ (c : Case) (g : Good c) where
  abbrev a : Solution
  a = in_places (case_solution c)

  abbrev D' : ℕ
  D' = scale_of c.exponent

  fits_figure : (i : ℕ) → SFits w32 (get_or a.trial i (pos 0))
  fits_figure i = sfits_size (omega (arith, (placed_answer c g).figures i))

  fits_residual : (i : ℕ) → SFits w64 (residual (row (system_of c) i) (trial c.n D' a.trial))
  fits_residual i = sfits_size (omega (arith, residual_le (system_of c) D' a.trial (limits c g) (ranges c g) (placed_answer c g).figures i))

  -- the bytes of its record, by the judgement of the kept answer
  finished_case : (case_solution c).status ≡ Accepted → Finished (system_of c) D' (case_solution c) 0 (record_of c.n a.rounds a.trial a.judgement)
  finished_case e =
      subst (λ (j : Judgement). Finished (system_of c) D' (case_solution c) 0 (record_of c.n a.rounds a.trial j)) (sym ((placed_answer c g).judgement_is e))
      (finished_condition (system_of c) D' a.rounds a.trial (omega (arith, g.limits.least)) g.limits.small fits_figure fits_residual
      (reach_le c g a.trial (placed_answer c g).figures) (record_holds c.n a.rounds a.trial _) (case_solution c)
      (λ j l. get_d_padded (pos 0) most_tanks (case_solution c).trial j) refl (ap (λ (j : Judgement). j.met) (sym ((placed_answer c g).judgement_is e))))

-- ---- the call

-- a count comes only from an answer, and the bytes at the buffer's front are its record
module _ (input out : List ℕ) (m : ℕ) (e : (judge_result input out).outcome ≡ reported_outcome (Ok m)) where
  abbrev x : FileAnswer
  x = answer_of (decode input)

  counted : WrittenCount (check_room longest_record (length out) x.solution.status) (answer_record x) out m
  unfolding judge_result record_result
  counted = written_count (check_room longest_record (length out) x.solution.status) (answer_record x) out m e

  from : Answering (decode input)
  from = answering (decode input) (search (counted.accepted, first_right))

  fine : Good from.figures
  fine = decode_good input from.figures from.decoded

  -- no count is above the longest record
  pub count_le : m ≤ longest_record
  unfolding answer_of
  count_le =
      let l : x.n ≤ most_tanks = rw from.decoded fine.limits.small in
      omega (arith, counted.count, length_record x.n x.solution.rounds x.solution.trial x.solution.judgement, longest_record_lem x.n l)

  -- every count that the call returns is of a finished case
  pub demanded : Demand input (judge_result input out).buffer m
  unfolding judge_result record_result answer_of
  demanded =
      record {
        case = from.figures;
        read = from.decoded;
        finished =
            let k = from.figures in
            subst (λ b. Finished (system_of k) (scale_of k.exponent) (case_solution k) 0 b) (sym counted.front)
            (rw from.decoded (finished_case k fine from.answered));
        kept = kept_case from.figures from.answered;
      }

-- so a call that answers and leaves what the definition says keeps its promise
pub promised : (input entry : List ℕ) (o : Outcome) (exit : List ℕ) → call_result o exit ≡ judge_result input entry → Promise input entry o exit
promised input entry o exit e =
    record {
      called = e;
      demand = λ m q.
          subst (λ b. Demand input b m) (ap (λ w. w.buffer) (sym e)) (demanded input entry m (ap (λ w. w.outcome) (sym e) ∙ q));
    }

-- ---- what a record asks of an answer: rows and rounds of a byte each

module _ (c : Case) (g : Good c) where
  rounds_le : (k : ℕ) → k ≤ most_rounds → let a = condition_solution (system_of c) (scale_of c.exponent) k c.Y in a.status ≡ Accepted → a.rounds ≤ most_rounds
  rounds_le zero h e = omega arith
  rounds_le (suc k) h e = omega (arith, (rounds (system_of c) (scale_of c.exponent) (suc k) (omega arith) e).few)

  pub recordable : (room : ℕ) → longest_record ≤ room → (case_solution c).status ≡ Accepted → RecordFits c.n (case_solution c).rounds (case_solution c).judgement room
  unfolding case_solution
  recordable room h e =
      let r = rounds_le c.rounds g.limits.rounds_small e in
      let j = (solution_answer c g).judgement_is e in
      let u = ap (λ k. k.unmet) j in
      let d = ap (λ k. k.decides) j in
      let t = trial c.n (scale_of c.exponent) (case_solution c).trial in
      let a = judgement_agrees (system_of c) t (omega (arith, g.limits.least)) g.limits.small in
      let ul = unmet_le (system_of c) t in
      let dl = deciding_below (system_of c) t (omega (arith, g.limits.least)) in
      let small = g.limits.small in
      record {
        figures =
            record {
              rows = g.limits.small;
              rounds_byte = omega arith;
              unmet_byte = omega (arith, u, a.unmet, ul);
              decides_byte = omega (arith, d, a.decides, dl);
            };
        enough = omega arith;
      }

-- an answer that was accepted fits a record
pub answer_recordable : (input : List ℕ) (x : FileAnswer) (room : ℕ) → x ≡ answer_of (decode input) → x.solution.status ≡ Accepted → longest_record ≤ room
    → RecordFits x.n x.solution.rounds x.solution.judgement room
unfolding answer_of
answer_recordable input x room q t h =
    let k = answering (decode input) (ap (λ y. y.solution.status) (sym q) ∙ t) in
    rw (q, k.decoded) (recordable k.figures (decode_good input k.figures k.decoded) room h k.answered)
