-- Definitions only.
-- What the call gives for a case, from the case's bytes to what is read off the record's bytes.
use Rattle.std.specs.Prelude.{ℕ, ℤ, take, drop, replicate, Bool, true, false, List}
use Rattle.buffer.specs.Buffer.{run, all}
use Rattle.rows.specs.Block.{split}
use Rattle.integers.specs.Tables.{table, filled, fill}
use Rattle.rounding.specs.Half.{is_rounded_up}
use Rattle.rounding.specs.Round.{near, rnd}
use Rattle.fractions.specs.Fraction.{order_of_numbers, order}
use Rattle.fractions.specs.First.{first_best}
use Rattle.judge.specs.Finding.{Finding, factor_numerator, factor_denominator}
use Rattle.judge.specs.Judgement.{first_not, first_unmet_row, deciding, judgement}
use Rattle.judge.specs.System.{residual, reach}
use Rattle.elimination.specs.Outcome.{outcome}
use Rattle.elimination.specs.Steps.{working_row, working_matrix, pivot_from, pivot_row, eliminated_row, eliminated_below, next_run, after_steps, eliminated}
use Rattle.substitution.specs.Passes.{forward, correction, backward_from, backward}
use Rattle.solver.specs.Ranking.{best_round}
use Rattle.solver.specs.Refinement.{corrected_from, updated, round, refined, trial_of_round}
use Rattle.solver.specs.Solution.{solution}
use Rattle.outcome.specs.CallResult.{CallResult}
use Rattle.bigendian.specs.Number.{be, be_bytes}
use Rattle.figures.specs.Figures.{items, spread}
use Rattle.fields.specs.Due.{end_status}
use Rattle.fields.specs.Field.{field, field_status}
use Rattle.casefile.specs.Case.{Case, rows_fine}
use Rattle.casefile.specs.Decode.{head_status, row_of, row_status, rows_status, trial_status, trial_of, tail_status, input_status, case_of, decode}
use Rattle.casefile.specs.Layout.{row_bytes, encode}
use Rattle.recordfile.specs.Layout.{condition_fields, record_of, longest_record}
use Rattle.recordfile.specs.ReadOff.{recorded_rounds, recorded_answer, recorded_finding}
use Rattle.ballast.specs.Call.{case_solution, answer_of, record_result, judge_result}

-- ---- what a record says

-- the factor of the row that decides: u / v, or none
pub data Factor : Type 0 where
  ratio : ℕ → ℕ → Factor
  none : Factor

abbrev pub factor_of : Bool → ℕ → ℕ → Factor
factor_of true u v = none
factor_of false u v = ratio u v

-- the figures of a record: Y, R and T (document 01's reach) of each row, and the rows that are named, counted from 1
pub record Figures : Type 0 where
  pub met : Bool
  pub unmet : ℕ
  pub rounds : ℕ
  pub answer : List ℤ
  pub residuals : List ℤ
  pub reaches : List ℕ
  pub factor : Factor
  pub decides : ℕ

-- n rows, read off the record's bytes by position
abbrev figures_of : ℕ → Finding → List ℕ → Figures
figures_of n w s =
    record {
      met = w.met;
      unmet = w.unmet;
      rounds = recorded_rounds 0 s;
      answer = table n (recorded_answer 0 s);
      residuals = table n w.R;
      reaches = table n w.T;
      factor = factor_of w.none (factor_numerator w) (factor_denominator w);
      decides = w.decides;
    }

abbrev pub read_off : ℕ → List ℕ → Figures
read_off n s = figures_of n (recorded_finding n 0 s) s

-- ---- what a call gives

-- the count with the record's figures and the bytes behind the record; or the refusal's number with the buffer
pub data Result : Type 0 where
  recorded : ℕ → Figures → List ℕ → Result
  refused : ℕ → List ℕ → Result

abbrev result_by : ℕ → Bool → ℕ → List ℕ → Result
result_by n false m buffer = recorded m (read_off n (take m buffer)) (drop m buffer)
result_by n true k buffer = refused k buffer

abbrev pub result_of : ℕ → CallResult → Result
result_of n w = result_by n w.outcome.refused w.outcome.number w.buffer

-- a result buffer of so many bytes, none of them a record's
abbrev pub lent : ℕ → List ℕ
lent room = replicate room 0xA5

-- the call on a case's bytes, with the shortest result buffer that it takes. The line below names all that the call computes with, once for
-- every statement about it
unfoldable pub found : Case → Result
unfolding encode row_bytes split spread judge_result decode input_status case_of head_status rows_status row_status row_of rows_fine trial_status trial_of end_status tail_status field_status items all be case_solution answer_of solution eliminated after_steps next_run pivot_row pivot_from eliminated_below eliminated_row working_matrix working_row fill outcome refined trial_of_round best_round round updated corrected_from forward backward backward_from correction rnd near is_rounded_up judgement first_unmet_row first_not deciding first_best order order_of_numbers residual reach filled record_result record_of condition_fields run field be_bytes
found c = result_of c.n (judge_result (encode c) (lent longest_record))
