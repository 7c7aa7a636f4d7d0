-- The C functions' definitions as the code meets them: every count is small, and each call behind them gives what they promise. Assumes nothing.
use Rattle.std.specs.Prelude.{ℕ, ◌≤◌, ℤ, List, ◌≡◌, Err, Ok}
use Rattle.std.proofs.Common.{sym, ap, ◌∙◌, arith}
use Rattle.outcome.specs.CallResult.{LentResult, call_result}
use Rattle.outcome.proofs.Laws.{no_count}
use Rattle.outcome.specs.Outcome.{reported_outcome, Outcome}
use Rattle.outcome.specs.declared.Refusal.{Refusal}
use Rattle.casefile.specs.Case.{Case}
use Rattle.casefile.proofs.CaseLaws.{decode_good}
use Rattle.casefile.specs.Decode.{Decoded, refused, decode}
use Rattle.casefile.specs.Write.{write}
use Rattle.casefile.proofs.WriteLaws.{count_le as case_count_le}
use Rattle.case_reader.specs.Read.{CaseLists}
use Rattle.case_reader.specs.ReadLaws.{CaseHeld}
use Rattle.casefile.specs.declared.CaseHead.{CaseHead}
use Rattle.ballast.specs.Demand.{Promise}
use Rattle.ballast.proofs.Theorem.{count_le}
use Rattle.soundings.proofs.SoundedLaws.{soundings_count_le}
use Rattle.soundings.specs.Soundings.{soundings_result}
use Rattle.report.specs.Text.{text_room}
use Rattle.verdict_text.specs.Verdict.{text_call}
use Rattle.verdict_text.specs.VerdictLaws.{text_count_le}
use Rattle.matrixfile.proofs.CallLaws.{matrix_read}
use Rattle.matrixfile.specs.Read.{matrix_reading}
use Rattle.matrixfile.specs.Text.{matrix_writing}
use Rattle.matrixfile.specs.TextLaws.{matrix_count_le}
use Rattle.ballast_c.specs.Calls.{tank_count, Judged}
use Rattle.ballast_c.specs.Result.{result_number, CountFits, Returned}
use Rattle.ballast_c.proofs.ResultLaws.{returned, number_count}

-- ---- the result number

pub small_refused : (r : Refusal) → CountFits (Err r)
small_refused r = record { count = λ m e. no_count r m (ap reported_outcome e) }

pub small_count : (k : ℕ) → k ≤ text_room → CountFits (Ok k)
small_count k h = record { count = λ m e. let q : k ≡ m = cc in omega arith }

-- of a call whose every count is within the largest room
pub call_small : {X : Type 0} {exit : List X} {w : LentResult X} (o : Outcome) → call_result o exit ≡ w → ((m : ℕ) → w.outcome ≡ reported_outcome (Ok m) → m ≤ text_room) → CountFits o
call_small o p le = record { count = λ m e. omega (arith, le m (ap (λ x. x.outcome) (sym p) ∙ ap reported_outcome e)) }

-- ---- reading

pub tanks_refused : (d : Decoded) (r : Refusal) → d ≡ refused r → Err r ≡ tank_count d
unfolding tank_count
tanks_refused d r e = rw e

module _ (input : List ℕ) (r : CaseHead) {before after : CaseLists} (w : CaseHeld (decode input) before r after) where
  pub tanks_accepted : Ok r.n ≡ tank_count (decode input)
  unfolding tank_count
  tanks_accepted = rw w.decoded (ap (λ x. Ok x.n) w.head)

  pub few_tanks : r.n ≤ text_room
  few_tanks = omega (arith, ap (λ x. x.n) w.head, (decode_good input w.figures w.decoded).limits.small)

-- ---- judging

module _ (input entry exit : List ℕ) (o : Outcome) (p : Promise input entry o exit) where
  pub judged_small : CountFits o
  judged_small = call_small o p.called (λ m e. omega (arith, count_le input entry m e))

  pub judged : (r : ℤ) → r ≡ result_number o → Judged input entry r exit
  judged r e =
      record {
        called = returned o p.called r e;
        demand = λ m q. p.demand m (ap reported_outcome (number_count o m (sym e ∙ q)));
      }

-- ---- writing

module _ (c : Case) (entry exit : List ℕ) (o : Outcome) (p : call_result o exit ≡ write c entry) where
  pub written_small : CountFits o
  written_small = call_small o p (λ m e. omega (arith, case_count_le c entry m e))

  pub written : (r : ℤ) → r ≡ result_number o → Returned r exit (write c entry)
  written r e = returned o p r e

-- ---- soundings

pub soundings_small : (input entry exit : List ℕ) (o : Outcome) → call_result o exit ≡ soundings_result input entry → CountFits o
soundings_small input entry exit o p = call_small o p (λ m e. omega (arith, soundings_count_le input entry m e))

-- ---- the printed verdict

pub text_small : (input entry exit : List ℕ) (o : Outcome) → call_result o exit ≡ text_call input entry → CountFits o
text_small input entry exit o p = call_small o p (text_count_le input entry)

-- ---- Matrix Market files

pub matrix_read_small : (text : List ℕ) (entry exit : List ℤ) (o : Outcome) → call_result o exit ≡ matrix_reading text entry → CountFits o
matrix_read_small text entry exit o p = call_small o p (λ m e. omega (arith, (matrix_read text entry m e).limits.small))

pub matrix_written_small : (n : ℕ) (A : List ℤ) (entry exit : List ℕ) (o : Outcome) → call_result o exit ≡ matrix_writing n A entry → CountFits o
matrix_written_small n A entry exit o p = call_small o p (λ m e. omega (arith, matrix_count_le n A entry m e))
