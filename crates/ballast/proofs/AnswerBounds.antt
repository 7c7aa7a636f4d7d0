-- What holds of every accepted answer: its figures have their places and are within their limits, and none is wider than its place in a record. Assumes nothing.
use Rattle.std.specs.Prelude.{ℕ, ◌^◌, ◌≤◌, ◌<◌, pos, nat_abs, length, get_or, List, ◌≡◌}
use Rattle.std.proofs.Common.{sym, ap, ◌∙◌, arith}
use Rattle.limits.specs.Limits.{most_tanks, most_exponent, trial_limit}
use Rattle.judge.proofs.Agreement.{judgement_agrees}
use Rattle.judge.specs.Finding.{Agrees, finding}
use Rattle.judge.specs.System.{System, Trial, trial}
use Rattle.solver.proofs.Sizes.{residual_le}
use Rattle.solver.specs.Solution.{Solution}
use Rattle.casefile.specs.Case.{Case}
use Rattle.casefile.proofs.CaseLaws.{Good, decode_good}
use Rattle.casefile.specs.Decode.{decode}
use Rattle.casefile.proofs.StoredLaws.{padded_places}
use Rattle.recordfile.specs.Layout.{longest_record, Recordable}
use Rattle.ballast.proofs.Bounds.{limits, ranges, reach_le}
use Rattle.ballast.specs.Call.{Answer, scale_of, system_of, case_solution, in_places, answer_with, answer_of}
use Rattle.ballast.proofs.CallLaws.{answering}
use Rattle.ballast.proofs.Theorem.{placed_answer, recordable}
use Rattle.outcome.specs.Outcome.{Accepted}

pub record AnswerBounded (x : Answer) : Type 0 where
  pub recordable : Recordable x.n x.solution.rounds x.solution.judgement
  pub exponent_small : x.exponent ≤ most_exponent
  pub places : x.n ≤ length x.solution.trial
  pub figures : (j : ℕ) → nat_abs (get_or x.solution.trial j (pos 0)) ≤ trial_limit
  pub residuals : (i : ℕ) → i < x.n → nat_abs (get_or x.solution.judgement.residuals i (pos 0)) < 2 ^ 63
  pub reaches : (i : ℕ) → i < x.n → get_or x.solution.judgement.reaches i 0 < 256 ^ 8

module _ (c : Case) (g : Good c) where
  abbrev a : Solution
  a = in_places (case_solution c)

  abbrev s : System
  s = system_of c

  abbrev t : Trial
  t = trial c.n (scale_of c.exponent) a.trial

  agrees : a.status ≡ Accepted → Agrees s t (finding a.judgement)
  agrees e = rw ((placed_answer c g).judgement_is e) (judgement_agrees s t (omega (arith, g.limits.least)) g.limits.small)

  bounded : a.status ≡ Accepted → AnswerBounded (answer_with c.n c.exponent a)
  bounded e =
      let f = recordable c g longest_record (omega arith) e in
      let y = (placed_answer c g).figures in
      record {
        recordable = f.figures;
        exponent_small = g.limits.exponent_small;
        places = omega (arith, g.limits.small, padded_places (pos 0) most_tanks (case_solution c).trial);
        figures = y;
        residuals = λ i h. rw ((agrees e).R i h) (omega (arith, residual_le s (scale_of c.exponent) a.trial (limits c g) (ranges c g) y i));
        reaches = λ i h. rw ((agrees e).T i h) (reach_le c g a.trial y i);
      }

pub answer_bounded : (input : List ℕ) (x : Answer) → x ≡ answer_of (decode input) → x.solution.status ≡ Accepted → AnswerBounded x
unfolding answer_of
answer_bounded input x q t =
    let k = answering (decode input) (ap (λ y. y.solution.status) (sym q) ∙ t) in
    rw (q, k.decoded) (bounded k.figures (decode_good input k.figures k.decoded) k.answered)
