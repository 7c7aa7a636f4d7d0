-- The answer's definition, case by case, as the code meets it. Assumes nothing.
use Rattle.std.specs.Prelude.{ℕ, zero, suc, ℤ, pos, length, drop, replicate, List, [], ◌++◌, ◌≡◌, refl, Result, Err}
use Rattle.std.proofs.Common.{append-nil, sym, ap, ◌∙◌}
use Rattle.limits.specs.Limits.{most_tanks, most_coefficients}
use Rattle.rows.specs.Block.{over}
use Rattle.judge.specs.Judgement.{Judgement, judgement}
use Rattle.judge.proofs.SameFigures.{SameFigures, same_judgement}
use Rattle.judge.specs.System.{System, trial}
use Rattle.judge.specs.declared.MeasuredTrial.{MeasuredTrial}
use Rattle.solver.proofs.Answers.{trial_places}
use Rattle.solver.proofs.Outcomes.{solution_promised, same_solution}
use Rattle.solver.proofs.SameFigures.{solution_same_figures}
use Rattle.solver.specs.Solution.{Solution, solution_from, SolutionIs}
use Rattle.solver.specs.declared.Kept.{Kept}
use Rattle.solver.specs.declared.Unsolved.{Unsolved}
use Rattle.outcome.proofs.Laws.{not_both}
use Rattle.outcome.specs.declared.Refusal.{Refusal}
use Rattle.casefile.specs.Case.{Case}
use Rattle.casefile.specs.Decode.{Decoded, accepted, refused, padded, places}
use Rattle.casefile.proofs.StoredLaws.{get_d_padded}
use Rattle.case_reader.specs.Read.{CaseLists, zero_lists, lists_read, CaseReadInto}
use Rattle.case_reader.specs.ReadLaws.{CaseHeld}
use Rattle.casefile.specs.declared.CaseHead.{CaseHead}
use Rattle.ballast.specs.Call.{Answer, scale_of, system_of, condition_solution, case_solution, in_places, answer_with, answer_from, no_answer, answer_of, AnswerIs}
use Rattle.ballast.specs.declared.Answered.{Answered}
use Rattle.outcome.specs.Outcome.{Accepted}

-- ---- zeros behind a case's figures change nothing

-- the rows as they stand in lists that were read into
abbrev pub held_system : CaseHead → CaseLists → System
held_system r lists = record { n = r.n; rows = lists.rows }

held_figures : (c : Case) → SameFigures (over c.rows places) c.rows
held_figures c =
    record {
      A = get_d_padded (pos 0) most_coefficients c.rows.A;
      E = get_d_padded 0 most_coefficients c.rows.E;
      b = get_d_padded (pos 0) most_tanks c.rows.b;
      f = get_d_padded 0 most_tanks c.rows.f;
    }

-- nor do they behind a trial's
pub trial_padded : (n D : ℕ) (Y : List ℤ) → trial n D (padded most_tanks (pos 0) Y) ≡ trial n D Y
trial_padded n D Y = λ k. record { n = n; D = D; Y = λ j. get_d_padded (pos 0) most_tanks Y j k }

-- a trial that fills its places is as it was
padded_full : (Y : List ℤ) → length Y ≡ most_tanks → padded most_tanks (pos 0) Y ≡ Y
padded_full Y e = let none : drop (length Y) (replicate most_tanks (pos 0)) ≡ [] = rw e in ap (λ (b : List ℤ). Y ++ b) none ∙ append-nil Y

in_places_full : (a : Solution) → length a.trial ≡ most_tanks → in_places a ≡ a
in_places_full a e =
    ap (λ (Y : List ℤ). record { status = a.status; rounds = a.rounds; trial = Y; judgement = a.judgement }) (padded_full a.trial e)

-- ---- what was worked out

-- with no round allowed, the trial brought and its judgement
pub trial_solution : (s : System) (D k : ℕ) (Y : List ℤ) (j : Judgement) → k ≡ 0 → j ≡ judgement s (trial s.n D Y)
    → record { status = Accepted; rounds = 0; trial = Y; judgement = j } ≡ condition_solution s D k Y
trial_solution s D k Y j e h = rw (e, h)

-- of the rows and the trial with zeros behind them: the case's own, in its places
condition_held : (c : Case) (D k : ℕ)
    → condition_solution (record { n = c.n; rows = over c.rows places }) D k (padded most_tanks (pos 0) c.Y) ≡ in_places (condition_solution (system_of c) D k c.Y)
condition_held c D zero =
    ap (λ (j : Judgement). record { status = Accepted; rounds = 0; trial = padded most_tanks (pos 0) c.Y; judgement = j })
    (same_judgement c.n (over c.rows places) c.rows (held_figures c) _ ∙ ap (judgement (system_of c)) (trial_padded c.n D c.Y))
condition_held c D (suc k) =
    solution_same_figures c.n (over c.rows places) c.rows (held_figures c) D (suc k)
    ∙ sym (in_places_full _ (trial_places (system_of c) D (suc k)))

-- ---- the answer of a file

pub record Answering (d : Decoded) : Type 0 where
  pub figures : Case
  pub decoded : d ≡ accepted figures
  pub answered : (case_solution figures).status ≡ Accepted

pub answering : (d : Decoded) → (answer_of d).solution.status ≡ Accepted → Answering d
unfolding answer_of
answering (accepted c) e = record { figures = c; decoded = refl; answered = e }
answering (refused r) e = not_both (Err r) r refl e

module _ (r x : Answer) where
  pub answer_promised : r ≡ x → AnswerIs r x
  answer_promised e =
      record {
        n = ap (λ (y : Answer). y.n) e;
        exponent = ap (λ (y : Answer). y.exponent) e;
        solution = solution_promised r.solution x.solution (ap (λ (y : Answer). y.solution) e);
      }

  pub same_answer : AnswerIs r x → r ≡ x
  same_answer h =
      λ i. record { n = h.n i; exponent = h.exponent i; solution = same_solution r.solution x.solution h.solution i }

-- the answer where what is kept is known: an answer, or why there is none
pub kept_answer : (r : Answered) (t : MeasuredTrial) {q : Result Kept Unsolved} {x : Answer} → r.kept ≡ q → AnswerIs (answer_from r t) x
    → answer_with r.n r.exponent (solution_from q t) ≡ x
kept_answer r t e w = ap (λ k. answer_with r.n r.exponent (solution_from k t)) (sym e) ∙ same_answer _ _ w

-- the case that was read of d into lists of zeros, and what was worked out over them
pub answer_read : (d : Decoded) {r : CaseHead} {lists : CaseLists} → CaseHeld d zero_lists r lists → (D : ℕ) → D ≡ scale_of r.exponent → (a : Solution)
    → SolutionIs a (condition_solution (held_system r lists) D r.rounds lists.Y) → AnswerIs (answer_with r.n r.exponent a) (answer_of d)
unfolding answer_of case_solution
answer_read d w D s a e =
    let c = w.figures in
    let q : D ≡ scale_of c.exponent = rw w.head at s in
    let h : a ≡ in_places (case_solution c) = same_solution _ _ e ∙ rw (w.head, w.lists, q) (condition_held c (scale_of c.exponent) c.rounds) in
    answer_promised _ _ (rw (h, w.head, w.decoded))

-- beside a refusal the trial's places are zero
pub refused_trial : {d : Decoded} {before after : CaseLists} {r : Result CaseHead Refusal} (q : Refusal) → CaseReadInto d before r after → d ≡ refused q → after.Y ≡ replicate most_tanks (pos 0)
refused_trial {before = before} q w e = ap (λ (l : CaseLists). l.Y) (w.lists ∙ ap (λ (x : Decoded). lists_read x before) e)

-- a trial with these figures, and the residuals and reaches of another
abbrev with_figures : List ℤ → MeasuredTrial → MeasuredTrial
with_figures Y t = record { figures = Y; residuals = t.residuals; reaches = t.reaches }

-- a refusal of the reading is the answer of the file
pub refusal_read : (d : Decoded) (q : Refusal) → d ≡ refused q → (r : Answered) (t : MeasuredTrial) → t.figures ≡ replicate most_tanks (pos 0)
    → AnswerIs (answer_from r (with_figures (replicate most_tanks (pos 0)) t)) (no_answer q) → AnswerIs (answer_from r t) (answer_of d)
unfolding answer_of
refusal_read d q e r t h s = let same : with_figures (replicate most_tanks (pos 0)) t ≡ t = ap (λ (Y : List ℤ). with_figures Y t) (sym h) in rw (e, ← same) s

-- so is one that is the answer beside it
pub no_answer_read : (d : Decoded) (q : Refusal) → d ≡ refused q → (r : Answer) → r ≡ no_answer q → AnswerIs r (answer_of d)
unfolding answer_of
no_answer_read d q e r h = answer_promised _ _ (rw (h, e))
