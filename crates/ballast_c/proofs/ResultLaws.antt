-- Laws of the one number that a C function returns: the outcome can be read back from it. Assumes nothing.
use Rattle.std.specs.Prelude.{ℕ, zero, suc, ℤ, pos, neg_ℤ, List, ◌≡◌, refl, Err, Ok}
use Rattle.std.proofs.Common.{sym, ap, ◌∙◌, arith}
use Rattle.outcome.specs.CallResult.{LentResult, call_result}
use Rattle.outcome.proofs.Laws.{refusal_of_number}
use Rattle.outcome.specs.Outcome.{number_of, refusal_of, Outcome}
use Rattle.ballast_c.specs.Result.{Returned, result_number, reported_number, outcome_of_result}

pub returned : {X : Type 0} (o : Outcome) {exit : List X} {w : LentResult X} → call_result o exit ≡ w → (r : ℤ) → r ≡ result_number o → Returned r exit w
returned o p r e = record { is = e ∙ ap (λ w. reported_number w.outcome) p; buffer = ap (λ w. w.buffer) p }

pub outcome_of_number : (o : Outcome) → outcome_of_result (result_number o) ≡ o
outcome_of_number (Ok m) = refl
outcome_of_number (Err r) = go (number_of r) refl
  where
    go : (k : ℕ) → number_of r ≡ k → outcome_of_result (neg_ℤ (pos k)) ≡ Err r
    go zero e = absurd (omega (arith, e, ap number_of (sym (refusal_of_number r) ∙ ap refusal_of e)))
    go (suc k) e = ap Err (ap refusal_of (sym e) ∙ refusal_of_number r)

pub number_count : (o : Outcome) (m : ℕ) → result_number o ≡ pos m → o ≡ Ok m
number_count o m e = sym (outcome_of_number o) ∙ ap outcome_of_result e
