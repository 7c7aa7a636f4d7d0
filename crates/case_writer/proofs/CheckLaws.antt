-- Checks in sequence as the writer makes them: the one that fails is handed on, and those before it passed.
-- Assumes nothing.
use mathlib.Core.Path.{◌≡◌, sym, ap, ◌∙◌}
use Rattle.std.specs.Prelude.{Bool, true, Ok, Err, ⊤}
use Rattle.outcome.proofs.Laws.{same_status, check_accepted, stops}
use Rattle.outcome.specs.Outcome.{Status, status_number, check, first}
use Rattle.outcome.specs.declared.Refusal.{Refusal}

pub failed : {x y : Status} {r : Refusal} (s t : Status) → status_number x ≡ status_number s → x ≡ Err r → y ≡ Err r → status_number y ≡ status_number (first s t)
failed {x} s t e h k = ap status_number (stops t (k ∙ sym h ∙ same_status x s e) k)

pub passed : {x : Status} {u : ⊤} (b : Bool) (q : Refusal) → status_number x ≡ status_number (check b q) → x ≡ Ok u → b ≡ true
passed {x} b q e h = check_accepted b q (sym (same_status x (check b q) e) ∙ h)
