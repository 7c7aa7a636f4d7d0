-- What the check of a field and the test of its value answer together. Assumes nothing.
use Rattle.std.specs.Prelude.{Bool, true, ◌≡◌, Err}
use Rattle.std.proofs.Common.{sym, ap, ◌∙◌}
use Rattle.outcome.proofs.Laws.{same_status, stops, first_goes_on, not_both, check_accepted}
use Rattle.outcome.specs.Outcome.{status_number, check, first, Accepted, Status}
use Rattle.outcome.specs.declared.Refusal.{Refusal}
use Rattle.fields.specs.Due.{FieldsRead}

module _ {A : Type 0} {due : Status} {value : A} {x : Status} {out : A} where
  -- the status itself
  pub read_status : FieldsRead due value x out → x ≡ due
  read_status f = same_status x due f.number

  pub fields_read : x ≡ due → (x ≡ Accepted → out ≡ value) → FieldsRead due value x out
  fields_read e m = record { number = ap status_number e; made = λ z. m (same_status x Accepted z) }

  -- what was read, where nothing is refused
  pub read_made : FieldsRead due value x out → x ≡ Accepted → out ≡ value
  read_made f e = f.made (ap status_number e)

module _ {A : Type 0} {value out : A} {x s : Status} (e : x ≡ s) where
  -- the field is refused
  pub answer_stops : (t : Status) {q : Refusal} → x ≡ Err q → FieldsRead (first s t) value x out
  answer_stops t g = fields_read (stops t e g) (λ h. not_both _ _ g h)

  -- it is not, and the test of its value passed or failed
  pub answer_goes_on : (r : Refusal) {due passed : Bool} {status : Status} → x ≡ Accepted → passed ≡ due → (passed ≡ true → out ≡ value) → status_number status ≡ status_number (check passed r)
      → FieldsRead (first s (check due r)) value status out
  answer_goes_on r {due} {passed} {status} g w m e2 =
      let h : status ≡ check passed r = same_status status (check passed r) e2 in
      fields_read (h ∙ rw w (first_goes_on s (check due r) (sym e ∙ g))) (λ y. m (check_accepted passed r (sym h ∙ y)))
