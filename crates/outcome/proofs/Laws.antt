-- Laws of refusals and their numbers, of answers that cannot be both, and of checks in sequence. Assumes nothing.
use Rattle.std.specs.Prelude.{Result, Ok, Err, IfOk, ℕ, Bool, true, false, ◌≡◌, refl}
use Rattle.std.proofs.Common.{true≢false, sym, ap, ◌∙◌, arith}
use Rattle.outcome.specs.Outcome.{Status, Accepted, number_of, refusal_of, status_number, reported_outcome, check, first}
use Rattle.outcome.specs.declared.Refusal.{Refusal}
use Rattle.outcome.specs.declared.Refusal.TheVariants.{BufferTooShort, FieldMissing, WrongTag, WrongLength, ValueCutShort, OutsideLimits, TrailingBytes, ZeroPivot, OutsideRange, OutsideTable, WrongMatrixHeader, WrongMatrixEntry}

-- each refusal has a number of its own
pub refusal_of_number : (r : Refusal) → refusal_of (number_of r) ≡ r
refusal_of_number BufferTooShort = refl
refusal_of_number FieldMissing = refl
refusal_of_number WrongTag = refl
refusal_of_number WrongLength = refl
refusal_of_number ValueCutShort = refl
refusal_of_number OutsideLimits = refl
refusal_of_number TrailingBytes = refl
refusal_of_number ZeroPivot = refl
refusal_of_number OutsideRange = refl
refusal_of_number OutsideTable = refl
refusal_of_number WrongMatrixHeader = refl
refusal_of_number WrongMatrixEntry = refl

same_number : (q r : Refusal) → number_of q ≡ number_of r → q ≡ r
same_number q r e = sym (refusal_of_number q) ∙ ap refusal_of e ∙ refusal_of_number r

-- ---- an answer is one of its kinds

pub not_both : {P : Type 0} (s : Status) (r : Refusal) → s ≡ Err r → s ≡ Accepted → P
not_both s r e g = let z : ◌≡◌ {A = ℕ} 0 1 = cc in absurd (omega arith)

pub no_count : {P : Type 0} (r : Refusal) (m : ℕ) → reported_outcome (Err r) ≡ reported_outcome (Ok m) → P
no_count r m e = absurd (true≢false (ap (λ s. s.refused) e))

-- what is reported tells the refusal
pub same_refusal : (q r : Refusal) → reported_outcome (Err q) ≡ reported_outcome (Err r) → q ≡ r
same_refusal q r e = same_number q r (ap (λ s. s.number) e)

-- a status is told by its number: no refusal has 0
number_above : (r : Refusal) → 0 ≡ number_of r → ⊥
number_above r e =
    let k : r ≡ BufferTooShort = sym (refusal_of_number r) ∙ ap refusal_of (sym e) in
    let z : ◌≡◌ {A = ℕ} 0 1 = e ∙ ap number_of k in
    omega arith

pub same_status : (a b : Status) → status_number a ≡ status_number b → a ≡ b
same_status (Ok _) (Ok _) e = refl
same_status (Ok _) (Err r) e = absurd (number_above r e)
same_status (Err q) (Ok _) e = absurd (number_above q (sym e))
same_status (Err q) (Err r) e = ap Err (same_number q r e)

-- an answer is told by its number, and where nothing is refused by what is answered
pub same_answer : {A : Type 0} (a b : Result A Refusal) → status_number a ≡ status_number b → IfOk a (λ x. Ok x ≡ b) → a ≡ b
same_answer (Ok x) b e m = m
same_answer (Err q) (Ok y) e m = absurd (number_above q (sym e))
same_answer (Err q) (Err r) e m = ap Err (same_number q r e)

-- ---- checks

-- what passed, one by one, for a search that runs these forwards
pub check_accepted : (b : Bool) (r : Refusal) → check b r ≡ Accepted → b ≡ true
check_accepted true r e = refl
check_accepted false r e = cc

pub check_refused : (b : Bool) (r : Refusal) → check b r ≡ Err r → b ≡ false
check_refused true r e = cc
check_refused false r e = refl

pub first_left : (s t : Status) → first s t ≡ Accepted → s ≡ Accepted
first_left (Ok _) t e = refl
first_left (Err r) t e = e

pub first_right : (s t : Status) → first s t ≡ Accepted → t ≡ Accepted
first_right (Ok _) t e = e
first_right (Err r) t e = cc

-- what a check that passed makes of the first of two
pub first_goes_on : (s t : Status) → s ≡ Accepted → t ≡ first s t
first_goes_on s t e = rw e

-- where x is what the first of the two gave: it refused
pub stops : {x s : Status} {r : Refusal} (t : Status) → x ≡ s → x ≡ Err r → x ≡ first s t
stops t e g = rw (← e, g)
