-- What a caller learns of a case that was read into its lists. Assumes nothing.
use Rattle.std.specs.Prelude.{Result, Ok, Err, ◌≡◌, refl}
use Rattle.std.proofs.Common.{sym, ◌∙◌}
use Rattle.outcome.proofs.Laws.{same_answer}
use Rattle.outcome.specs.declared.Refusal.{Refusal}
use Rattle.casefile.specs.Case.{Case}
use Rattle.casefile.specs.Decode.{Decoded, accepted, refused, held, stored, reading, CaseRead}
use Rattle.casefile.specs.declared.CaseHead.{CaseHead}
use Rattle.casefile.specs.declared.StoredCase.{StoredCase}
use Rattle.case_reader.specs.Read.{CaseLists, zero_lists, head_in, head_read, lists_read, CaseReadInto}

-- the answer is the one defined
pub head_is : (d : Decoded) {before : CaseLists} {r : Result CaseHead Refusal} {after : CaseLists} → CaseReadInto d before r after → r ≡ head_read d
head_is d {r = r} w = same_answer r (head_read d) w.number w.head

-- the case that was read, and how the head and the lists hold it
pub record CaseHeld (d : Decoded) (before : CaseLists) (r : CaseHead) (after : CaseLists) : Type 0 where
  pub figures : Case
  pub decoded : d ≡ accepted figures
  pub head : r ≡ head_in figures
  pub lists : after ≡ lists_read (accepted figures) before

pub read_accepted : (d : Decoded) {before : CaseLists} {r : Result CaseHead Refusal} {after : CaseLists} → CaseReadInto d before r after
    → {head : CaseHead} → r ≡ Ok head → CaseHeld d before head after
read_accepted (accepted c) w {head} h =
    let e : ◌≡◌ {A = Result CaseHead Refusal} (Ok head) (Ok (head_in c)) = sym h ∙ head_is (accepted c) w in
    let f : head ≡ head_in c = cc in
    record { figures = c; decoded = refl; head = f; lists = w.lists }
read_accepted (refused q) w {head} h =
    let e : ◌≡◌ {A = Result CaseHead Refusal} (Ok head) (Err q) = sym h ∙ head_is (refused q) w in
    cc

pub read_refused : (d : Decoded) {before : CaseLists} {r : Result CaseHead Refusal} {after : CaseLists} → CaseReadInto d before r after → (q : Refusal)
    → r ≡ Err q → d ≡ refused q
read_refused (accepted c) w q h =
    let e : ◌≡◌ {A = Result CaseHead Refusal} (Err q) (Ok (head_in c)) = sym h ∙ head_is (accepted c) w in
    cc
read_refused (refused x) w q h =
    let e : ◌≡◌ {A = Result CaseHead Refusal} (Err q) (Err x) = sym h ∙ head_is (refused x) w in
    cc

-- read into lists of zeros, the head and the lists together are the reading
abbrev pub reading_of : Result CaseHead Refusal → CaseLists → Result StoredCase Refusal
reading_of (Ok r) lists = Ok (held r.n r.exponent r.rounds lists.rows lists.Y)
reading_of (Err q) lists = Err q

pub read_into_zeros : (d : Decoded) (r : Result CaseHead Refusal) (lists : CaseLists) → CaseReadInto d zero_lists r lists → CaseRead d (reading_of r lists)
unfolding reading stored
read_into_zeros (accepted c) (Ok r) lists w =
    let e : ◌≡◌ {A = Result CaseHead Refusal} (Ok r) (Ok (head_in c)) = w.head in
    let f : r ≡ head_in c = cc in
    record { number = refl; case = rw (f, w.lists) }
read_into_zeros (refused q) (Ok r) lists w = let e : ◌≡◌ {A = Result CaseHead Refusal} (Ok r) (Err q) = w.head in cc
read_into_zeros (accepted c) (Err q) lists w = record { number = w.number; case = tt }
read_into_zeros (refused x) (Err q) lists w = record { number = w.number; case = tt }
