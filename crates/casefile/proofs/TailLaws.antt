-- The trial's field: read back what was written, and the bytes that are read are those that are written.
-- Assumes nothing.
use Rattle.std.specs.Prelude.{ℕ, zero, suc, ◌≤◌, ℤ, length, drop, List, [], ◌∷◌, ◌++◌, ◌≡◌, refl}
use Rattle.std.proofs.Common.{append-nil, ◌∙◌, arith}
use Rattle.limits.specs.Limits.{most_tanks, trial_limit}
use Rattle.buffer.specs.Buffer.{all}
use Rattle.bigendian.specs.Number.{Bytes}
use Rattle.figures.proofs.FigureLaws.{length_spread, figures_spread, spread_figures}
use Rattle.figures.specs.Figures.{within_limit, figures, spread}
use Rattle.figures.proofs.ItemLaws.{length_items}
use Rattle.fields.proofs.DueLaws.{FieldBack, due_back, due_fine, due_same}
use Rattle.fields.specs.Field.{value_of}
use Rattle.fields.proofs.FieldLaws.{length_field}
use Rattle.casefile.specs.Case.{where_trial_given, trial_count_due}
use Rattle.casefile.specs.Decode.{trial_due, trial_status, trial_of}
use Rattle.casefile.proofs.KindLaws.{trial_lawful}
use Rattle.casefile.specs.Layout.{trial_tag, trial_kind, trial_length, trial_size, trial_field, trial_bytes}
use Rattle.casefile.specs.SoundLaws.{Sound}
use Rattle.outcome.specs.Outcome.{Accepted}

-- what is due where K is above 0
pub no_trial_given : {X : Type 0} (k : ℕ) (x y : X) → (k ≡ 0 → ⊥) → where_trial_given k x y ≡ y
no_trial_given zero x y h = absurd (h refl)
no_trial_given (suc k) x y h = refl

-- what is due only where the case brings its trial is at most m
pub given_trial_most : (k m : ℕ) → where_trial_given k m 0 ≤ m
given_trial_most zero m = omega arith
given_trial_most (suc k) m = omega arith

pub length_trial : (k n : ℕ) (y : List ℤ) → length y ≡ trial_count_due k n → length (trial_bytes k y) ≡ trial_size k n
length_trial zero n y e = rw append-nil (length_field trial_tag (spread trial_kind y) ∙ rw (length_spread trial_kind y, e))
length_trial (suc k) n y e = refl

-- ---- a trial that was written

pub trial_back : (k n : ℕ) (y : List ℤ) (rest : List ℕ) → n ≤ most_tanks → Sound (within_limit trial_limit) (trial_count_due k n) y
    → FieldBack (trial_status k n) (trial_of k n) (trial_size k n) (trial_bytes k y) y rest
unfolding trial_status trial_of
trial_back zero n y rest small h =
    let l : length (spread trial_kind y) ≡ trial_length n = length_spread trial_kind y ∙ rw h.count in
    let b = due_back (trial_due n) y rest l (omega arith) h.fine (figures_spread trial_kind _ trial_lawful n y rest h.count h.fine) in
    let q = append-nil (trial_field y) in
    record { accepted = rw q b.accepted; read = rw q b.read; after = rw q b.after }
trial_back (suc k) n [] rest small h = record { accepted = refl; read = refl; after = refl }
trial_back (suc k) n (y ∷ ys) rest small h = absurd (omega (arith, h.count))

-- ---- a trial that was read

pub trial_sound : (k n : ℕ) (s : List ℕ) → trial_status k n s ≡ Accepted → Sound (within_limit trial_limit) (trial_count_due k n) (trial_of k n s)
unfolding trial_status trial_of all
trial_sound zero n s e =
    record { count = length_items _ _ n (value_of s); fine = due_fine (trial_due n) s e }
trial_sound (suc k) n s e = record { count = refl; fine = refl }

pub trial_same : (k n : ℕ) (s : List ℕ) → trial_status k n s ≡ Accepted → Bytes s → trial_bytes k (trial_of k n s) ++ drop (trial_size k n) s ≡ s
unfolding trial_status trial_of
trial_same zero n s e bs =
    rw append-nil
    (due_same (trial_due n) s e bs
    (λ v b h. (length_spread trial_kind (figures trial_kind n v) ∙ rw (length_items _ _ n v), spread_figures trial_kind _ trial_lawful n v b h)))
trial_same (suc k) n s e bs = refl
