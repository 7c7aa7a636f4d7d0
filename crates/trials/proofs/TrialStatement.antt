-- The marked trials, proved together: for every trial of the list, the call on the case's bytes leaves a record that says exactly what is
-- expected, or refuses with the number expected, and every other byte stays. Assumes nothing.
use Rattle.std.specs.Prelude.{ℕ, drop, ◌≡◌, refl}
use mathlib.Core.List.{List, map, Memᴰ}
use Rattle.recordfile.specs.Layout.{record_length, longest_record}
use Rattle.trials.specs.Result.{Result, recorded, refused, lent, found}
use Rattle.trials.specs.Trials.{Expected, figures, refusal, MarkedTrial, trials}

-- "The count returned is the record's length", "beyond the record stays as it was", "Any refusal .. returns its number and changes no byte"
abbrev pub due : ℕ → Expected → Result
due n (figures g) = recorded (record_length n) g (drop (record_length n) (lent longest_record))
due n (refusal k) = refused k (lent longest_record)

abbrev pub trial_outcome : MarkedTrial → Result
trial_outcome t = found t.case

abbrev pub expected_of : MarkedTrial → Result
expected_of t = due t.case.n t.expected

-- the whole list, by computation
pub as_expected : map trial_outcome trials ≡ map expected_of trials
unfolding found
as_expected = refl

-- two functions that make one list of a list agree at each member of it
pub agree : {A B : Type 0} (f g : A → B) {a : A} {l : List A} → Memᴰ a l → map f l ≡ map g l → f a ≡ g a
agree f g (Memᴰ.head p) e = cc
agree f g (Memᴰ.tail m) e = agree f g m (cc)

-- and so each trial of it
pub each_as_expected : (t : MarkedTrial) → Memᴰ t trials → trial_outcome t ≡ expected_of t
each_as_expected t m = agree trial_outcome expected_of m as_expected
