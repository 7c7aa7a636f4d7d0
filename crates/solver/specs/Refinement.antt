-- Definitions only.
-- Refinement over one elimination: document 01's "The steps", from "Y starts at zero" on. `w` is the working matrix W as the elimination leaves it,
-- and `o` the order of its rows. Rows and tanks are counted from 0.
use Rattle.std.specs.Prelude.{ℕ, zero, suc, ◌+◌, leb, ℤ, pos, nat_abs, ◌+ℤ◌, get_or, set, replicate, Bool, true, false, cond, List}
use Rattle.limits.specs.Limits.{most_tanks, trial_limit}
use Rattle.integers.specs.Tables.{filled}
use Rattle.judge.specs.Judgement.{Judgement, judgement_from, residual_vector, judgement}
use Rattle.judge.specs.System.{System, Trial, trial, zero_trial}
use Rattle.substitution.specs.Passes.{Corrections, forward, backward}
use Rattle.judge.specs.declared.MeasuredTrial.{MeasuredTrial}
use Rattle.solver.specs.declared.RefinementState.{RefinementState}

-- ---- from the residuals to the corrections

-- "the elimination's row order": place i of n holds the figure of the row that stands there
abbrev pub permuted : ℕ → List ℕ → List ℤ → List ℤ
permuted n o R = filled most_tanks n (pos 0) (λ i. get_or R (get_or o i 0) (pos 0))

-- "The residual of each row is R = D × b − sum of A × Y. Put the residuals in the elimination's row order as z."
abbrev pub ordered_residuals : List ℕ → System → Trial → List ℤ
ordered_residuals o s t = permuted s.n o (residual_vector s t)

-- from the top, and then from the bottom
abbrev pub substituted : List (List ℤ) → List ℤ → ℕ → Corrections
substituted w z n = backward w (forward w z n) n

-- ---- "Then Y gains d, tank 1 first, each limit checked in turn."

-- "trial figure Y: −10,000,000 to 10,000,000"
abbrev pub figure_limit : ℕ
figure_limit = trial_limit

abbrev pub corrected_figure : List ℤ → List ℤ → ℕ → ℤ
corrected_figure Y d j = get_or Y j (pos 0) +ℤ get_or d j (pos 0)

-- a trial with its corrections, and whether every figure of it is within its limit
pub record Update : Type 0 where
  pub within : Bool
  pub trial : List ℤ

abbrev pub update : Bool → List ℤ → Update
update b Y = record { within = b; trial = Y }

-- m figures from tank j on: the first that is outside its limit ends the update
unfoldable pub corrected_from : List ℤ → ℕ → ℕ → List ℤ → Update
corrected_from d j zero Y = update true Y
corrected_from d j (suc m) Y =
    cond (leb (nat_abs (corrected_figure Y d j)) figure_limit)
    (corrected_from d (j + 1) m (set Y j (corrected_figure Y d j)))
    (update false Y)

-- where a correction is outside its limit, no figure gains anything
abbrev pub corrected : ℕ → List ℤ → Corrections → Update
corrected n Y d = cond d.within (corrected_from d.values 0 n Y) (update false Y)

-- the next trial, not within its limits where the steps reach refusal 9
unfoldable pub updated : List (List ℤ) → List ℕ → System → ℕ → List ℤ → Update
updated w o s D Y = corrected s.n Y (substituted w (ordered_residuals o s (trial s.n D Y)) s.n)

-- ---- rounds

-- a trial after so many rounds, what is said of it, and whether the last round stayed within its limits
pub record Progress : Type 0 where
  pub within : Bool
  pub rounds : ℕ
  pub trial : List ℤ
  pub judgement : Judgement

-- as code holds it: the trial, with what it leaves of the rows, stands beside the state
abbrev pub progress_from : RefinementState → MeasuredTrial → Progress
progress_from r t = record { within = r.within; rounds = r.rounds; trial = t.figures; judgement = judgement_from r.conclusion t.residuals t.reaches }

-- nothing is said of the start or of a refused trial, beside the residuals and reaches that stand there
abbrev pub nothing_said_yet : List ℤ → List ℕ → Judgement
nothing_said_yet R T = record { met = false; unmet = 0; none = false; decides = 0; residuals = R; reaches = T }

-- "Y starts at zero." Beside it stand its residuals, which the first round starts from. It is no verdict: no reach is formed and no row is looked at
abbrev pub start : System → ℕ → Progress
start s D =
    record {
      within = true;
      rounds = 0;
      trial = replicate most_tanks (pos 0);
      judgement = nothing_said_yet (residual_vector s (zero_trial s.n D)) (replicate most_tanks 0);
    }

-- a trial after k rounds: "The new Y is judged."
abbrev pub judged_progress : System → ℕ → ℕ → List ℤ → Progress
judged_progress s D k Y = record { within = true; rounds = k; trial = Y; judgement = judgement s (trial s.n D Y) }

-- refusal 9: the trial Y as far as it was formed; the rest is as it stood before the round
abbrev pub refused_progress : Progress → List ℤ → Progress
refused_progress p Y = record { within = false; rounds = p.rounds; trial = Y; judgement = p.judgement }

abbrev pub after_update : System → ℕ → Progress → Update → Progress
after_update s D p u = cond u.within (judged_progress s D (suc p.rounds) u.trial) (refused_progress p u.trial)

-- "A round", document 01's term: from the residuals of the trial to the judgement of the next
unfoldable pub round : List (List ℤ) → List ℕ → System → ℕ → Progress → Progress
round w o s D p = after_update s D p (updated w o s D p.trial)

-- "The first that is met ends the work", and so does a refusal. The start is not said to be met, so it ends nothing
abbrev pub ended_by : Bool → Bool → Bool
ended_by within met = cond within met true

abbrev pub ended : Progress → Bool
ended p = ended_by p.within p.judgement.met

-- at most m rounds more
unfoldable pub refined : List (List ℤ) → List ℕ → System → ℕ → ℕ → Progress → Progress
refined w o s D zero p = p
refined w o s D (suc m) p = cond (ended (round w o s D p)) (round w o s D p) (refined w o s D m (round w o s D p))

-- ---- the trials of the rounds

-- the trial of round k: "Y starts at zero", and each round forms the next from the last. It stands for a trial as far as no round is refused
unfoldable pub trial_of_round : List (List ℤ) → List ℕ → System → ℕ → ℕ → List ℤ
trial_of_round w o s D zero = replicate most_tanks (pos 0)
trial_of_round w o s D (suc k) = (updated w o s D (trial_of_round w o s D k)).trial

-- whether round k stays within its limits
abbrev pub within_of_round : List (List ℤ) → List ℕ → System → ℕ → ℕ → Bool
within_of_round w o s D zero = true
within_of_round w o s D (suc k) = (updated w o s D (trial_of_round w o s D k)).within

-- what is said of its trial
abbrev pub judgement_of_round : List (List ℤ) → List ℕ → System → ℕ → ℕ → Judgement
judgement_of_round w o s D k = judgement s (trial s.n D (trial_of_round w o s D k))
