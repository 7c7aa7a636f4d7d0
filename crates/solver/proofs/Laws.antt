-- What the definitions of refinement do at a loop's turn, and what holds of the trials that they give. Assumes nothing.
use Prim.Native.Nat.{ℕ, zero, suc, ◌+◌, ◌-◌, ◌<◌, ◌≤◌}
use borrow.Author.Tests.{le-leb, lt-leb, leb-true}
use Rattle.std.specs.Prelude.{leb, ℤ, pos, nat_abs, length, set, replicate, Bool, List, ◌≡◌}
use Rattle.std.proofs.Common.{length-set, true≢false, sym, ap, ◌∙◌, add-one}
use Rattle.std.proofs.Math.Bool.{true, false, cond}
use Rattle.std.proofs.Math.Path.{refl}
use native.Mathlib.Omega.{arith}
use Rattle.limits.specs.Limits.{most_tanks}
use Rattle.integers.specs.TableLaws.{within_set}
use Rattle.integers.specs.Tables.{Within}
use Rattle.judge.specs.Judgement.{Judgement, judgement}
use Rattle.judge.proofs.Laws.{judgement_residuals}
use Rattle.judge.specs.System.{System, trial}
use Rattle.substitution.specs.Passes.{Corrections}
use Rattle.solver.specs.Limits.{Resumable}
use Rattle.solver.specs.Refinement.{figure_limit, corrected_figure, Update, update, corrected_from, corrected, ordered_residuals, substituted, updated, Progress, start, judged_progress, refused_progress, after_update, round, ended, refined, trial_of_round}

-- ---- the update, at a loop's turn: the rest of the work from here is all of it

module _ (d : List ℤ) (j n : ℕ) (Y : List ℤ) (l : j < n) where
  pub corrected_more : nat_abs (corrected_figure Y d j) ≤ figure_limit → corrected_from d j (n - j) Y ≡ corrected_from d (j + 1) (n - (j + 1)) (set Y j (corrected_figure Y d j))
  unfolding corrected_from
  corrected_more h = let e : n - j ≡ suc (n - (j + 1)) = omega arith in rw (e, le-leb (nat_abs (corrected_figure Y d j)) figure_limit h)

  pub corrected_stop : figure_limit < nat_abs (corrected_figure Y d j) → corrected_from d j (n - j) Y ≡ update false Y
  unfolding corrected_from
  corrected_stop h = let e : n - j ≡ suc (n - (j + 1)) = omega arith in rw (e, lt-leb (nat_abs (corrected_figure Y d j)) figure_limit h)

pub corrected_done : (d : List ℤ) (j n : ℕ) (Y : List ℤ) → n ≤ j → corrected_from d j (n - j) Y ≡ update true Y
unfolding corrected_from
corrected_done d j n Y h = let e : n - j ≡ 0 = omega arith in rw e

-- ---- every trial is within its limits, and keeps its places

-- from the trial Y to the next, Y'
pub record Formed (Y Y' : List ℤ) : Type 0 where
  pub figures : Within figure_limit Y → Within figure_limit Y'
  pub places : length Y' ≡ length Y

pub unchanged : (Y : List ℤ) → Formed Y Y
unchanged Y = record { figures = λ h. h; places = refl }

formed_from : (d : List ℤ) (j m : ℕ) (Y : List ℤ) → Formed Y (corrected_from d j m Y).trial
unfolding corrected_from
formed_from d j zero Y = unchanged Y
formed_from d j (suc m) Y = go (leb (nat_abs (corrected_figure Y d j)) figure_limit) refl (formed_from d (j + 1) m (set Y j (corrected_figure Y d j)))
  where
    go : (t : Bool) → leb (nat_abs (corrected_figure Y d j)) figure_limit ≡ t
        → Formed (set Y j (corrected_figure Y d j)) (corrected_from d (j + 1) m (set Y j (corrected_figure Y d j))).trial
        → Formed Y (cond t (corrected_from d (j + 1) m (set Y j (corrected_figure Y d j))) (update false Y)).trial
    go true e r =
        record {
          figures = λ h. r.figures (within_set Y j (corrected_figure Y d j) (leb-true (nat_abs (corrected_figure Y d j)) figure_limit e) h);
          places = r.places ∙ length-set Y j (corrected_figure Y d j);
        }
    go false e r = unchanged Y

formed : (n : ℕ) (Y : List ℤ) (d : Corrections) → Formed Y (corrected n Y d).trial
formed n Y d = go d.within
  where
    go : (t : Bool) → Formed Y (cond t (corrected_from d.values 0 n Y) (update false Y)).trial
    go true = formed_from d.values 0 n Y
    go false = unchanged Y

-- ---- a round, by cases

-- the start is no verdict: it ends nothing
pub start_goes_on : (s : System) (D : ℕ) → ended (start s D) ≡ false
start_goes_on s D = refl

module _ (w : List (List ℤ)) (o : List ℕ) (s : System) (D : ℕ) where
  -- as code finds it: the update u, and what is said of its trial
  module _ (p : Progress) (u : Update) (e : u ≡ updated w o s D p.trial) where
    pub round_on : (j : Judgement) → u.within ≡ true → j ≡ judgement s (trial s.n D u.trial)
        → record { within = true; rounds = p.rounds + 1; trial = u.trial; judgement = j } ≡ round w o s D p
    unfolding round
    round_on j t q = rw (← e, t, q, add-one)

    pub round_refused : u.within ≡ false → refused_progress p u.trial ≡ round w o s D p
    unfolding round
    round_refused t = rw (← e, t)

  -- ---- the trials of the rounds

  -- each is within its limits and has its places, also where a round is refused
  pub trial_formed : (k : ℕ) → Formed (replicate most_tanks (pos 0)) (trial_of_round w o s D k)
  unfolding trial_of_round updated
  trial_formed zero = unchanged (replicate most_tanks (pos 0))
  trial_formed (suc k) =
      let f = formed s.n (trial_of_round w o s D k) (substituted w (ordered_residuals o s (trial s.n D (trial_of_round w o s D k))) s.n) in
      let g = trial_formed k in
      record { figures = λ h. f.figures (g.figures h); places = f.places ∙ g.places }

  pub trial_start : trial_of_round w o s D 0 ≡ replicate most_tanks (pos 0)
  unfolding trial_of_round
  trial_start = refl

  -- the next state q, at a loop's turn: where the work does not end, it is the next round's trial, judged
  pub round_goes_on : (p q : Progress) → q ≡ round w o s D p → p.trial ≡ trial_of_round w o s D p.rounds → ended q ≡ false
      → q ≡ judged_progress s D (suc p.rounds) (trial_of_round w o s D (suc p.rounds))
  unfolding round trial_of_round
  round_goes_on p q e t = rw (e, t) (go (updated w o s D (trial_of_round w o s D p.rounds)))
    where
      go : (u : Update) → ended (after_update s D p u) ≡ false → after_update s D p u ≡ judged_progress s D (suc p.rounds) u.trial
      go u = pick u.within
        where
          pick : (b : Bool) → ended (cond b (judged_progress s D (suc p.rounds) u.trial) (refused_progress p u.trial)) ≡ false
              → cond b (judged_progress s D (suc p.rounds) u.trial) (refused_progress p u.trial) ≡ judged_progress s D (suc p.rounds) u.trial
          pick true h = refl
          pick false h = absurd (true≢false h)

  -- ---- the rest of the work from here is all of it

  pub refined_none : (p : Progress) → refined w o s D 0 p ≡ p
  unfolding refined
  refined_none p = refl

  module _ (m : ℕ) (p q : Progress) (l : 0 < m) (e : q ≡ round w o s D p) where
    left_round : m ≡ suc (m - 1)
    left_round = omega arith

    one_more : (k : ℕ) → ended q ≡ false → refined w o s D (suc k) p ≡ refined w o s D k q
    unfolding refined
    one_more k t = rw (← e, t)

    pub refined_more : ended q ≡ false → refined w o s D (m - 1) q ≡ refined w o s D m p
    refined_more t = sym (ap (λ (k : ℕ). refined w o s D k p) left_round ∙ one_more (m - 1) t)

    pub refined_ended : ended q ≡ true → q ≡ refined w o s D m p
    unfolding refined
    refined_ended t = rw (left_round, ← e, t)

-- a trial that is judged stands beside its own residuals
pub judged_resumable : (s : System) (D k : ℕ) (Y : List ℤ) → Within figure_limit Y → Resumable s D (judged_progress s D k Y)
judged_resumable s D k Y h = record { figures = h; residuals_are = judgement_residuals s (trial s.n D Y) }
