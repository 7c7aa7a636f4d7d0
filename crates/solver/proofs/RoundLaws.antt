-- One round as code makes it: the update, the measurement of the next trial, and what is concluded of it. Assumes nothing.
use Rattle.std.specs.Prelude.{ℕ, ◌+◌, ◌≤◌, ℤ, true, false, List, ◌≡◌}
use Rattle.std.proofs.Common.{ap, ◌∙◌}
use Rattle.limits.specs.Limits.{most_tanks}
use Rattle.judge.proofs.Deciding.{decides_place}
use Rattle.judge.proofs.Laws.{judgement_concluded}
use Rattle.judge.specs.Judgement.{Measurement, Judgement, measurement, concluded, judgement}
use Rattle.judge.specs.System.{System, Trial, trial}
use Rattle.solver.proofs.Laws.{round_on, round_refused}
use Rattle.solver.proofs.Sizes.{updated_from}
use Rattle.solver.specs.Limits.{Ready}
use Rattle.solver.specs.Refinement.{permuted, substituted, Update, corrected, updated, Progress, refused_progress, round}

module _ (w : List (List ℤ)) (o : List ℕ) (s : System) (D : ℕ) (p : Progress) (h : Ready w o s D p) (u : Update)
    (e : u ≡ corrected s.n p.trial (substituted w (permuted s.n o p.judgement.residuals) s.n)) where
  abbrev t : Trial
  t = trial s.n D u.trial

  next_is : u ≡ updated w o s D p.trial
  next_is = updated_from w o s D p h u e

  -- of the next trial: its figures Y, its measurement m, and what is said of it, j
  module _ (Y : List ℤ) (m : Measurement) (j : Judgement) (y : Y ≡ u.trial) (a : m ≡ measurement s t) (b : j ≡ concluded s.n m) where
    said_is : j ≡ judgement s t
    said_is = b ∙ ap (concluded s.n) a ∙ judgement_concluded s t

    -- the row that decides is one of the eight places
    pub decides_some : (1 ≤ j.decides) × (j.decides ≤ most_tanks)
    decides_some = rw (ap (λ (x : Judgement). x.decides) said_is) (decides_place s t h.startable.limits.small)

    pub round_judged : u.within ≡ true → record { within = true; rounds = p.rounds + 1; trial = Y; judgement = j } ≡ round w o s D p
    round_judged k = rw y (round_on w o s D p u next_is j k said_is)

  pub round_left : u.within ≡ false → refused_progress p u.trial ≡ round w o s D p
  round_left k = round_refused w o s D p u next_is k
