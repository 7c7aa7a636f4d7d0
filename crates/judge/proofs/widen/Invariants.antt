use Prim.Native.Nat.{ℕ, ◌-◌, ◌^◌, ◌≤◌, ◌<◌}
use lib.IntN.{pos, nat_abs}
use lib.ListN.{get_or}
use Rattle.judge.specs.Places.{Filling}
use Rattle.judge.proofs.widen.Given as goal

abbrev pub invariant-loop-j : goal.invariant-loop-j
invariant-loop-j l =
    Filling (λ k. get_or l.trial k (pos 0)) (pos 0) l.n l.wide.figures l.j
    × Filling (λ k. nat_abs (get_or l.trial k (pos 0))) 0 l.n l.wide.magnitudes l.j
    × ((k : ℕ) → k < l.j → nat_abs (get_or l.trial k (pos 0)) ≤ 2 ^ 31)

abbrev pub decreases-loop-j : goal.decreases-loop-j
decreases-loop-j l = l.n - l.j
