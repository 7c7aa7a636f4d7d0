-- `solver::update_trial` meets its contract: each pass has what it asks from the one before.
-- Assumes nothing.
use Prim.Native.Nat.{ℕ}
use lib.IntN.{ℤ}
use mathlib.Core.List.{List}
use mathlib.Core.Path.{◌≡◌, ap, ◌∙◌}
use Rattle.substitution.specs.Passes.{Corrections, corrections, forward, backward}
use Rattle.solver.specs.Refinement.{permuted, substituted}
use Rattle.solver.proofs.Sizes.{forward_ready, back_ready, corrected_ready}
use Rattle.solver.proofs.update_trial.Goals as goal

pub forward_pass-requires : goal.forward_pass-requires
forward_pass-requires c = rw c.order_figures.ensures (forward_ready _ _ _ _ _ c.requires)

pub backward_pass-requires : goal.backward_pass-requires
backward_pass-requires c =
    let n' : ℕ = c.args.n in
    let w' : List (List ℤ) = c.args.eliminated.now.working in
    let forward_is = c.forward_pass.ensures ∙ ap (λ (z : List ℤ). forward w' z n') c.order_figures.ensures in
    rw forward_is (back_ready _ _ _ _ _ c.requires)

pub correct_figures-requires : goal.correct_figures-requires
correct_figures-requires c =
    let n' : ℕ = c.args.n in
    let w' : List (List ℤ) = c.args.eliminated.now.working in
    let z' : List ℤ = permuted n' c.args.eliminated.now.order c.args.trial.now.residuals in
    let forward_is = c.forward_pass.ensures ∙ ap (λ (z : List ℤ). forward w' z n') c.order_figures.ensures in
    let backward_is : corrections c.backward_pass.result c.backward_pass.new.d ≡ substituted w' z' n' =
    c.backward_pass.ensures ∙ ap (λ (y : List ℤ). backward w' y n') forward_is in
    rw (ap (λ (x : Corrections). x.values) backward_is) (corrected_ready _ _ _ _ _ c.requires)
