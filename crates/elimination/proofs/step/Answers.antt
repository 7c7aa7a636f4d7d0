-- `elimination::step` meets its contract. The invariant: the rows so far are eliminated, so that the others are as the exchange left them.
-- Assumes nothing.
use Rattle.std.specs.Prelude.{ℕ, ◌+◌, ◌-◌, ◌<◌, ℤ, get_or, set, List, [], ◌≡◌}
use Rattle.std.proofs.Common.{rules, sym, ap, subst, ◌∙◌, arith}
use Rattle.integers.specs.TableLaws.{fill_next, fill_left, fill_none}
use Rattle.integers.specs.Tables.{fill}
use Rattle.elimination.proofs.Bounds.{ready}
use Rattle.elimination.specs.Conditions.{Pivoted}
use Rattle.elimination.proofs.Laws.{swapped}
use Rattle.elimination.specs.Steps.{exchange, row_below, eliminated_below}
use Rattle.elimination.proofs.step.Goals as goal

-- the row of a turn is as the exchange left it
still : {w : List (List ℤ)} {i : ℕ} (w' : List (List ℤ)) (k n : ℕ) → k < i
    → w ≡ fill (row_below w' k n) (k + 1) (i - (k + 1)) w' → get_or w i [] ≡ get_or w' i []
still {w} {i} w' k n h e = ap (λ (l : List (List ℤ)). get_or l i []) e ∙ fill_left _ (k + 1) i w' (omega arith) []

pub loop-i-init : goal.loop-i-init
loop-i-init c = sym (fill_none _ (c.args.k + 1) (c.args.k + 1) _ (omega arith))

pub eliminate_row-requires : goal.eliminate_row-requires
eliminate_row-requires c =
    let k = c.args.k in
    let n = c.args.n in
    let i = c.loop-i.i in
    let w_is : c.swap.new.self ≡ exchange [] c.args.w k c.args.pivot = swapped [] _ _ k c.args.pivot c.swap.ensures.after (search rules) (search rules) in
    let pivoted : Pivoted c.swap.new.self k n =
    subst (λ (l : List (List ℤ)). Pivoted l k n) (sym w_is) c.requires.1 in
    rw (still {i = i} _ k n (omega arith) c.loop-i.invariant) (ready _ _ _ i pivoted (omega arith) (omega arith))

pub loop-i-preserved : goal.loop-i-preserved
loop-i-preserved c =
    let w = c.swap.new.self in
    let k = c.args.k in
    let n = c.args.n in
    let i = c.loop-i.i in
    rw (c.eliminate_row.ensures, still {i = i} _ k n (omega arith) c.loop-i.invariant)
    (ap (λ (l : List (List ℤ)). set l i (row_below w k n i)) c.loop-i.invariant
    ∙ fill_next _ (k + 1) i w (omega arith))

pub returns : goal.returns
unfolding eliminated_below
returns c =
    let w = c.swap.new.self in
    let k = c.args.k in
    let n = c.args.n in
    let w_is : c.swap.new.self ≡ exchange [] c.args.w k c.args.pivot = swapped [] _ _ k c.args.pivot c.swap.ensures.after (search rules) (search rules) in
    let e : c.loop-i.i - (k + 1) ≡ n - (k + 1) = omega arith in
    c.loop-i.invariant
    ∙ ap (λ (m : ℕ). fill (row_below w k n) (k + 1) m w) e
    ∙ ap (λ (l : List (List ℤ)). eliminated_below l k n) w_is
