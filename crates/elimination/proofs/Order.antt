-- The order that an elimination leaves is a permutation of the rows: each row below n stands at exactly one place below n. Assumes nothing.
use Rattle.std.specs.Prelude.{ℕ, zero, suc, ◌<◌, ◌≤◌, ℤ, get_or, List, ◌≡◌, refl}
use Rattle.std.proofs.Common.{length-set, sym, ap, ◌∙◌, arith}
use Rattle.limits.specs.Limits.{most_tanks}
use Rattle.integers.specs.TableLaws.{get_d_table}
use Rattle.elimination.specs.Claims.{Place, Permutation}
use Rattle.elimination.proofs.Laws.{transposed, transposed_below, transposed_twice, exchange_at}
use Rattle.elimination.proofs.Pivot.{pivot_best}
use Rattle.elimination.proofs.Runs.{advanced_cases, steps_few}
use Rattle.elimination.specs.Steps.{exchange, start_order, next_pivot, after_steps, eliminated}

-- at the start place i holds row i
start : (n : ℕ) → n ≤ most_tanks → Permutation n start_order
start n h =
    record {
      eight = refl;
      below = λ i l. rw (own i l) l;
      some = λ r l. record { place = r; below = l; holds = own r l };
      one = λ i j p q e. sym (own i p) ∙ e ∙ own j q;
    }
  where
    own : (i : ℕ) → i < n → get_or start_order i 0 ≡ i
    own i l = get_d_table most_tanks (λ m. m) i 0 (omega arith)

-- an exchange of two places below n
exchanged : (n : ℕ) (o : List ℕ) (k p : ℕ) → n ≤ most_tanks → k < n → p < n → Permutation n o → Permutation n (exchange 0 o k p)
exchanged n o k p h8 hk hp s =
    record {
      eight = simp length-set s.eight;
      below = λ i l. rw (read i) (s.below (transposed k p i) (turn i l));
      some = λ r l. moved r (s.some r l);
      one = λ i j a b e. back i j (s.one (transposed k p i) (transposed k p j) (turn i a) (turn j b) (sym (read i) ∙ e ∙ read j));
    }
  where
    turn : (i : ℕ) → i < n → transposed k p i < n
    turn i l = transposed_below k p n i hk hp l

    read : (i : ℕ) → get_or (exchange 0 o k p) i 0 ≡ get_or o (transposed k p i) 0
    read i = exchange_at 0 o k p i (omega (arith, s.eight)) (omega (arith, s.eight))

    back : (i j : ℕ) → transposed k p i ≡ transposed k p j → i ≡ j
    back i j e = sym (transposed_twice k p i) ∙ ap (transposed k p) e ∙ transposed_twice k p j

    moved : (r : ℕ) → Place n o r → Place n (exchange 0 o k p) r
    moved r t =
        record {
          place = transposed k p t.place;
          below = turn t.place t.below;
          holds = read (transposed k p t.place) ∙ rw (transposed_twice k p t.place) t.holds;
        }

after : (n : ℕ) (a : List ℤ) → n ≤ most_tanks → (k : ℕ) → k ≤ n → Permutation n (after_steps n a k).order
unfolding after_steps
after n a h8 zero l = start n h8
after n a h8 (suc k) l =
    let s = after n a h8 k (omega arith) in
    let r = after_steps n a k in
    let h : r.steps < n = omega (arith, steps_few n a k) in
    advanced_cases n r (λ t. Permutation n t.order)
    (λ e. s)
    (λ p. exchanged n r.order r.steps (next_pivot n r) h8 h (pivot_best r.working r.steps n h).high s)

-- also where the elimination ends before its last step
pub permutation : (n : ℕ) (a : List ℤ) → n ≤ most_tanks → Permutation n (eliminated n a).order
unfolding eliminated
permutation n a h8 = after n a h8 n (omega arith)
