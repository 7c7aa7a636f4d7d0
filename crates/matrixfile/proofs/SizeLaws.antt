-- The size line: one of the form that reading allows is read as what it says, and one that is read has that form. Assumes nothing.
use Rattle.std.specs.Prelude.{ℕ, zero, suc, ◌+◌, ◌-◌, ◌≤◌, leb, eqb, length, get_or, take, drop, replicate, true, List, [], ◌∷◌, ◌++◌, ◌≡◌, refl}
use Rattle.std.proofs.Common.{leb-true, le-leb, eqb-true, ne_eqb, take-append-drop, drop_at, drop-drop, length-take-le, append_assoc, sym, ap, ◌∙◌, arith}
use Rattle.std.proofs.lemmas.List.{length-replicate}
use Rattle.limits.specs.Limits.{most_tanks}
use Rattle.buffer.specs.AllLaws.{and_true, all_replicate}
use Rattle.buffer.specs.Buffer.{all, leading, begins_by}
use Rattle.buffer.specs.LeadingLaws.{leading_le, leading_pass, leading_stops, begins_append, begins_front}
use Rattle.decimal.specs.Decimal.{line_feed, digit}
use Rattle.casefile.specs.Case.{tanks_are_fine}
use Rattle.matrixfile.specs.Read.{size_of, is_space, spaces_in, size_fine, behind_size}
use Rattle.matrixfile.specs.Variation.{spaced_size_line}

-- its tests one by one
pub record SizeTests (s : List ℕ) : Type 0 where
  pub least : 1 ≤ size_of s
  pub small : size_of s ≤ most_tanks
  pub spaced : 1 ≤ spaces_in s
  pub ended : begins_by (get_or s 0 0 ∷ line_feed) (drop (1 + spaces_in s) s) ≡ true

pub size_tests : (s : List ℕ) → size_fine s ≡ true → SizeTests s
unfolding size_fine
size_tests s e =
    let n = and_true (tanks_are_fine (size_of s)) _ e in
    let limits = and_true (leb 1 (size_of s)) (leb (size_of s) most_tanks) n.0 in
    let spaces = and_true (leb 1 (spaces_in s)) _ n.1 in
    record {
      least = leb-true 1 (size_of s) limits.0;
      small = leb-true (size_of s) most_tanks limits.1;
      spaced = leb-true 1 (spaces_in s) spaces.0;
      ended = spaces.1;
    }

pub size_some : (s : List ℕ) → size_fine s ≡ true → 1 ≤ length s
size_some [] e = absurd (omega (arith, (size_tests [] e).least))
size_some (c ∷ s) e = omega arith

pub record SizeLine (n : ℕ) (rest s : List ℕ) : Type 0 where
  pub fine : size_fine s ≡ true
  pub size : size_of s ≡ n
  pub behind : behind_size s ≡ rest

pub size_read : (n more : ℕ) (rest : List ℕ) → tanks_are_fine n ≡ true → SizeLine n rest (spaced_size_line more n ++ rest)
unfolding size_fine all
size_read n more rest e =
    let s : List ℕ = spaced_size_line more n ++ rest in
    let spaces : List ℕ = 32 ∷ replicate more 32 in
    let tail : List ℕ = digit n ∷ (10 ∷ rest) in
    let shape : drop 1 s ≡ spaces ++ tail = ap (λ (l : List ℕ). 32 ∷ l) (append_assoc (replicate more 32) (digit n ∷ line_feed) rest) in
    let k : spaces_in s ≡ suc more =
    ap (leading is_space) shape ∙ leading_stops is_space spaces (digit n) (10 ∷ rest) (all_replicate is_space more 32 refl) (ne_eqb (digit n) 32 (λ h. absurd (omega arith))) ∙ ap suc (length-replicate more 32) in
    let at_tail : drop (1 + suc more) s ≡ tail = sym (drop-drop (suc more) 1 s) ∙ ap (drop (suc more)) shape ∙ drop_at spaces tail (suc more) (ap suc (length-replicate more 32)) in
    let behind : drop (3 + suc more) s ≡ rest = (let l : 3 + suc more ≡ 1 + suc more + 2 = omega arith in rw l) ∙ sym (drop-drop 2 (1 + suc more) s) ∙ ap (drop 2) at_tail in
    let is-n : size_of s ≡ n = omega arith in
    record {
      fine = rw (is-n, e, k, at_tail, le-leb 1 (suc more) (omega arith)) (begins_append (digit n ∷ line_feed) rest);
      size = is-n;
      behind = rw k behind;
    }

-- elements that are all one
all_equal : (c : ℕ) (l : List ℕ) → all (λ x. eqb x c) l ≡ true → l ≡ replicate (length l) c
unfolding all
all_equal c [] e = refl
all_equal c (x ∷ l) e =
    let w = and_true (eqb x c) (all (λ y. eqb y c) l) e in
    rw (eqb-true x c w.0) (ap (λ (m : List ℕ). c ∷ m) (all_equal c l w.1))

replicate_some : (c k : ℕ) → 1 ≤ k → replicate k c ≡ c ∷ replicate (k - 1) c
replicate_some c zero h = absurd (omega arith)
replicate_some c (suc k) h = let j : suc k - 1 ≡ k = omega arith in rw j

pub size_line_lem : (s : List ℕ) → size_fine s ≡ true → s ≡ spaced_size_line (spaces_in s - 1) (size_of s) ++ behind_size s
size_line_lem [] e = absurd (omega (arith, size_some [] e))
size_line_lem (d ∷ t) e =
    let s : List ℕ = d ∷ t in
    let k = spaces_in s in
    let tests = size_tests s e in
    let n : digit (size_of s) ≡ d = omega (arith, tests.least) in
    let spaces : take k t ≡ 32 ∷ replicate (k - 1) 32 =
    all_equal 32 (take k t) (leading_pass is_space t) ∙ ap (λ (m : ℕ). replicate m 32) (length-take-le k t (leading_le is_space t)) ∙ replicate_some 32 k tests.spaced in
    let left : drop 2 (drop k t) ≡ behind_size s = drop-drop 2 k t ∙ drop-drop (k + 2) 1 s ∙ (let j : 1 + (k + 2) ≡ 3 + k = omega arith in rw j) in
    let ended : drop k t ≡ (d ∷ line_feed) ++ behind_size s =
    begins_front (d ∷ line_feed) (drop k t) (rw (← (drop-drop k 1 s)) at tests.ended) ∙ ap (λ (l : List ℕ). (d ∷ line_feed) ++ l) left in
    let whole : t ≡ 32 ∷ ((replicate (k - 1) 32 ++ (d ∷ line_feed)) ++ behind_size s) =
    sym (take-append-drop k t) ∙ ap (λ (l : List ℕ). l ++ drop k t) spaces ∙ ap (λ (l : List ℕ). 32 ∷ l) (ap (λ (l : List ℕ). replicate (k - 1) 32 ++ l) ended ∙ sym (append_assoc (replicate (k - 1) 32) (d ∷ line_feed) (behind_size s))) in
    rw n (ap (λ (l : List ℕ). d ∷ l) whole)
