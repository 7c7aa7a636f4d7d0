-- Comment lines: what is left behind them, and that what stands before it is comment lines. Assumes nothing.
use Rattle.std.specs.Prelude.{ℕ, ◌<◌, eqb, length, Bool, true, false, List, [], ◌∷◌, ◌++◌, ◌≡◌, refl}
use Rattle.std.proofs.Common.{eqb-true, append_assoc, sym, ap, ◌∙◌, subst, arith}
use Rattle.buffer.specs.AllLaws.{and_true}
use Rattle.buffer.specs.Buffer.{joined, all}
use Rattle.decimal.specs.Decimal.{line_feed}
use Rattle.matrixfile.specs.Read.{no_line_feed, after_comments}
use Rattle.matrixfile.specs.Variation.{comment_line}

-- inside one, up to its line feed
comment_passed : (comment rest : List ℕ) → all no_line_feed comment ≡ true → after_comments true (comment ++ (10 ∷ rest)) ≡ after_comments false rest
unfolding after_comments all
comment_passed [] rest e = refl
comment_passed (c ∷ comment) rest e =
    let w = and_true (no_line_feed c) (all no_line_feed comment) e in
    rw w.0 (comment_passed comment rest w.1)

-- all of them, up to a line that begins otherwise
pub comments_passed : (comments : List (List ℕ)) (c : ℕ) (rest : List ℕ) → all (all no_line_feed) comments ≡ true → eqb c 37 ≡ false
    → after_comments false (joined comment_line comments ++ (c ∷ rest)) ≡ c ∷ rest
unfolding after_comments all
comments_passed [] c rest e g = rw g
comments_passed (comment ∷ comments) c rest e g =
    let w = and_true (all no_line_feed comment) (all (all no_line_feed) comments) e in
    let t = joined comment_line comments ++ (c ∷ rest) in
    let a : (comment_line comment ++ joined comment_line comments) ++ (c ∷ rest) ≡ 37 ∷ (comment ++ (10 ∷ t)) =
    ap (λ (l : List ℕ). 37 ∷ l) (simp append_assoc) in
    ap (after_comments false) a ∙ comment_passed comment t w.0 ∙ comments_passed comments c rest w.1 g

-- what stands before the place where they end; inside a comment line its rest stands first
abbrev rest_of_line : Bool → List ℕ → List ℕ
rest_of_line true comment = comment ++ line_feed
rest_of_line false comment = []

record LinesBefore (inside : Bool) (s : List ℕ) : Type 0 where
  line : List ℕ
  comments : List (List ℕ)
  in_line : all no_line_feed line ≡ true
  in_lines : all (all no_line_feed) comments ≡ true
  is : s ≡ rest_of_line inside line ++ (joined comment_line comments ++ after_comments inside s)

comment_begun : (s : List ℕ) → LinesBefore true s → LinesBefore false (37 ∷ s)
unfolding after_comments all
comment_begun s q =
    record {
      line = [];
      comments = q.line ∷ q.comments;
      in_line = refl;
      in_lines = rw q.in_line q.in_lines;
      is = ap (λ (l : List ℕ). 37 ∷ l) (q.is ∙ sym (append_assoc (q.line ++ line_feed) (joined comment_line q.comments) (after_comments true s)));
    }

lines_before : (inside : Bool) (s : List ℕ) → 0 < length (after_comments inside s) → LinesBefore inside s
unfolding after_comments all
lines_before inside [] h = absurd (omega arith)
lines_before inside (c ∷ s) h = by inside (eqb c 37) (eqb c 10) refl refl h (lines_before true s) (lines_before false s)
  where
    by : (inside percent feed : Bool) → eqb c 37 ≡ percent → eqb c 10 ≡ feed → 0 < length (after_comments inside (c ∷ s))
        → (0 < length (after_comments true s) → LinesBefore true s) → (0 < length (after_comments false s) → LinesBefore false s) → LinesBefore inside (c ∷ s)
    -- the line goes on
    by true percent false p f h t n =
        let q = t (rw f at h) in
        record {
          line = c ∷ q.line;
          comments = q.comments;
          in_line = rw f q.in_line;
          in_lines = q.in_lines;
          is = rw f (ap (λ (l : List ℕ). c ∷ l) q.is);
        }
    -- it ends
    by true percent true p f h t n =
        let q = n (rw f at h) in
        record {
          line = [];
          comments = q.comments;
          in_line = refl;
          in_lines = q.in_lines;
          is = rw (f, eqb-true c 10 f) (ap (λ (l : List ℕ). 10 ∷ l) q.is);
        }
    -- a comment line begins
    by false true feed p f h t n =
        subst (λ (x : ℕ). 0 < length (after_comments false (x ∷ s)) → LinesBefore false (x ∷ s)) (sym (eqb-true c 37 p)) (λ g. comment_begun s (t g)) h
    -- none
    by false false feed p f h t n =
        record { line = []; comments = []; in_line = refl; in_lines = refl; is = rw p }

pub record CommentsBefore (s : List ℕ) : Type 0 where
  pub comments : List (List ℕ)
  pub in_lines : all (all no_line_feed) comments ≡ true
  pub is : s ≡ joined comment_line comments ++ after_comments false s

pub comments_before : (s : List ℕ) → 0 < length (after_comments false s) → CommentsBefore s
comments_before s h = let p = lines_before false s h in record { comments = p.comments; in_lines = p.in_lines; is = p.is }
