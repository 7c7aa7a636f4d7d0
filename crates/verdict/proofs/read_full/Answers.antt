-- A read puts its bytes behind those that are there, and takes them from what is left to read.
use Rattle.std.proofs.Common.{◌≡◌, ℕ, ◌+◌, ◌≤◌, List, ◌++◌, rules, length, take, sym, ap, ◌∙◌, subst, le_refl, drop_at, length-take-le}
use Rattle.std.proofs.lemmas.Slice.{take-put_mid_below}
use Rattle.std.specs.Io.KnownBytes.{Consumes}
use Rattle.std.proofs.KnownBytes.{Consumes-trans}
use borrow.Rule.Slice.PartMut.{put_mid, post_of}
use lib.Seq.{take-add, take-append-le}
use Rattle.verdict.proofs.read_full.Goals as goal

-- the bytes that were there, and behind them the front of what a read put at their end
take_joined : (a k n : ℕ) (xs ys : List ℕ) → a ≤ length xs → n ≤ length ys → take a xs ++ take n ys ≡ take (a + n) (put_mid a k xs ys)
take_joined a k n xs ys within fits =
    let after = post_of a k xs in
    let whole = put_mid a k xs ys in
    let rest = ap (take n) (drop_at (take a xs) (ys ++ after) a (length-take-le a xs within)) ∙ take-append-le n ys after fits in
    ap (λ l. l ++ take n ys) (sym (take-put_mid_below _ _ _ _ _ (le_refl _) within)) ∙ ap (λ l. take a whole ++ l) (sym rest) ∙ sym (take-add a n whole)

pub loop-done-preserved : goal.loop-done-preserved
loop-done-preserved g c =
    let joined = take_joined c.loop-done.done _ c.in_ok-n.n c.loop-done.buf c.read.new.buf c.loop-done.invariant.within c.in_ok-n.ensures.bound.0 in
    record {
      same_length = search rules;
      within = search rules;
      bytes = subst (Consumes _ _) joined (Consumes-trans _ _ _ _ _ c.loop-done.invariant.bytes c.in_ok-n.ensures.bytes.0);
    }
