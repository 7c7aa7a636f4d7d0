-- The rows read so far: the law of reading loops, and their figures over the lists' fronts.
-- Assumes nothing.
use Prim.Native.Nat.{ℕ, ◌+◌, ◌*◌, ◌-◌, ◌≤◌, ◌<◌}
use borrow.Rule.Slice.PartMut.{put_mid}
use lib.ListN.{length, drop, length-append}
use mathlib.Core.List.{List, [], ◌∷◌, ◌++◌}
use mathlib.Core.Path.{◌≡◌, refl, sym, ◌∙◌}
use native.Mathlib.Omega.{arith}
use Rattle.std.specs.Prelude.{Err}
use Rattle.std.proofs.Common.{zero-mul, suc-mul, add-zero}
use Rattle.buffer.specs.Buffer.{onto}
use Rattle.buffer.specs.Laws.{filled}
use Rattle.rows.specs.Block.{Block, block, Counts, stacked, over, together}
use Rattle.rows.specs.BlockLaws.{together_more}
use Rattle.outcome.proofs.Laws.{stops, first_goes_on, not_both}
use Rattle.outcome.specs.Outcome.{Accepted}
use Rattle.outcome.specs.declared.Refusal.{Refusal}
use Rattle.figures.proofs.LoopLaws.{ReadingItems, begun, stopped, turn, ended}
use Rattle.fields.proofs.AnswerLaws.{read_status, fields_read, read_made}
use Rattle.casefile.specs.Decode.{row_at, row_status, rows_status}
use Rattle.casefile.specs.Layout.{row_size}
use Rattle.casefile.proofs.RowLaws.{row_sound}
use Rattle.casefile.specs.SoundLaws.{SoundBlock, counts, Rows, none, together_sound, rows_more}
use Rattle.case_reader.specs.Read.{RowFound, RowsFound}

-- the lists after a row's parts of them, which begin at k and at m, were filled with r
abbrev with_row : ℕ → ℕ → ℕ → Block → Block → Block
with_row n k m lists r =
    block
    (put_mid k (k + n - k) lists.A r.A)
    (put_mid k (k + n - k) lists.E r.E)
    (put_mid m (m + 1 - m) lists.b r.b)
    (put_mid m (m + 1 - m) lists.f r.f)

-- one of them: d over its front, and r behind d
list_more : {X : Type 0} (l₀ d r : List X) (k n : ℕ) → length d ≡ k → length r ≡ n → put_mid k (k + n - k) (onto d l₀) r ≡ onto (d ++ r) l₀
list_more l₀ d r k n c h = filled l₀ _ d r k (k + n - k) refl c (omega arith)

-- figures over the fronts of lists, and a row's figures behind them
over_more : {k m n : ℕ} (d : Block) → Counts k m d → (lists₀ lists : Block) → lists ≡ over d lists₀ → (r : Block) → Counts n 1 r
    → with_row n k m lists r ≡ over (stacked d r) lists₀
over_more d c lists₀ lists e r h = rw e (search list_more)

module _ (s : List ℕ) (at n : ℕ) (lists₀ : Block) where
  pub record ReadingRows (lists : Block) (i : ℕ) : Type 0 where
    done : List Block
    sound : Rows n done
    count : length done ≡ i
    is : lists ≡ over (together done) lists₀
    read : ReadingItems (row_size n) (row_at n) (rows_status n) n s at done i (at + i * row_size n)

  pub begun_rows : ReadingRows lists₀ 0
  begun_rows = record { done = []; sound = none; count = refl; is = refl; read = rw (zero-mul (row_size n), add-zero at) begun }

  module _ {lists : Block} {i : ℕ} (r : ReadingRows lists i) where
    -- what is left from the next row's field on
    abbrev behind : List ℕ
    behind = drop (at + i * row_size n) s

    pub stopped_rows : i < n → (q : Refusal) {row : Block} → RowFound n behind (Err q) row → (exit : Block) → RowsFound n (drop at s) lists₀ (Err q) exit
    unfolding rows_status
    stopped_rows h q w exit = fields_read (stopped r.read h (λ m. stops _ (read_status w) refl)) (λ y. not_both (Err q) q refl y)

    pub turn_rows : i < n → {row : Block} → RowFound n behind Accepted row → ReadingRows (with_row n (i * n) i lists row) (i + 1)
    unfolding rows_status
    turn_rows h {row} w =
        let acc : row_status n behind ≡ Accepted = sym (read_status w) in
        let made : row ≡ row_at n behind = read_made w refl in
        let so : SoundBlock n 1 row = rw made (row_sound n behind acc) in
        let so_far : Counts (i * n) i (together r.done) = rw r.count at (counts (together_sound n r.sound)) in
        let after : at + (i + 1) * row_size n ≡ at + i * row_size n + row_size n = omega (arith, suc-mul i (row_size n)) in
        record {
          done = r.done ++ (row ∷ []);
          sound = rows_more r.sound so;
          count = length-append r.done (row ∷ []) ∙ omega (arith, r.count);
          is = over_more (together r.done) so_far lists₀ lists r.is row (counts so) ∙ rw (together_more r.done row);
          read = rw (made, after) (turn r.read h (λ m. first_goes_on (row_status n behind) _ acc));
        }

    pub ended_rows : n ≤ i → RowsFound n (drop at s) lists₀ Accepted lists
    unfolding rows_status
    ended_rows h =
        let w = ended r.read h in
        fields_read w.0 (λ _. rw (← w.1, ← r.is))
