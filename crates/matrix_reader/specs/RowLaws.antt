-- The loop that writes the columns' entries row after row over a list's front. Assumes nothing.
use Rattle.std.specs.Prelude.{ℕ, ◌+◌, ◌*◌, ◌≤◌, ◌<◌, ℤ, pos, length, get_or, take, drop, set, List, ◌≡◌, refl}
use Rattle.std.proofs.Common.{length-set, take-append-drop, drop-drop, drop-set-lt, take-suc-set, take-suc, sym, ◌∙◌, add-one, arith}
use Rattle.std.proofs.Math.Seq.{take-length}
use Rattle.buffer.specs.Buffer.{onto}
use Rattle.matrixfile.specs.Text.{transposed_place, transpose}
use Rattle.matrixfile.specs.TextLaws.{length_transpose, transpose_at}
use Rattle.matrix_reader.specs.Parts.{Square}

-- k places are written, and those behind them are as they were
pub record WritingRows (n : ℕ) (columns out₀ out : List ℤ) (k : ℕ) : Type 0 where
  pub room : Square n (length out₀)
  pub same : length out ≡ length out₀
  pub few : k ≤ n * n
  written : take k out ≡ take k (transpose n columns)
  kept : drop k out ≡ drop k out₀

module _ {n : ℕ} {columns out₀ : List ℤ} where
  pub rows_begun : Square n (length out₀) → WritingRows n columns out₀ out₀ 0
  rows_begun s = record { room = s; same = refl; few = omega arith; written = refl; kept = refl }

  module _ {out : List ℤ} {k : ℕ} (r : WritingRows n columns out₀ out k) where
    pub rows_turn : {x : ℤ} → k < n * n → x ≡ get_or columns (transposed_place n k) (pos 0) → WritingRows n columns out₀ (set out k x) (k + 1)
    rows_turn {x} h e =
        let inside : k < length out = omega (arith, r.same, r.room.room) in
        record {
          room = r.room;
          same = length-set out k x ∙ r.same;
          few = omega arith;
          written =
              rw (add-one k, take-suc-set out k x inside, take-suc (transpose n columns) k (pos 0) (omega (arith, length_transpose n columns)), transpose_at n columns k h, r.written, e);
          kept = rw (drop-set-lt (k + 1) out k x (omega arith)) behind;
        }
      where
        behind : drop (k + 1) out ≡ drop (k + 1) out₀
        behind = rw (← (drop-drop 1 k out), ← (drop-drop 1 k out₀), r.kept)

    pub rows_ended : n * n ≤ k → out ≡ onto (transpose n columns) out₀
    rows_ended h =
        let l = length_transpose n columns in
        let c : k ≡ length (transpose n columns) = omega (arith, r.few) in
        sym (take-append-drop k out) ∙ rw (r.written, r.kept, c, take-length (transpose n columns))
