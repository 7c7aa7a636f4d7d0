-- Blocks of rows: one over another's front, one by its rows, and the loop over the rows of lists that hold them.
-- A law of blocks is a law of one list, which `search` and `simp` put to use at each of a block's four.
-- Assumes nothing.
use Prim.Native.Nat.{ℕ, zero, suc, ◌+◌, ◌*◌, ◌≤◌, ◌<◌}
use Rattle.std.specs.Prelude.{length, get_or, List, [], ◌∷◌, ◌++◌, ◌≡◌}
use Rattle.std.proofs.Common.{drop-drop, append_assoc, append-nil, sym, ◌∙◌, suc-mul, zero-mul, mul-le-mul_right, arith}
use Rattle.std.proofs.Math.Path.{refl, ap}
use Rattle.buffer.specs.Laws.{take_onto, holds}
use Rattle.rows.specs.Block.{Block, Counts, HasRoom, RowsRoom, front, behind, stacked, over, row_in, split, together}

-- ---- one over another's front

module _ {k m : ℕ} (r s : Block) (e : Counts k m r) where
  pub front_over : front k m (over r s) ≡ r
  front_over = search take_onto

  pub room_over : HasRoom k m (over r s)
  room_over = search holds

-- ---- its rows, n tanks each

-- what m + 1 rows have, and m rows behind the first
pub rows_one_more : (m : ℕ) → suc m ≡ 1 + m
rows_one_more m = omega arith

module _ (n : ℕ) where
  pub figures_more : (m : ℕ) → suc m * n ≡ n + m * n
  figures_more m = omega (arith, suc-mul m n)

  pub split_at : (m : ℕ) (r : Block) (i : ℕ) (d : Block) → i < m → get_or (split n m r) i d ≡ row_in n r i
  unfolding split
  split_at zero r i d h = absurd (omega arith)
  split_at (suc m) r zero d h = rw (zero-mul n)
  split_at (suc m) r (suc i) d h = split_at m (behind n 1 r) i d (omega arith) ∙ rw (figures_more i, rows_one_more i) (simp drop-drop)

  pub length_split : (m : ℕ) (r : Block) → length (split n m r) ≡ m
  unfolding split
  length_split zero r = refl
  length_split (suc m) r = ap suc (length_split m (behind n 1 r))

-- one row more
pub together_more : (rs : List Block) (r : Block) → together (rs ++ (r ∷ [])) ≡ stacked (together rs) r
together_more [] r = simp append-nil
together_more (q ∷ rs) r = simp (together_more rs r, append_assoc)

-- ---- a loop over n rows of lists that hold them: i are done, and the next begins at `from`

pub record AtRow (n : ℕ) (lists : Block) (i from : ℕ) : Type 0 where
  pub room : RowsRoom n lists
  pub place : from ≡ i * n

module _ {n : ℕ} {lists : Block} where
  pub first_row : RowsRoom n lists → AtRow n lists 0 0
  first_row w = record { room = w; place = sym (zero-mul n) }

  module _ {i from : ℕ} (r : AtRow n lists i from) where
    -- the rows so far find room, and so does the next
    pub rows_held : i ≤ n → HasRoom from i lists
    rows_held h = omega (arith, r.room.room, r.place, mul-le-mul_right n h)

    pub row_held : i < n → HasRoom (from + n) (i + 1) lists
    row_held h = omega (arith, r.room.room, r.place, mul-le-mul_right n h, suc-mul i n)

    pub next_row : AtRow n lists (i + 1) (from + n)
    next_row = record { room = r.room; place = omega (arith, r.place, suc-mul i n) }
