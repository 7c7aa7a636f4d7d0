-- A row of a case, and the rows written so far.
-- Assumes nothing.
use Prim.Native.Nat.{ℕ, ◌+◌, ◌*◌, ◌≤◌, ◌<◌}
use lib.ListN.{length, get_or, take, drop, length-take, length-drop}
use mathlib.Core.List.{List}
use mathlib.Core.Path.{◌≡◌, sym}
use native.Mathlib.Omega.{arith}
use Rattle.std.proofs.Common.{suc-mul, zero-mul, mul-le-mul_right}
use Rattle.buffer.specs.Buffer.{onto, joined}
use Rattle.buffer.specs.Laws.{part, put}
use Rattle.buffer.specs.RunLaws.{Running, run_begun, run_next, run_turn_lent, run_joined}
use Rattle.rows.specs.Block.{Block, no_row, Counts, RowsRoom, row_in}
use Rattle.rows.specs.BlockLaws.{split_at, length_split}
use Rattle.casefile.specs.Case.{Case}
use Rattle.casefile.specs.Layout.{row_size, row_field, rows_in}
use Rattle.casefile.proofs.RowLaws.{length_row_field}

counted : {X : Type 0} (k m : ℕ) (l : List X) → k + m ≤ length l → length (take m (drop k l)) ≡ m
counted k m l h = simp (length-take, length-drop) (omega arith)

pub row_counts : {n i : ℕ} {r : Block} → RowsRoom n r → i < n → Counts n 1 (row_in n r i)
row_counts {n} {i} {r} room h =
    let held : i * n + n ≤ n * n = omega (arith, suc-mul i n, mul-le-mul_right n h) in
    record {
      l_a = counted (i * n) n r.A (omega (arith, room.room));
      l_e = counted (i * n) n r.E (omega (arith, room.room));
      lb = counted i 1 r.b (omega (arith, room.room));
      lf = counted i 1 r.f (omega (arith, room.room));
    }

module _ (out₀ : List ℕ) (c : Case) (size : ℕ) where
  pub record WritingRows (out : List ℕ) (i : ℕ) : Type 0 where
    pub row_size_lem : size ≡ row_size c.n
    pub rows_room : RowsRoom c.n c.rows
    pub running : Running (row_size c.n) (λ j. row_field (get_or (rows_in c) j no_row)) c.n 0 out₀ out i (i * size)

  pub begun : size ≡ row_size c.n → c.n * row_size c.n ≤ length out₀ → RowsRoom c.n c.rows → WritingRows out₀ 0
  begun e h l = record { row_size_lem = e; rows_room = l; running = rw (zero-mul size) (run_begun (omega (arith, h))) }

  module _ {out : List ℕ} {i : ℕ} (r : WritingRows out i) where
    pub next : i < c.n → i * size + row_size c.n ≤ length out
    next h = run_next r.running h

    pub turn : i < c.n → {ys : List ℕ} → ys ≡ onto (row_field (row_in c.n c.rows i)) (part out (i * size)) → WritingRows (put out (i * size) ys) (i + 1)
    turn h e =
        let q : row_in c.n c.rows i ≡ get_or (rows_in c) i no_row = sym (split_at c.n c.n c.rows i no_row h) in
        let p : i * size + row_size c.n ≡ (i + 1) * size = omega (arith, suc-mul i size, r.row_size_lem) in
        record {
          row_size_lem = r.row_size_lem;
          rows_room = r.rows_room;
          running = rw p at (run_turn_lent r.running h (rw q at (length_row_field (row_counts r.rows_room h))) (rw q at e));
        }

    pub ended : c.n ≤ i → out ≡ onto (joined row_field (rows_in c)) out₀
    ended h = (run_joined row_field no_row (rows_in c) (length_split c.n c.n c.rows) r.running h).bytes
