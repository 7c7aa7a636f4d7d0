-- Rows one after another: their fields are read back, and bytes that are read as rows are the rows' fields.
-- Assumes nothing.
use Prim.Native.Nat.{ℕ, zero, suc, ◌*◌, ◌≤◌}
use Rattle.std.specs.Prelude.{length, drop, ◌≡◌, refl}
use Rattle.std.proofs.Common.{drop_at, zero-mul, mul-le-mul, arith}
use mathlib.Core.List.{List, ◌∷◌, ◌++◌, append_assoc}
use Rattle.limits.specs.Limits.{most_tanks, most_coefficients}
use Rattle.buffer.specs.Buffer.{joined}
use Rattle.rows.specs.Block.{Block}
use Rattle.outcome.proofs.Laws.{first_left, first_right}
use Rattle.bigendian.specs.Number.{Bytes}
use Rattle.bigendian.specs.NumberLaws.{bytes_drop}
use Rattle.figures.specs.Figures.{items}
use Rattle.figures.proofs.ItemLaws.{length_joined, items_same}
use Rattle.fields.proofs.DueLaws.{FieldBack}
use Rattle.casefile.specs.Decode.{row_at, row_status, rows_status, rows_of}
use Rattle.casefile.specs.Layout.{row_size, row_field}
use Rattle.casefile.proofs.RowLaws.{length_row_field, row_back, row_sound, row_same}
use Rattle.casefile.specs.SoundLaws.{counts, Rows, none, one}
use Rattle.outcome.specs.Outcome.{Accepted}

-- ---- rows that were written, with what follows them

pub length_row_fields : {n : ℕ} {rs : List Block} → Rows n rs → length (joined row_field rs) ≡ length rs * row_size n
length_row_fields {n} {rs} g = length_joined (row_size n) (row_at n) row_field (Rows n) next rs g
  where
    next : (r : Block) (rs : List Block) → Rows n (r ∷ rs) → (length (row_field r) ≡ row_size n) × Rows n rs
    next r rs (one s g) = (length_row_field (counts s), g)

pub rows_back : {n : ℕ} → n ≤ most_tanks → {rs : List Block} → Rows n rs → (rest : List ℕ)
    → FieldBack (rows_status n (length rs)) (rows_of n (length rs)) (length rs * row_size n) (joined row_field rs) rs rest
unfolding rows_status row_status items
rows_back {n} small none rest = record { accepted = refl; read = refl; after = rw (zero-mul (row_size n)) }
rows_back small (one {r = r} {rs = rs} s g) rest =
    let b = row_back s (joined row_field rs ++ rest) small in
    let w = rows_back small g rest in
    let a = append_assoc (row_field r) (joined row_field rs) rest in
    record {
      accepted = rw (a, b.accepted, b.after) w.accepted;
      read = rw (a, b.read, b.after, w.read);
      after = drop_at (joined row_field (r ∷ rs)) rest _ (length_row_fields (one s g));
    }

-- ---- rows that were read

module _ (n : ℕ) where
  pub rows_sound : (m : ℕ) (s : List ℕ) → rows_status n m s ≡ Accepted → Rows n (rows_of n m s)
  unfolding rows_status items
  rows_sound zero s e = none
  rows_sound (suc m) s e = search (first_left, first_right, row_sound, rows_sound m (drop (row_size n) s), one)

  pub rows_same : (m : ℕ) (s : List ℕ) → rows_status n m s ≡ Accepted → Bytes s → joined row_field (rows_of n m s) ++ drop (m * row_size n) s ≡ s
  unfolding rows_status
  rows_same m s e bs = items_same (row_size n) (row_at n) row_field Ok next m s (e, bs)
    where
      Ok : ℕ → List ℕ → Type 0
      Ok m s = (rows_status n m s ≡ Accepted) × Bytes s

      next : (m : ℕ) (s : List ℕ) → Ok (suc m) s → (row_field (row_at n s) ++ drop (row_size n) s ≡ s) × Ok m (drop (row_size n) s)
      next m s h = search (first_left, first_right, row_same, bytes_drop)

-- ---- what n × n figures and n rows take at most

module _ (n : ℕ) (small : n ≤ most_tanks) where
  pub square_fits : n * n ≤ most_coefficients
  square_fits = mul-le-mul small small

  pub rows_fit : n * row_size n ≤ most_tanks * row_size most_tanks
  rows_fit = let k : row_size n ≤ row_size most_tanks = omega arith in mul-le-mul small k
