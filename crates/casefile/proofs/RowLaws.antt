-- A row and its bytes: a row that was written is read back, and the bytes that are read as a row are the row's.
-- Assumes nothing.
use Prim.Native.Nat.{ℕ, ◌+◌, ◌*◌, ◌≤◌}
use Rattle.std.proofs.Math.ListN.{length, length-drop}
use Rattle.std.specs.Prelude.{drop, ◌≡◌}
use Rattle.std.proofs.Common.{length-append, ◌∙◌}
use Rattle.std.proofs.Math.Seq.{drop-drop}
use mathlib.Core.List.{List, ◌++◌, append_assoc}
use native.Mathlib.Omega.{arith}
use Rattle.limits.specs.Limits.{most_tanks}
use Rattle.rows.specs.Block.{Block, Counts}
use Rattle.bigendian.specs.Number.{Bytes}
use Rattle.bigendian.specs.NumberLaws.{bytes_drop}
use Rattle.figures.proofs.FigureLaws.{length_spread, after_spread, figures_spread, spread_figures}
use Rattle.figures.specs.Figures.{i16_kind, u16_kind, i32_kind, u32_kind, after}
use Rattle.figures.proofs.ItemLaws.{length_items}
use Rattle.fields.proofs.DueLaws.{DueBack, due_back, due_fine, due_same}
use Rattle.fields.specs.Field.{value_of}
use Rattle.fields.proofs.FieldLaws.{length_field}
use Rattle.casefile.specs.Decode.{row_of, row_at, row_due, row_status}
use Rattle.casefile.proofs.KindLaws.{coefficient_lawful, tolerance_lawful, right_side_lawful, right_tolerance_lawful}
use Rattle.casefile.specs.Layout.{row_tag, row_length, row_size, right_tolerance_in, row_bytes, row_field}
use Rattle.casefile.specs.SoundLaws.{SoundBlock, counts, sound, sound_fine}
use Rattle.outcome.specs.Outcome.{Accepted}

-- how long a row is, by its counts
module _ {n : ℕ} {r : Block} (c : Counts n 1 r) where
  pub length_row : length (row_bytes r) ≡ row_length n
  unfolding row_bytes
  length_row = simp (length-append, length_spread) (omega (arith, c))

  pub length_row_field : length (row_field r) ≡ row_size n
  length_row_field = length_field row_tag (row_bytes r) ∙ rw length_row

module _ {n : ℕ} {r : Block} (s : SoundBlock n 1 r) (rest : List ℕ) where
  value_back : row_of n (row_bytes r ++ rest) ≡ r
  unfolding row_bytes row_of
  value_back =
      search (
        append_assoc,
        ← drop-drop,
        after_spread i16_kind,
        after_spread u16_kind,
        after_spread i32_kind,
        figures_spread i16_kind _ coefficient_lawful,
        figures_spread u16_kind _ tolerance_lawful,
        figures_spread i32_kind _ right_side_lawful,
        figures_spread u32_kind _ right_tolerance_lawful,
      )

  -- a row's field that was written
  pub row_back : n ≤ most_tanks → DueBack (row_due n) r rest
  row_back small = due_back (row_due n) r rest (length_row (counts s)) (omega arith) (sound_fine s) value_back

-- ---- a row's field that is not refused

row_counts : (n : ℕ) (v : List ℕ) → Counts n 1 (row_of n v)
unfolding row_of
row_counts n v = search length_items

module _ (n : ℕ) (s : List ℕ) (accepted : row_status n s ≡ Accepted) where
  pub row_sound : SoundBlock n 1 (row_at n s)
  unfolding row_status
  row_sound = sound (row_counts n (value_of s)) (due_fine (row_due n) s accepted)

  -- the value, figure by figure
  same : (v : List ℕ) → Bytes v → row_length n ≤ length v → row_bytes (row_of n v) ++ drop (row_length n) v ≡ v
  unfolding row_bytes row_of
  same v bv h =
      let v1 : List ℕ = after i16_kind n v in
      let v2 : List ℕ = after u16_kind n v1 in
      let v3 : List ℕ = after i32_kind 1 v2 in
      let room : (i16_kind.width * n ≤ length v) × (u16_kind.width * n ≤ length v1) × (i32_kind.width * 1 ≤ length v2) × (u32_kind.width * 1 ≤ length v3) = simp length-drop (omega arith) in
      let k : row_length n ≡ right_tolerance_in n + u32_kind.width * 1 = omega arith in
      search (
        append_assoc,
        k,
        ← drop-drop,
        bytes_drop,
        spread_figures u32_kind _ right_tolerance_lawful,
        spread_figures i32_kind _ right_side_lawful,
        spread_figures u16_kind _ tolerance_lawful,
        spread_figures i16_kind _ coefficient_lawful,
      )

  pub row_same : Bytes s → row_field (row_at n s) ++ drop (row_size n) s ≡ s
  unfolding row_status
  row_same bs = due_same (row_due n) s accepted bs (λ v b h. (length_row (row_counts n v), same v b h))
