-- A field that is due: one that was written is read back, and one that is not refused is what a writer writes. The same of the end field.
-- Assumes nothing.
use Rattle.std.specs.Prelude.{ℕ, ◌+◌, ◌^◌, ◌≤◌, ◌<◌, length, drop, true, List, [], ◌++◌, ◌≡◌, refl}
use Rattle.std.proofs.Common.{eqb-true, drop_of_length-le, append-nil, sym, ap, ◌∙◌, le_of_eq}
use Rattle.outcome.proofs.Laws.{check_accepted, first_left, first_right}
use Rattle.bigendian.specs.Number.{be, be_bytes, Bytes}
use Rattle.bigendian.specs.NumberLaws.{bytes_drop}
use Rattle.fields.specs.Due.{Due, due_at, due_status, end_status}
use Rattle.fields.specs.Field.{length_size, header_size, field, end_tag, end_length, end_size, end_field, value_of, after_field, field_status}
use Rattle.fields.proofs.FieldLaws.{field_value, field_after, field_accepted, value_room, field_is, field_same}
use Rattle.outcome.specs.Outcome.{Accepted, Status}

-- bytes that were written are read back as x, whatever follows them
pub record FieldBack {A : Type 0} (status : List ℕ → Status) (at : List ℕ → A) (size : ℕ) (s : List ℕ) (x : A) (rest : List ℕ) : Type 0 where
  pub accepted : status (s ++ rest) ≡ Accepted
  pub read : at (s ++ rest) ≡ x
  pub after : drop size (s ++ rest) ≡ rest

module _ {A : Type 0} (d : Due A) where
  -- a field that was written
  abbrev pub DueBack : A → List ℕ → Type 0
  DueBack x rest = FieldBack (due_status d) (due_at d) (header_size + d.len) (field d.tag (d.write x)) x rest

  pub due_back : (x : A) (rest : List ℕ) → length (d.write x) ≡ d.len → d.len < 256 ^ length_size → d.fine x ≡ true → d.read (d.write x ++ rest) ≡ x → DueBack x rest
  due_back x rest l h f e =
      let value : due_at d (field d.tag (d.write x) ++ rest) ≡ x = ap d.read (field_value d.tag (d.write x) rest) ∙ e in
      record {
        accepted = rw (field_accepted d.tag (d.write x) rest d.len l h, value, f);
        read = value;
        after = field_after d.tag (d.write x) rest d.len l;
      }

-- a field that is not refused
module _ {A : Type 0} (d : Due A) (s : List ℕ) (accepted : due_status d s ≡ Accepted) where
  pub due_field : field_status d.tag d.len s ≡ Accepted
  due_field = search first_left

  pub due_fine : d.fine (due_at d s) ≡ true
  due_fine = search (first_right, check_accepted)

  -- where a value's bytes are read and written back
  pub due_same : Bytes s → ((v : List ℕ) → Bytes v → d.len ≤ length v → (length (d.write (d.read v)) ≡ d.len) × (d.write (d.read v) ++ drop d.len v ≡ v))
      → field d.tag (d.write (due_at d s)) ++ after_field d.len s ≡ s
  due_same bs same =
      let w = same (value_of s) (bytes_drop header_size bs) (value_room d.tag d.len s due_field) in
      field_same d.tag d.len s due_field bs (d.write (due_at d s)) w.0 w.1

-- ---- the end

pub end_back : end_status end_field ≡ Accepted
unfolding end_status field_status field be_bytes be
end_back = refl

pub end_same : (s : List ℕ) → end_status s ≡ Accepted → Bytes s → end_field ≡ s
unfolding end_status
end_same s e bs =
    let l : length s ≡ end_size = search (first_right, check_accepted, eqb-true) in
    let d : drop end_size s ≡ [] = drop_of_length-le s (le_of_eq l) in
    let f : end_field ++ drop end_size s ≡ s = field_is end_tag end_length s (search first_left) bs in
    sym (append-nil end_field) ∙ (rw d at f)
