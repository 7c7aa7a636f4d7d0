-- Definitions only.
-- A field that is due at the front of the bytes that are left, with its figures' limits; the end field; and what is promised of fields that were read.
use Rattle.std.specs.Prelude.{ℕ, eqb, length, Bool, List, ◌≡◌}
use Rattle.outcome.specs.Outcome.{status_number, check, first, Status}
use Rattle.outcome.specs.declared.Refusal.TheVariants.{OutsideLimits, TrailingBytes}
use Rattle.fields.specs.Field.{end_tag, end_length, end_size, value_of, field_status}

-- a field that is due: its tag and length, what its value is read as, whether that is within its limits, and its value's bytes
pub record Due (A : Type 0) : Type 0 where
  pub tag : ℕ
  pub len : ℕ
  pub read : List ℕ → A
  pub fine : A → Bool
  pub write : A → List ℕ

-- what is read of such a field at the front of s
abbrev pub due_at : {A : Type 0} → Due A → List ℕ → A
due_at d s = d.read (value_of s)

-- "at each field 2 to 6 in turn": the field due at the front of s, and then whether its figures are within their limits
abbrev pub due_status : {A : Type 0} → Due A → List ℕ → Status
due_status d s = first (field_status d.tag d.len s) (check (d.fine (due_at d s)) OutsideLimits)

-- the end field: "Nothing follows."
unfoldable pub end_status : List ℕ → Status
end_status s = first (field_status end_tag end_length s) (check (eqb (length s) end_size) TrailingBytes)

-- fields that were read: the status due, by the paper's number, and where nothing is refused what was read
pub record FieldsRead {A : Type 0} (due : Status) (value : A) (status : Status) (out : A) : Type 0 where
  pub number : status_number status ≡ status_number due
  pub made : status_number status ≡ 0 → out ≡ value
