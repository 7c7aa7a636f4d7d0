-- The laws of a field: one that was written is whole, one that is whole is what a writer writes, and what the check of a field at a place tells.
-- Assumes nothing.
use Rattle.std.specs.Prelude.{ℕ, suc, ◌+◌, ◌-◌, ◌^◌, ◌≤◌, ◌<◌, drop, ◌≡◌}
use borrow.Author.Tests.{le-leb, leb-true, eq-eqb, eqb-true}
use Rattle.std.proofs.Math.ListN.{length, take, length-append, length-drop, take-append-drop}
use Rattle.std.proofs.Math.Seq.{length-take-le}
use Rattle.std.proofs.Common.{drop-drop, take_at, drop_at, drop-cons, sym, ap, ◌∙◌, arith}
use Rattle.std.proofs.lemmas.List.Edits.{sets, sets-eq}
use mathlib.Core.List.{List, ◌++◌, append_assoc}
use Rattle.std.proofs.Math.Path.{refl}
use Rattle.buffer.specs.Buffer.{onto}
use Rattle.buffer.specs.Laws.{part, put}
use Rattle.buffer.specs.WroteLaws.{onto_two}
use Rattle.outcome.proofs.Laws.{same_status, check_accepted, first_left, first_right}
use Rattle.outcome.specs.Outcome.{status_number, Accepted, Status}
use Rattle.bigendian.specs.Number.{be_bytes, Bytes}
use Rattle.bigendian.specs.NumberLaws.{be_bytes_lem, length_bytes, bytes_of, bytes_drop}
use Rattle.fields.specs.Field.{length_at, length_size, header, header_size, field, tag_of, length_of, value_of, after_field, field_status}

pub length_header : (tag len : ℕ) → length (header tag len) ≡ header_size
length_header tag len = ap suc (length_bytes length_size len)

pub length_field : (tag : ℕ) (v : List ℕ) → length (field tag v) ≡ header_size + length v
unfolding field
length_field tag v = length-append (header tag (length v)) v ∙ omega (arith, length_header tag (length v))

pub field_is_header : (tag : ℕ) (v : List ℕ) (len : ℕ) → length v ≡ len → header tag len ++ v ≡ field tag v
unfolding field
field_is_header tag v len e = rw e

-- the value written behind the header
pub field_written : (tag len : ℕ) (v out x : List ℕ) {y : List ℕ} → length v ≡ len → x ≡ onto (header tag len) out → y ≡ onto v (part x header_size)
    → put x header_size y ≡ onto (field tag v) out
field_written tag len v out x {y} l e f =
    rw (← (field_is_header tag v len l)) (onto_two (header tag len) v out e (length_header tag len) f)

-- the value stored byte by byte behind the header
pub field_stored : (tag : ℕ) (v out l : List ℕ) → header_size + length v ≤ length l → l ≡ onto (header tag (length v)) out
    → sets l header_size v ≡ onto (field tag v) out
unfolding field be_bytes
field_stored tag v out l h e =
    let k : header_size + length v ≡ suc (suc (suc (length v))) = omega arith in
    let o = onto (header tag (length v)) out in
    let d : drop (header_size + length v) o ≡ drop (header_size + length v) out =
    sym (drop-drop (length v) header_size o) ∙ drop-drop (length v) header_size out in
    sets-eq v l header_size h ∙ rw (e, d, k)

-- ---- what a field has that is not refused, in whatever order it is tested

record Whole (tag len : ℕ) (s : List ℕ) : Type 0 where
  started : header_size ≤ length s
  tag_is : tag_of s ≡ tag
  length_is : length_of s ≡ len
  held : len ≤ length s - header_size

module _ (tag len : ℕ) (s : List ℕ) where
  whole : field_status tag len s ≡ Accepted → Whole tag len s
  unfolding field_status
  whole e = search (first_left, first_right, check_accepted, leb-true, eqb-true)

  passes : Whole tag len s → field_status tag len s ≡ Accepted
  unfolding field_status
  passes w = search (le-leb, eq-eqb)

-- ---- a field that was written, with what follows it

module _ (tag : ℕ) (v r : List ℕ) where
  pub field_value : value_of (field tag v ++ r) ≡ v ++ r
  unfolding field be_bytes
  field_value = refl

  pub field_after : (len : ℕ) → length v ≡ len → after_field len (field tag v ++ r) ≡ r
  field_after len e = drop_at (field tag v) r (header_size + len) (length_field tag v ∙ rw e)

  pub field_accepted : (len : ℕ) → length v ≡ len → len < 256 ^ length_size → field_status tag len (field tag v ++ r) ≡ Accepted
  unfolding field be_bytes
  field_accepted len e h =
      passes tag len (field tag v ++ r)
      (record {
        started = omega arith;
        tag_is = refl;
        length_is = be_bytes_lem length_size (length v) (omega arith) ∙ e;
        held = omega (arith, length-append v r);
      })

-- ---- a field that is not refused

module _ (tag len : ℕ) (s : List ℕ) (accepted : field_status tag len s ≡ Accepted) where
  pub value_room : len ≤ length (value_of s)
  value_room = simp length-drop (whole tag len s accepted).held

  pub field_is : Bytes s → field tag (take len (value_of s)) ++ after_field len s ≡ s
  unfolding field
  field_is bs =
      let w = whole tag len s accepted in
      let d : length_size ≤ length (drop length_at s) = simp length-drop (omega arith) in
      let b : be_bytes length_size len ≡ take length_size (drop length_at s) = rw (← w.length_is) (bytes_of length_size (drop length_at s) (bytes_drop length_at bs) d) in
      rw (
        length-take-le len (value_of s) value_room,
        b,
        append_assoc (take length_size (drop length_at s)) (take len (value_of s)) (after_field len s),
        ← (drop-drop len header_size s),
        take-append-drop len (value_of s),
        ← (drop-drop length_size length_at s),
        take-append-drop length_size (drop length_at s),
        ← w.tag_is,
      )
      (sym (drop-cons s 0 0 (omega arith)))

  -- a value made again from what was read, and so the field
  pub field_same : Bytes s → (v : List ℕ) → length v ≡ len → v ++ drop len (value_of s) ≡ value_of s → field tag v ++ after_field len s ≡ s
  field_same bs v l e =
      let t : v ≡ take len (value_of s) = sym (take_at v (drop len (value_of s)) len l) ∙ ap (take len) e in
      rw t (field_is bs)

-- ---- the check of a field at a place of the input, by the place and the length that were computed: what was answered, where the field ends, and its value

pub record Checked (tag len : ℕ) (s : List ℕ) (at place : ℕ) (x : Status) : Type 0 where
  pub is : x ≡ field_status tag len (drop at s)
  pub room : x ≡ Accepted → at + (header_size + len) ≤ length s
  pub value : drop (place + header_size) s ≡ value_of (drop at s)

pub checked : (tag len : ℕ) (s : List ℕ) (at : ℕ) {place l : ℕ} {x : Status} → place ≡ at → l ≡ len → status_number x ≡ status_number (field_status tag l (drop place s)) → Checked tag len s at place x
checked tag len s at {x = x} p q e =
    let w = same_status x (field_status tag len (drop at s)) (rw (p, q) at e) in
    record {
      is = w;
      room = λ g. omega (arith, length-drop at s, whole tag len (drop at s) (sym w ∙ g));
      value = rw p (sym (drop-drop header_size at s));
    }
