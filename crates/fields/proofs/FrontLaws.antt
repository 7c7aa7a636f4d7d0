-- A field's status and what is read of it look no further than the field's end, the end field's status one byte further. Assumes nothing.
use Rattle.std.specs.Prelude.{ℕ, ◌+◌, ◌-◌, ◌≤◌, ◌<◌, leb, eqb, length, ◌≡◌}
use Rattle.std.proofs.Common.{le-leb, ne_eqb, sym, ◌∙◌, arith}
use Rattle.buffer.specs.FrontLaws.{ReadsFirst, front_length, reads_take, reads_get_d, reads_behind}
use Rattle.fields.specs.Due.{Due, due_at, due_status, end_status}
use Rattle.fields.specs.Field.{length_at, length_size, header_size, field_status, end_tag, end_length, end_size}

-- a test that both pass
both_pass : (a x y : ℕ) → a ≤ x → a ≤ y → leb a x ≡ leb a y
both_pass a x y h k = le-leb a x h ∙ sym (le-leb a y k)

pub reads_field : (tag len : ℕ) → ReadsFirst (header_size + len) (field_status tag len)
unfolding field_status
reads_field tag len = record {
  same = λ {m} {t} {s} f h.
      let l : (length t ≡ m) × (m < length s) = (front_length f, f.more) in
      rw (
        both_pass header_size (length t) (length s) (omega (arith, l)) (omega (arith, l)),
        (reads_get_d {X = ℕ} 0 0).same f (omega arith),
        (reads_behind length_at (reads_take length_size)).same f (omega arith),
        both_pass len (length t - header_size) (length s - header_size) (omega (arith, l)) (omega (arith, l)),
      );
}

module _ {A : Type 0} (d : Due A) (value : ReadsFirst d.len d.read) where
  pub reads_due : ReadsFirst (header_size + d.len) (due_at d)
  reads_due = reads_behind header_size value

  pub reads_due_status : ReadsFirst (header_size + d.len) (due_status d)
  reads_due_status = record { same = λ f h. rw ((reads_field d.tag d.len).same f h, reads_due.same f h) }

pub reads_end : ReadsFirst (end_size + 1) end_status
unfolding end_status
reads_end = record {
  same = λ {m} {t} {s} f h.
      let e : eqb (length t) end_size ≡ eqb (length s) end_size =
      ne_eqb (length t) end_size (λ q. omega (arith, front_length f)) ∙ sym (ne_eqb (length s) end_size (λ q. omega (arith, f.more))) in
      rw ((reads_field end_tag end_length).same f (omega arith), e);
}
