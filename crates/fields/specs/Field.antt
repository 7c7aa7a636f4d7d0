-- Definitions only.
-- A field of a file, and what refuses a field that is due at the front of the bytes that are left.
use Rattle.std.specs.Prelude.{ℕ, ◌+◌, ◌-◌, leb, eqb, length, get_or, take, drop, Bool, List, [], ◌∷◌, ◌++◌}
use Rattle.std.specs.Int.{w16}
use Rattle.outcome.specs.Outcome.{check, first, Status}
use Rattle.outcome.specs.declared.Refusal.TheVariants.{FieldMissing, WrongTag, WrongLength, ValueCutShort}
use Rattle.bigendian.specs.Number.{be, be_bytes, size}

-- document 01: "one byte tag, two bytes length, then the value"
abbrev pub length_at : ℕ
length_at = 1

abbrev pub length_size : ℕ
length_size = size w16

abbrev pub header : ℕ → ℕ → List ℕ
header tag len = tag ∷ be_bytes length_size len

abbrev pub header_size : ℕ
header_size = length_at + length_size

unfoldable pub field : ℕ → List ℕ → List ℕ
field tag value = header tag (length value) ++ value

-- document 01, of the case and of the record: "FF, length 0"
abbrev pub end_tag : ℕ
end_tag = 0xFF

abbrev pub end_length : ℕ
end_length = 0

abbrev pub end_size : ℕ
end_size = header_size + end_length

abbrev pub end_field : List ℕ
end_field = field end_tag []

-- of the field at the front of s: the tag, the length, the value with what follows it, and what follows a value of a stated length
abbrev pub tag_of : List ℕ → ℕ
tag_of s = get_or s 0 0

abbrev pub length_of : List ℕ → ℕ
length_of s = be (take length_size (drop length_at s))

abbrev pub value_of : List ℕ → List ℕ
value_of s = drop header_size s

abbrev pub after_field : ℕ → List ℕ → List ℕ
after_field len s = drop (header_size + len) s

-- document 01, refusals 2 to 5 in turn, by their tests: "Fewer than three bytes are left where a field must start", "The tag is not the one due at this
-- place", "The length is not the one due for this tag and n", "The value is cut short by the end of the input"
abbrev pub in_turn : Bool → Bool → Bool → Bool → Status
in_turn started tagged sized whole =
    first (check started FieldMissing) (first (check tagged WrongTag) (first (check sized WrongLength) (check whole ValueCutShort)))

unfoldable pub field_status : ℕ → ℕ → List ℕ → Status
field_status tag len s =
    in_turn (leb header_size (length s)) (eqb (tag_of s) tag) (eqb (length_of s) len) (leb len (length s - header_size))
