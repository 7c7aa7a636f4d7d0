-- Definitions only.
-- Kinds of figures, and runs of figures of one kind as bytes.
use Rattle.std.specs.Prelude.{ℕ, zero, suc, ◌*◌, leb, ℤ, nat_abs, length, take, drop, Bool, List, [], ◌∷◌, ◌≡◌}
use Rattle.std.specs.Int.{Width, w16, w32, w64}
use Rattle.std.proofs.Common.{to_z, of_z}
use Rattle.buffer.specs.Buffer.{joined, all}
use Rattle.bigendian.specs.Number.{be, be_bytes, size}

-- how many bytes a figure has, the figure of a number so written, and the number of a figure
pub record Kind (X : Type 0) : Type 0 where
  pub width : ℕ
  pub figure : ℕ → X
  pub number : X → ℕ

-- of the three that a type of figures states
abbrev pub kind_of : {X : Type 0} → ℕ → (ℕ → X) → (X → ℕ) → Kind X
kind_of width figure number = record { width = width; figure = figure; number = number }

abbrev pub unsigned_kind : Width → Kind ℕ
unsigned_kind w = record { width = size w; figure = λ x. x; number = λ x. x }

-- document 01: "signed ones in two's complement"
abbrev pub signed_kind : Width → Kind ℤ
signed_kind w = record { width = size w; figure = to_z w; number = of_z w }

-- named as the code's types
abbrev pub u16_kind : Kind ℕ
u16_kind = unsigned_kind w16

abbrev pub u32_kind : Kind ℕ
u32_kind = unsigned_kind w32

abbrev pub u64_kind : Kind ℕ
u64_kind = unsigned_kind w64

abbrev pub i16_kind : Kind ℤ
i16_kind = signed_kind w16

abbrev pub i32_kind : Kind ℤ
i32_kind = signed_kind w32

abbrev pub i64_kind : Kind ℤ
i64_kind = signed_kind w64

-- limits: from 0 to the limit, and from minus the limit to the limit
abbrev pub up_to_limit : ℕ → ℕ → Bool
up_to_limit limit x = leb x limit

abbrev pub within_limit : ℕ → ℤ → Bool
within_limit limit z = up_to_limit limit (nat_abs z)

-- of every figure of a list
abbrev pub all_up_to_limit : ℕ → List ℕ → Bool
all_up_to_limit limit l = all (up_to_limit limit) l

abbrev pub all_within_limit : ℕ → List ℤ → Bool
all_within_limit limit l = all (within_limit limit) l

-- n items of a width, one after another from the front of v
unfoldable pub items : {A : Type 0} → ℕ → (List ℕ → A) → ℕ → List ℕ → List A
items w item zero v = []
items w item (suc n) v = item v ∷ items w item n (drop w v)

module _ {X : Type 0} where
  -- the figure, and the first n figures, at the front of v
  abbrev pub figure_at : Kind X → List ℕ → X
  figure_at k v = k.figure (be (take k.width v))

  abbrev pub figures : Kind X → ℕ → List ℕ → List X
  figures k n v = items k.width (figure_at k) n v

  -- what follows them
  abbrev pub after : Kind X → ℕ → List ℕ → List ℕ
  after k n v = drop (k.width * n) v

  -- the bytes of a figure, and of a run of figures
  abbrev pub figure_bytes : Kind X → X → List ℕ
  figure_bytes k x = be_bytes k.width (k.number x)

  unfoldable pub spread : Kind X → List X → List ℕ
  spread k xs = joined (figure_bytes k) xs

-- what is answered of a run of figures: whether all pass the test, and the figures in out, whether they do or not
pub record RunRead {X : Type 0} (f : X → Bool) (l : List X) (r : Bool) (out : List X) : Type 0 where
  pub status : r ≡ all f l
  pub made : out ≡ l

-- the same of reading as many figures as out has places, from the front of v
abbrev pub Read : {X : Type 0} → Kind X → (X → Bool) → List ℕ → List X → Bool → List X → Type 0
Read k f v entry r exit = RunRead f (figures k (length entry) v) r exit
