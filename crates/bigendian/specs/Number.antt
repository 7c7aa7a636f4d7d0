-- Definitions only.
-- Big-endian numbers of a stated count of bytes; the highest number and the bytes of a width.
use Rattle.std.specs.Prelude.{ℕ, zero, suc, ◌+◌, ◌*◌, ◌-◌, ◌/◌, ◌%◌, ◌^◌, ltb, length, Bool, true, List, [], ◌∷◌, ◌≡◌}
use Rattle.std.specs.Int.{Width}
use mir.Val.{bits, bytes as bytes_of}
use Rattle.buffer.specs.Buffer.{all}

-- document 01: "Numbers are big-endian". The number that the bytes s are, the highest first
unfoldable pub be : List ℕ → ℕ
be [] = 0
be (x ∷ s) = x * 256 ^ length s + be s

-- the w bytes of x
unfoldable pub be_bytes : ℕ → ℕ → List ℕ
be_bytes zero x = []
be_bytes (suc w) x = x / 256 ^ w ∷ be_bytes w (x % 256 ^ w)

-- a byte, and a list whose elements are bytes
abbrev pub byte : ℕ → Bool
byte x = ltb x 256

pub record Bytes (s : List ℕ) : Type 0 where
  pub each : all byte s ≡ true

-- the highest number of a width
abbrev pub highest : Width → ℕ
highest w = 2 ^ bits w - 1

-- how many bytes a number of a width has
abbrev pub size : Width → ℕ
size w = bytes_of w
