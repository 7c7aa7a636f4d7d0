-- Definitions only.
-- What a text writer asks and promises.
use Rattle.std.specs.Prelude.{ℕ, List, ◌≡◌}
use Rattle.buffer.specs.Buffer.{Room, Wrote}
use Rattle.decimal.specs.declared.TextWriter.{TextWriter}

-- bytes b have room in its buffer from its place on
pub record HasRoom (b : List ℕ) (w : TextWriter) : Type 0 where
  pub room : Room b w.at w.out.now

-- it wrote b from its place on and changed nothing else, its place is behind b, and its buffer is the one that it was lent
pub record Writes (b : List ℕ) (before after : TextWriter) : Type 0 where
  pub same : after.out.ghost_name ≡ before.out.ghost_name
  pub wrote : Wrote b before.at before.out.now after.at after.out.now
