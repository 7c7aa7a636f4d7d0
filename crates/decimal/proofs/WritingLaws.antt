-- Writes of a text writer, one after another. Assumes nothing.
use Rattle.std.specs.Prelude.{ℕ, ◌+◌, ◌*◌, ◌≤◌, ◌<◌, length, List, [], ◌∷◌, ◌++◌, ◌≡◌, refl}
use Rattle.std.proofs.Common.{◌∙◌, append-nil, arith}
use Rattle.buffer.specs.Buffer.{Room, Wrote, concat}
use Rattle.buffer.specs.RunLaws.{joined_append, Running, run_begun, run_next, run_turn}
use Rattle.buffer.specs.WroteLaws.{Rooms, room_front, room_next, wrote_none, wrote_same, wrote_then, room_here, room_after}
use Rattle.decimal.specs.Writing.{HasRoom, Writes}
use Rattle.decimal.specs.declared.TextWriter.{TextWriter}

pub has_room_front : {a : List ℕ} {w : TextWriter} (b : List ℕ) → HasRoom (a ++ b) w → HasRoom a w
has_room_front b h = record { room = room_front b h.room }

module _ {a b : List ℕ} {w₀ w₁ : TextWriter} where
  pub has_room_next : HasRoom (a ++ b) w₀ → Writes a w₀ w₁ → HasRoom b w₁
  has_room_next h v = record { room = room_next h.room v.wrote }

  pub writes_append : {w₂ : TextWriter} → w₀.at ≤ length w₀.out.now → Writes a w₀ w₁ → Writes b w₁ w₂ → Writes (a ++ b) w₀ w₂
  writes_append h v w = record { same = w.same ∙ v.same; wrote = wrote_then h v.wrote w.wrote }

  pub writes_then : {w₂ : TextWriter} → HasRoom (a ++ b) w₀ → Writes a w₀ w₁ → Writes b w₁ w₂ → Writes (a ++ b) w₀ w₂
  writes_then h v w = writes_append (omega (arith, h.room.room)) v w

-- room for so many bytes more is left
pub room_left : {b : List ℕ} {w₀ w₁ : TextWriter} (more : ℕ) → Writes b w₀ w₁ → w₀.at + (length b + more) ≤ length w₀.out.now → w₁.at + more ≤ length w₁.out.now
room_left {b} {w₀} more v h =
    let room : Room b w₀.at w₀.out.now = record { room = omega arith } in
    omega (arith, v.wrote.place, wrote_same room v.wrote)

-- the lent buffer, when it is back, holds what was written
pub wrote_back : {b out : List ℕ} {w₀ w₁ : TextWriter} → Writes b w₀ w₁ → out ≡ w₁.out.now → Wrote b w₀.at w₀.out.now w₁.at out
wrote_back v e = rw e v.wrote

-- ---- a text's pieces: those in `done` are written since `first`, and those in `left` have room

pub record Pieces (done left : List (List ℕ)) (first now : TextWriter) : Type 0 where
  pub inside : first.at ≤ length first.out.now
  pub room : Rooms left now.at now.out.now
  pub wrote : Writes (concat done) first now

pub pieces_begun : {pieces : List (List ℕ)} {w : TextWriter} → HasRoom (concat pieces) w → Pieces [] pieces w w
pieces_begun {w} h =
    record { inside = omega (arith, h.room.room); room = record { whole = h.room }; wrote = record { same = refl; wrote = wrote_none w.at } }

module _ {done left : List (List ℕ)} {piece : List ℕ} {first now : TextWriter} (r : Pieces done (piece ∷ left) first now) where
  pub piece_room : HasRoom piece now
  piece_room = record { room = room_here r.room }

  pub piece_written : {after : TextWriter} → Writes piece now after → Pieces (done ++ piece ∷ []) left first after
  piece_written v =
      record {
        inside = r.inside;
        room = room_after r.room v.wrote;
        wrote = rw (joined_append (λ l. l) done (piece ∷ []), append-nil piece)
            (writes_append r.inside r.wrote v);
      }

-- ---- the loop that writes n pieces of at most `limit` bytes each: i are written since `first`

pub record Run (limit : ℕ) (piece : ℕ → List ℕ) (n : ℕ) (first now : TextWriter) (i : ℕ) : Type 0 where
  pub same : now.out.ghost_name ≡ first.out.ghost_name
  pub running : Running limit piece n first.at first.out.now now.out.now i now.at

pub run_of_none : {limit : ℕ} {piece : ℕ → List ℕ} {n : ℕ} {w : TextWriter} → w.at + n * limit ≤ length w.out.now → Run limit piece n w w 0
run_of_none h = record { same = refl; running = run_begun h }

module _ {limit : ℕ} {piece : ℕ → List ℕ} {n : ℕ} {first now : TextWriter} {i : ℕ} (r : Run limit piece n first now i) where
  pub run_room : i < n → length (piece i) ≤ limit → HasRoom (piece i) now
  run_room h s = record { room = record { room = omega (arith, run_next r.running h) } }

  pub run_one_more : {after : TextWriter} → i < n → length (piece i) ≤ limit → Writes (piece i) now after → Run limit piece n first after (i + 1)
  run_one_more h s v = record { same = v.same ∙ r.same; running = run_turn r.running h s v.wrote }
