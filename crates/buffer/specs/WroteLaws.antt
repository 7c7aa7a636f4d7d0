-- Writes one after another, in a buffer with room for them, from a place on or over the front of a part that was lent; a single store is a write of one
-- byte. Assumes nothing.
use Rattle.std.specs.Prelude.{ℕ, ◌+◌, ◌≤◌, ◌<◌, length, set, List, [], ◌∷◌, ◌++◌, ◌≡◌, refl}
use Rattle.std.proofs.Common.{length-append, append-nil, sym, ap, ◌∙◌, add-zero, zero-add, add_assoc, arith}
use Rattle.buffer.specs.Buffer.{onto, Room, Wrote, concat}
use Rattle.buffer.specs.Laws.{part, put, put_is, length_onto_at, onto_at_none, onto_at_then, set_onto_at}

-- ---- a run of writes

pub room_front : {a out : List ℕ} {at : ℕ} (b : List ℕ) → Room (a ++ b) at out → Room a at out
room_front {a} b h = record { room = omega (arith, length-append a b, h.room) }

pub wrote_then : {a b out₀ out₁ out₂ : List ℕ} {at next last : ℕ} → at ≤ length out₀
    → Wrote a at out₀ next out₁ → Wrote b next out₁ last out₂ → Wrote (a ++ b) at out₀ last out₂
wrote_then {a} {b} {out₀} {out₁} {out₂} {at} h v w =
    record {
      place = w.place ∙ rw (v.place, length-append a b, add_assoc at (length a) (length b));
      bytes = w.bytes ∙ rw (v.place, v.bytes) (onto_at_then at a b out₀ h);
    }

pub wrote_none : {out : List ℕ} (at : ℕ) → Wrote [] at out at out
wrote_none {out} at = record { place = sym (add-zero at); bytes = sym (onto_at_none at out) }

-- a store of one byte
pub wrote_one : (at d : ℕ) (out : List ℕ) → at < length out → Wrote (d ∷ []) at out (at + 1) (set out at d)
wrote_one at d out h = record { place = refl; bytes = set_onto_at at d out h }

pub wrote_same : {a out₀ out : List ℕ} {at next : ℕ} → Room a at out₀ → Wrote a at out₀ next out → length out ≡ length out₀
wrote_same {a} {out₀} {out} {at} h w = ap length w.bytes ∙ length_onto_at at a out₀ h.room

pub room_next : {a b out₀ out : List ℕ} {at next : ℕ} → Room (a ++ b) at out₀ → Wrote a at out₀ next out → Room b next out
room_next {a} {b} {out₀} {out} {at} h w =
    let n : length out ≡ length out₀ = wrote_same (room_front b h) w in
    record { room = omega (arith, length-append a b, w.place, h.room) }

-- ---- a run of writes, over the list of its pieces

pub record Rooms (pieces : List (List ℕ)) (at : ℕ) (out : List ℕ) : Type 0 where
  pub whole : Room (concat pieces) at out

pub record Wrotes (pieces : List (List ℕ)) (at : ℕ) (before : List ℕ) (next : ℕ) (after : List ℕ) : Type 0 where
  pub whole : Wrote (concat pieces) at before next after

pub room_here : {piece : List ℕ} {pieces : List (List ℕ)} {at : ℕ} {out : List ℕ} → Rooms (piece ∷ pieces) at out → Room piece at out
room_here {piece} {pieces} h = room_front (concat pieces) h.whole

pub room_after : {piece : List ℕ} {pieces : List (List ℕ)} {at next : ℕ} {out₀ out : List ℕ} → Rooms (piece ∷ pieces) at out₀ → Wrote piece at out₀ next out → Rooms pieces next out
room_after h w = record { whole = room_next h.whole w }

pub wrote_last : {piece : List ℕ} {at next : ℕ} {out₀ out : List ℕ} → Wrote piece at out₀ next out → Wrotes (piece ∷ []) at out₀ next out
wrote_last {piece} w = record { whole = rw (append-nil piece) w }

pub wrote_first : {piece : List ℕ} {pieces : List (List ℕ)} {at next last : ℕ} {out₀ out₁ out₂ : List ℕ} → Rooms (piece ∷ pieces) at out₀
    → Wrote piece at out₀ next out₁ → Wrotes pieces next out₁ last out₂ → Wrotes (piece ∷ pieces) at out₀ last out₂
wrote_first {piece} {pieces} h v w =
    record { whole = wrote_then (omega (arith, (room_here h).room)) v w.whole }

-- ---- over the front of a buffer, and of the part that is left of it

pub wrote_front : (b out₀ : List ℕ) {out : List ℕ} {next : ℕ} → out ≡ onto b out₀ → length b ≡ next → Wrote b 0 out₀ next out
wrote_front b out₀ e l = record { place = sym l ∙ sym (zero-add (length b)); bytes = e }

-- b over the front of the part that begins at `at`
pub wrote_lent : (b out : List ℕ) {ys : List ℕ} {at next : ℕ} → ys ≡ onto b (part out at) → at + length b ≡ next → Wrote b at out next (put out at ys)
wrote_lent b out {at = at} e l = record { place = sym l; bytes = put_is out b at e }

-- and where what is done ends there
pub wrote_more : (b : List ℕ) (next : ℕ) {done out₀ out ys : List ℕ} {at : ℕ} → Wrote done 0 out₀ at out → ys ≡ onto b (part out at) → at + length b ≡ next
    → Wrote (done ++ b) 0 out₀ next (put out at ys)
wrote_more b next {out = out} w e l = wrote_then (omega arith) w (wrote_lent b out e l)

-- the two writes alone
pub onto_two : (a b out₀ : List ℕ) {out ys : List ℕ} {at : ℕ} → out ≡ onto a out₀ → length a ≡ at → ys ≡ onto b (part out at)
    → put out at ys ≡ onto (a ++ b) out₀
onto_two a b out₀ e l f = (wrote_more b _ (wrote_front a out₀ e l) f refl).bytes
