-- The laws of numbers of w bytes, once for every w: decode of encode, encode of decode, and a number in two parts. Assumes nothing.
use Rattle.std.specs.Prelude.{ℕ, zero, suc, ◌+◌, ◌*◌, ◌/◌, ◌%◌, ◌^◌, ◌≤◌, ◌<◌, length, take, drop, get_or, List, [], ◌∷◌, ◌++◌, ◌≡◌, refl}
use Rattle.std.proofs.Common.{lt-ltb, ltb-true, lit<, lit≤, length-append, length-take, length-drop, pow-add, length-take-le, drop-cons, drop-drop, take-add, sym, ap, div-lt_iff_lt-mul, mod-lt, div-add-mod', zero-add, pow-suc, mul_comm, zero-mul, mul_assoc, add-mul, add_assoc, arith}
use Rattle.std.proofs.Math.Arith.{digits_lt, digits_div, digits_mod, lt-one}
use Rattle.std.proofs.Math.Nat.{one-le-pow}
use Rattle.buffer.specs.AllLaws.{and_true, all_append, all_take, all_drop}
use Rattle.buffer.specs.Buffer.{onto, all}
use Rattle.buffer.specs.Laws.{part, put}
use Rattle.buffer.specs.WroteLaws.{onto_two}
use Rattle.bigendian.specs.Number.{be, be_bytes, byte, Bytes}

pub none : Bytes []
unfolding all
none = record { each = refl }

pub one : {x : ℕ} {s : List ℕ} → x < 256 → Bytes s → Bytes (x ∷ s)
unfolding all
one {x} h b = record { each = rw (lt-ltb x 256 h, b.each) }

parts : {x : ℕ} {s : List ℕ} → Bytes (x ∷ s) → (x < 256) × Bytes s
unfolding all
parts {x} {s} b = let w = and_true (byte x) (all byte s) b.each in (ltb-true x 256 w.0, record { each = w.1 })

pub length_bytes : (w n : ℕ) → length (be_bytes w n) ≡ w
unfolding be_bytes
length_bytes zero n = refl
length_bytes (suc w) n = ap suc (length_bytes w (n % 256 ^ w))

pos256 : (w : ℕ) → 0 < 256 ^ w
pos256 w = one-le-pow w 256 (lit≤ tt)

pub be_bytes_lem : (w n : ℕ) → n < 256 ^ w → be (be_bytes w n) ≡ n
unfolding be be_bytes
be_bytes_lem zero n h = sym (lt-one h)
be_bytes_lem (suc w) n h = rw (length_bytes w (n % 256 ^ w), be_bytes_lem w (n % 256 ^ w) (mod-lt n (pos256 w))) (div-add-mod' n (256 ^ w))

be_lt : (s : List ℕ) → Bytes s → be s < 256 ^ length s
unfolding be
be_lt [] b = lit< tt
be_lt (x ∷ s) b =
    let p = parts b in
    rw (pow-suc 256 (length s), mul_comm (256 ^ length s) 256) (digits_lt p.0 (be_lt s p.1))

pub bytes_be : (s : List ℕ) → Bytes s → be_bytes (length s) (be s) ≡ s
unfolding be be_bytes
bytes_be [] b = refl
bytes_be (x ∷ s) b =
    let r = (parts b).1 in
    rw (digits_div x (be_lt s r), digits_mod x (be_lt s r), bytes_be s r)

-- what a slice of bytes tells of its elements
pub bytes_from : (s : List ℕ) → ((i : ℕ) → get_or s i 0 < 256) → Bytes s
bytes_from [] h = none
bytes_from (x ∷ s) h = one (h 0) (bytes_from s (λ i. h (suc i)))

pub bytes_drop : (n : ℕ) {s : List ℕ} → Bytes s → Bytes (drop n s)
bytes_drop n {s} b = record { each = all_drop byte n s b.each }

-- w bytes of the input are the bytes of their number, which w bytes can hold
module _ (w : ℕ) (s : List ℕ) (b : Bytes s) (h : w ≤ length s) where
  first_bytes : Bytes (take w s)
  first_bytes = record { each = all_take byte w s b.each }

  pub bytes_of : be_bytes w (be (take w s)) ≡ take w s
  bytes_of = rw (length-take-le w s h) at (bytes_be (take w s) first_bytes)

  pub be_of : be (take w s) < 256 ^ w
  be_of = rw (length-take-le w s h) at (be_lt (take w s) first_bytes)

-- ---- a number in two parts, once for every two widths

be_append : (a b : List ℕ) → be (a ++ b) ≡ be a * 256 ^ length b + be b
unfolding be
be_append [] b = rw (zero-mul (256 ^ length b), zero-add (be b))
be_append (x ∷ a) b =
    rw (be_append a b, length-append a b, pow-add 256 (length a) (length b), ← (mul_assoc x (256 ^ length a) (256 ^ length b)), add-mul (x * 256 ^ length a) (be a) (256 ^ length b), add_assoc)

pub be_two : (v w : ℕ) (s : List ℕ) (at : ℕ) → at + (v + w) ≤ length s → be (take (v + w) (drop at s)) ≡ be (take v (drop at s)) * 256 ^ w + be (take w (drop (at + v) s))
be_two v w s at h =
    let l : length (take w (drop (at + v) s)) ≡ w = simp (length-take, length-drop) (omega arith) in
    rw (take-add v w (drop at s), drop-drop v at s, be_append (take v (drop at s)) (take w (drop (at + v) s)), l)

bytes_are : (w x : ℕ) → x < 256 ^ w → Bytes (be_bytes w x)
unfolding be_bytes
bytes_are zero x h = none
bytes_are (suc w) x h =
    let g : x < 256 * 256 ^ w = rw (pow-suc 256 w, mul_comm (256 ^ w) 256) at h in
    one ((div-lt_iff_lt-mul (pos256 w)).1 g) (bytes_are w (x % 256 ^ w) (mod-lt x (pos256 w)))

bytes_two : (v w x : ℕ) → x < 256 ^ (v + w) → be_bytes (v + w) x ≡ be_bytes v (x / 256 ^ w) ++ be_bytes w (x % 256 ^ w)
bytes_two v w x h =
    let a : ℕ = x / 256 ^ w in
    let b : ℕ = x % 256 ^ w in
    let ha : a < 256 ^ v = (div-lt_iff_lt-mul (pos256 w)).1 (rw (pow-add 256 v w) at h) in
    let hb : b < 256 ^ w = mod-lt x (pos256 w) in
    let n : length (be_bytes v a ++ be_bytes w b) ≡ v + w = simp (length-append, length_bytes) in
    let e : be (be_bytes v a ++ be_bytes w b) ≡ x = rw (be_append (be_bytes v a) (be_bytes w b), be_bytes_lem v a ha, be_bytes_lem w b hb, length_bytes w b) (div-add-mod' x (256 ^ w)) in
    let both : Bytes (be_bytes v a ++ be_bytes w b) = record { each = all_append byte _ _ (bytes_are v a ha).each (bytes_are w b hb).each } in
    rw (n, e) at (bytes_be (be_bytes v a ++ be_bytes w b) both)

-- the two parts written one after the other: the buffer xs₀, then xs with the first part over its front, and ys the rest with the second over its own
pub written_two : (v w x : ℕ) (xs₀ xs ys : List ℕ) → x < 256 ^ (v + w) → xs ≡ onto (be_bytes v (x / 256 ^ w)) xs₀
    → ys ≡ onto (be_bytes w (x % 256 ^ w)) (part xs v) → put xs v ys ≡ onto (be_bytes (v + w) x) xs₀
written_two v w x xs₀ xs ys h e f =
    rw (bytes_two v w x h) (onto_two (be_bytes v (x / 256 ^ w)) (be_bytes w (x % 256 ^ w)) xs₀ e (length_bytes v _) f)

-- ---- a single byte

pub be_one : (s : List ℕ) (at : ℕ) → at < length s → be (take 1 (drop at s)) ≡ get_or s at 0
unfolding be
be_one s at h = rw (drop-cons s at 0 h) (omega arith)
