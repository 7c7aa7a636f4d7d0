-- The laws of figures as bytes and of runs of them, once for every kind: read back what was written, write back what was read.
-- Assumes nothing.
use Prim.Native.Nat.{ℕ, suc, ◌*◌, ◌^◌, ◌≤◌, ◌<◌}
use Rattle.std.proofs.Common.{leb-true, length-drop, take-append-drop, take_at, drop_at, ap, ◌∙◌, to_z-of_z, mul-suc, arith}
use Rattle.std.specs.Prelude.{ℤ, take, drop, Bool, ◌≡◌, refl}
use Rattle.std.proofs.Math.ListN.{length}
use Rattle.std.proofs.Math.Bool.{true}
use mathlib.Core.List.{List, ◌∷◌, ◌++◌}
use Rattle.std.proofs.Math.Facts.{of_z-to_z, Fits-of_z}
use Rattle.std.specs.Int.{Width}
use mir.Val.{hbits, SFits}
use Rattle.std.proofs.Math.Nat.{mul_comm}
use store.Enc.{two_256}
use Rattle.buffer.specs.AllLaws.{and_true}
use Rattle.buffer.specs.Buffer.{all}
use Rattle.buffer.specs.FrontLaws.{ReadsFirst, reads_take}
use Rattle.integers.specs.Size.{sfits_leb}
use Rattle.bigendian.specs.Number.{be, size, Bytes}
use Rattle.bigendian.specs.NumberLaws.{bytes_drop, bytes_of, be_of, be_bytes_lem, length_bytes}
use Rattle.figures.specs.Figures.{Kind, unsigned_kind, signed_kind, up_to_limit, within_limit, figure_at, figures, after, figure_bytes, spread, RunRead}
use Rattle.figures.proofs.ItemLaws.{length_joined, Back, items_back, items_same, reads_items}

-- ---- a kind holds the figures that pass a test

pub record Lawful {X : Type 0} (k : Kind X) (f : X → Bool) : Type 0 where
  pub back : (x : X) → f x ≡ true → k.figure (k.number x) ≡ x
  pub fits : (x : X) → f x ≡ true → k.number x < 256 ^ k.width
  pub same : (b : ℕ) → b < 256 ^ k.width → k.number (k.figure b) ≡ b

pub unsigned_lawful : (w : Width) (limit : ℕ) → limit < 256 ^ size w → Lawful (unsigned_kind w) (up_to_limit limit)
unsigned_lawful w limit h =
    record {
      back = λ x e. refl;
      fits = λ x e. let k : x ≤ limit = leb-true x limit e in omega arith;
      same = λ b g. refl;
    }

pub signed_lawful : (w : Width) (limit : ℕ) → limit < 2 ^ hbits w → Lawful (signed_kind w) (within_limit limit)
signed_lawful w limit h =
    record {
      back = λ z e. to_z-of_z (sfits_leb limit h z e);
      fits = λ z e. rw (← (two_256 w)) (Fits-of_z (sfits_leb {w = w} limit h z e)).fits;
      same = λ b k. of_z-to_z {w = w} (record { fits = rw (two_256 w) k });
    }

-- ---- figures as bytes, and runs of them

module _ {X : Type 0} (k : Kind X) where
  pub length_figure : (x : X) → length (figure_bytes k x) ≡ k.width
  length_figure x = length_bytes k.width (k.number x)

  -- a figure's bytes are read back, whatever follows them
  pub figure_back : (x : X) → k.number x < 256 ^ k.width → k.figure (k.number x) ≡ x → (r : List ℕ) → figure_at k (figure_bytes k x ++ r) ≡ x
  figure_back x h e r =
      ap (λ v. k.figure (be v)) (take_at (figure_bytes k x) r k.width (length_figure x)) ∙ ap k.figure (be_bytes_lem k.width (k.number x) h) ∙ e

  pub length_spread : (xs : List X) → length (spread k xs) ≡ k.width * length xs
  unfolding spread
  length_spread xs =
      length_joined k.width (figure_at k) (figure_bytes k) (λ xs. Unit {0}) (λ x xs h. (length_figure x, tt)) xs tt
      ∙ mul_comm (length xs) k.width

  pub after_spread : (n : ℕ) (xs : List X) (r : List ℕ) → length xs ≡ n → after k n (spread k xs ++ r) ≡ r
  after_spread n xs r e = drop_at (spread k xs) r (k.width * n) (length_spread xs ∙ rw e)

  module _ (f : X → Bool) (l : Lawful k f) where
    -- what was written is read back
    pub figures_spread : (n : ℕ) (xs : List X) (r : List ℕ) → length xs ≡ n → all f xs ≡ true → figures k n (spread k xs ++ r) ≡ xs
    unfolding spread all
    figures_spread n xs r e g = rw (← e) (items_back k.width (figure_at k) (figure_bytes k) (λ xs. all f xs ≡ true) next xs r g)
      where
        next : (x : X) (xs : List X) → all f (x ∷ xs) ≡ true → Back k.width (figure_at k) (figure_bytes k) x × (all f xs ≡ true)
        next x xs h =
            let w = and_true (f x) (all f xs) h in
            (record { size = length_figure x; read = figure_back x (l.fits x w.0) (l.back x w.0) }, w.1)

    -- what was read is written back
    pub spread_figures : (n : ℕ) (v : List ℕ) → Bytes v → k.width * n ≤ length v → spread k (figures k n v) ++ after k n v ≡ v
    unfolding spread
    spread_figures n v bv h = rw (mul_comm k.width n) (items_same k.width (figure_at k) (figure_bytes k) Ok next n v (bv, h))
      where
        Ok : ℕ → List ℕ → Type 0
        Ok n v = Bytes v × (k.width * n ≤ length v)

        next : (n : ℕ) (v : List ℕ) → Ok (suc n) v → (figure_bytes k (figure_at k v) ++ drop k.width v ≡ v) × Ok n (drop k.width v)
        next n v h =
            let m = mul-suc k.width n in
            let a : k.width ≤ length v = omega (arith, h.1) in (
              rw (l.same (be (take k.width v)) (be_of k.width v h.0 a), bytes_of k.width v h.0 a) (take-append-drop k.width v),
              (bytes_drop k.width h.0, simp length-drop (omega (arith, h.1))),
            )

-- a signed figure that fits its width
pub signed_back : (w : Width) (z : ℤ) → SFits w z → (r : List ℕ) → figure_at (signed_kind w) (figure_bytes (signed_kind w) z ++ r) ≡ z
signed_back w z f r = figure_back (signed_kind w) z (rw (← (two_256 w)) (Fits-of_z {w = w} f).fits) (to_z-of_z f) r

-- a run of figures that was read at a place, where the bytes from the place on are v
pub run_at : {X : Type 0} (k : Kind X) (f : X → Bool) {u v : List ℕ} {m n : ℕ} {exit : List X} {r : Bool} → u ≡ v → m ≡ n
    → RunRead f (figures k m u) r exit → RunRead f (figures k n v) r exit
run_at k f e g h = rw (e, g) at h

-- a run of figures looks no further than its own bytes
pub reads_figures : {X : Type 0} (k : Kind X) (n : ℕ) → ReadsFirst (k.width * n) (figures k n)
reads_figures k n = rw (mul_comm k.width n) (reads_items k.width (figure_at k) one n)
  where
    one : ReadsFirst k.width (figure_at k)
    one = record { same = λ f h. ap (λ v. k.figure (be v)) ((reads_take k.width).same f h) }
