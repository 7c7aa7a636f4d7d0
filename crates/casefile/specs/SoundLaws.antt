-- Lists and blocks of rows that are counted and within their limits: they stay so in a part and in the whole, and a block is its rows put together.
-- Assumes nothing.
use Prim.Native.Nat.{ℕ, zero, suc, ◌+◌, ◌*◌}
use Rattle.std.specs.Prelude.{length, take, drop, Bool, true, List, [], ◌∷◌, ◌++◌, ◌≡◌}
use Rattle.std.proofs.Common.{length-append, length-take, length-drop, take-append-drop, take_all, take_at, zero-mul, le_of_eq, arith}
use Rattle.std.proofs.Math.Seq.{drop_at}
use Rattle.std.proofs.Math.Path.{refl}
use Rattle.limits.specs.Limits.{coefficient_limit, tolerance_limit, right_side_limit, right_tolerance_limit}
use Rattle.buffer.specs.AllLaws.{and_left, and_right, all_append, all_take, all_drop}
use Rattle.buffer.specs.Buffer.{all}
use Rattle.rows.specs.Block.{Block, Counts, front, behind, split, together}
use Rattle.rows.specs.BlockLaws.{figures_more, rows_one_more}
use Rattle.figures.specs.Figures.{up_to_limit, within_limit}
use Rattle.casefile.specs.Case.{rows_fine}

-- ---- a list of k figures that pass a test

pub record Sound {X : Type 0} (p : X → Bool) (k : ℕ) (l : List X) : Type 0 where
  pub count : length l ≡ k
  pub fine : all p l ≡ true

module _ {X : Type 0} {p : X → Bool} where
  front_sound : (k j : ℕ) {n : ℕ} {l : List X} → n ≡ k + j → Sound p n l → Sound p k (take k l)
  front_sound k j e s = record { count = simp length-take (omega arith); fine = search all_take }

  behind_sound : (k j : ℕ) {n : ℕ} {l : List X} → n ≡ k + j → Sound p n l → Sound p j (drop k l)
  behind_sound k j e s = record { count = simp length-drop (omega arith); fine = search all_drop }

  stacked_sound : {k j n : ℕ} {l m : List X} → n ≡ k + j → Sound p k l → Sound p j m → Sound p n (l ++ m)
  stacked_sound e s t = record { count = simp length-append (omega arith); fine = search all_append }

  none_sound : {k : ℕ} → k ≡ 0 → Sound p k []
  unfolding all
  none_sound e = record { count = omega arith; fine = refl }

-- ---- a block of k coefficients and tolerances, and of m right sides and theirs

pub record SoundBlock (k m : ℕ) (r : Block) : Type 0 where
  pub A : Sound (within_limit coefficient_limit) k r.A
  pub E : Sound (up_to_limit tolerance_limit) k r.E
  pub b : Sound (within_limit right_side_limit) m r.b
  pub f : Sound (up_to_limit right_tolerance_limit) m r.f

pub counts : {k m : ℕ} {r : Block} → SoundBlock k m r → Counts k m r
counts s = search

pub sound_fine : {k m : ℕ} {r : Block} → SoundBlock k m r → rows_fine r ≡ true
unfolding rows_fine
sound_fine s = cc

pub sound : {k m : ℕ} {r : Block} → Counts k m r → rows_fine r ≡ true → SoundBlock k m r
unfolding rows_fine
sound c h = search (and_left, and_right)

-- ---- its rows, n tanks each

pub data Rows (n : ℕ) : List Block → Type 0 where
  none : Rows n []
  one : {r : Block} {rs : List Block} → SoundBlock n 1 r → Rows n rs → Rows n (r ∷ rs)

module _ (n : ℕ) where
  module _ (m : ℕ) (r : Block) (s : SoundBlock (suc m * n) (suc m) r) where
    sound_front : SoundBlock n 1 (front n 1 r)
    sound_front = search (front_sound, figures_more n m, rows_one_more m)

    sound_behind : SoundBlock (m * n) m (behind n 1 r)
    sound_behind = search (behind_sound, figures_more n m, rows_one_more m)

  pub split_sound : {m : ℕ} {r : Block} → SoundBlock (m * n) m r → Rows n (split n m r)
  unfolding split
  split_sound {m = zero} s = none
  split_sound {m = suc m} {r} s = one (sound_front m r s) (split_sound {m = m} (sound_behind m r s))

  -- the rows of a block are the block, and the rows that a block was made of are its rows
  pub together_split : {m : ℕ} {r : Block} → SoundBlock (m * n) m r → together (split n m r) ≡ r
  unfolding split
  together_split {m = zero} {r} s = let e : front (zero * n) zero r ≡ r = search (take_all, le_of_eq) in rw (zero-mul n) at e
  together_split {m = suc m} {r} s = simp (together_split {m = m} (sound_behind m r s), take-append-drop)

  pub split_together : {rs : List Block} → Rows n rs → split n (length rs) (together rs) ≡ rs
  unfolding split
  split_together none = refl
  split_together (one s g) = search (take_at, drop_at, split_together g)

  pub together_sound : {rs : List Block} → Rows n rs → SoundBlock (length rs * n) (length rs) (together rs)
  together_sound none = search (none_sound, zero-mul n)
  together_sound (one {rs = rs} s g) = search (stacked_sound, figures_more n (length rs), rows_one_more (length rs), together_sound g)

pub rows_more : {n : ℕ} {rs : List Block} {r : Block} → Rows n rs → SoundBlock n 1 r → Rows n (rs ++ (r ∷ []))
rows_more none s = one s none
rows_more (one q g) s = one q (rows_more g s)
