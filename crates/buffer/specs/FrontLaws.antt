-- What is read of a list's first w elements alone is read of each front that has so many. Assumes nothing.
use Rattle.std.specs.Prelude.{ℕ, zero, suc, ◌+◌, ◌-◌, ◌≤◌, ◌<◌, length, get_or, take, drop, List, [], ◌∷◌, ◌≡◌}
use Rattle.std.proofs.Common.{length-drop, length-take-le, take-take, get_or-take, arith}
use Rattle.std.proofs.Math.Seq.{take-nil}
use Rattle.std.proofs.Math.Nat.{sub-zero, zero-sub, suc-sub-suc}

-- t is the first m elements of s, which has more
pub record Front {X : Type 0} (m : ℕ) (t s : List X) : Type 0 where
  pub is : t ≡ take m s
  pub more : m < length s

-- a reading that looks at no more than the first w elements, and at whether there are so many
pub record ReadsFirst {X A : Type 0} (w : ℕ) (read : List X → A) : Type 0 where
  pub same : {m : ℕ} {t s : List X} → Front m t s → w ≤ m → read t ≡ read s

module _ {X : Type 0} where
  drop_take : (k m : ℕ) (l : List X) → drop k (take m l) ≡ take (m - k) (drop k l)
  drop_take zero m l = rw (sub-zero m)
  drop_take (suc k) zero l = rw (zero-sub (suc k))
  drop_take (suc k) (suc m) [] = rw (take-nil (suc m - suc k))
  drop_take (suc k) (suc m) (x ∷ l) = rw (suc-sub-suc m k) (drop_take k m l)

  module _ {m : ℕ} {t s : List X} (f : Front m t s) where
    pub front_length : length t ≡ m
    front_length = rw f.is (length-take-le m s (omega (arith, f.more)))

    pub front_drop : (k : ℕ) → k ≤ m → Front (m - k) (drop k t) (drop k s)
    front_drop k h = record { is = rw f.is (drop_take k m s); more = simp length-drop (omega (arith, f.more)) }

  pub reads_take : (k : ℕ) → ReadsFirst {X = X} k (take k)
  reads_take k = record { same = λ {m} {t} {s} f h. rw f.is (take-take k m s h) }

  pub reads_get_d : (i : ℕ) (d : X) → ReadsFirst (i + 1) (λ l. get_or l i d)
  reads_get_d i d = record { same = λ {m} {t} {s} f h. rw f.is (get_or-take m s i d (omega arith)) }

  -- the same behind a place
  pub reads_behind : {A : Type 0} (k : ℕ) {w : ℕ} {read : List X → A} → ReadsFirst w read → ReadsFirst (k + w) (λ l. read (drop k l))
  reads_behind k r = record { same = λ f h. r.same (front_drop f k (omega arith)) (omega arith) }
