-- Laws of finite sums: sums of sums and of multiples, and how large they are. Assumes nothing.
use Rattle.std.specs.Prelude.{ℕ, zero, suc, ◌+◌, ◌*◌, ◌≤◌, ◌<◌, ℤ, pos, nat_abs, ◌+ℤ◌, ◌*ℤ◌, [], ◌∷◌, ◌≡◌, refl}
use Rattle.std.proofs.Common.{ap, ap₂, ◌∙◌, le_trans, mul-le-mul_left, arith}
use Rattle.integers.specs.Diff.{vars, quote, ring}
use Rattle.integers.specs.Sign.{turned}
use Rattle.integers.specs.Size.{nat_abs-+ℤ, turned_times}
use Rattle.integers.specs.Sums.{sum, total}

-- ---- term by term

pub sum_cong : (n : ℕ) (f g : ℕ → ℤ) → ((j : ℕ) → j < n → f j ≡ g j) → sum n f ≡ sum n g
sum_cong zero f g h = refl
sum_cong (suc n) f g h = ap₂ (λ x y. x +ℤ y) (sum_cong n f g (λ j l. h j (omega arith))) (h n (omega arith))

pub total_cong : (n : ℕ) (f g : ℕ → ℕ) → ((j : ℕ) → j < n → f j ≡ g j) → total n f ≡ total n g
total_cong zero f g h = refl
total_cong (suc n) f g h = ap₂ (λ x y. x + y) (total_cong n f g (λ j l. h j (omega arith))) (h n (omega arith))

pub sum_add : (n : ℕ) (f g : ℕ → ℤ) → sum n (λ j. f j +ℤ g j) ≡ sum n f +ℤ sum n g
sum_add zero f g = refl
sum_add (suc n) f g =
    rw (sum_add n f g)
    (let w = vars (sum n f ∷ sum n g ∷ f n ∷ g n ∷ []) in ring (search quote depth 20) (omega arith))

pub sum_scale : (k : ℤ) (n : ℕ) (f : ℕ → ℤ) → sum n (λ j. k *ℤ f j) ≡ k *ℤ sum n f
sum_scale k zero f = let w = vars (k ∷ []) in ring (search quote depth 20) (omega arith)
sum_scale k (suc n) f =
    rw (sum_scale k n f) (let w = vars (k ∷ sum n f ∷ f n ∷ []) in ring (search quote depth 20) (omega arith))

-- a sum of naturals is one of whole numbers
pub sum_pos : (n : ℕ) (f : ℕ → ℕ) → sum n (λ j. pos (f j)) ≡ pos (total n f)
sum_pos zero f = refl
sum_pos (suc n) f = ap (λ x. x +ℤ pos (f n)) (sum_pos n f)

-- Σ (q A(j) + a(j)) Y(j) = q Σ A(j) Y(j) + Σ a(j) Y(j)
pub sum_weighted : (q : ℤ) (n : ℕ) (A a Y : ℕ → ℤ)
    → sum n (λ j. (q *ℤ A j +ℤ a j) *ℤ Y j) ≡ q *ℤ sum n (λ j. A j *ℤ Y j) +ℤ sum n (λ j. a j *ℤ Y j)
sum_weighted q n A a Y =
    sum_cong n _ _ (λ j l. let w = vars (q ∷ A j ∷ a j ∷ Y j ∷ []) in ring (search quote depth 20) (omega arith))
    ∙ sum_add n (λ j. q *ℤ (A j *ℤ Y j)) (λ j. a j *ℤ Y j)
    ∙ ap (λ x. x +ℤ sum n (λ j. a j *ℤ Y j)) (sum_scale q n (λ j. A j *ℤ Y j))

-- Σ a(j) Y(j) = R Σ E(j) |Y(j)|, where a(j) is E(j) R with the sign of Y(j) on it
pub sum_turned : (R : ℤ) (n : ℕ) (E : ℕ → ℕ) (Y : ℕ → ℤ)
    → sum n (λ j. turned (Y j) (pos (E j) *ℤ R) *ℤ Y j) ≡ R *ℤ pos (total n (λ j. E j * nat_abs (Y j)))
sum_turned R n E Y =
    sum_cong n _ _
    (λ j l. turned_times (Y j) (pos (E j) *ℤ R) ∙ let w = vars (R ∷ []) in ring (search quote depth 20) (omega arith))
    ∙ sum_scale R n (λ j. pos (E j * nat_abs (Y j)))
    ∙ ap (λ x. R *ℤ x) (sum_pos n (λ j. E j * nat_abs (Y j)))

-- no term
pub sum_empty : (m : ℕ) (f : ℕ → ℤ) → m ≡ 0 → sum m f ≡ pos 0
sum_empty m f e = rw e

-- nothing at each place
pub sum_none : (n : ℕ) (f : ℕ → ℤ) → ((j : ℕ) → j < n → f j ≡ pos 0) → sum n f ≡ pos 0
sum_none zero f h = refl
sum_none (suc n) f h = ap₂ (λ x y. x +ℤ y) (sum_none n f (λ j l. h j (omega arith))) (h n (omega arith))

-- ---- sizes

-- where v f(j) ≤ w g(j) at each place, the same holds of the sums
pub total_within : (v w n : ℕ) (f g : ℕ → ℕ) → ((j : ℕ) → j < n → v * f j ≤ w * g j) → v * total n f ≤ w * total n g
total_within v w zero f g h = omega arith
total_within v w (suc n) f g h =
    omega (arith, total_within v w n f g (λ j l. h j (omega arith)), h n (omega arith))

pub total_bound : (n b : ℕ) (f : ℕ → ℕ) → ((j : ℕ) → j < n → f j ≤ b) → total n f ≤ n * b
total_bound zero b f h = omega arith
total_bound (suc n) b f h = omega (arith, total_bound n b f (λ j l. h j (omega arith)), h n (omega arith))

-- the size of a sum is at most the sum of the sizes
pub sum_size : (n : ℕ) (f : ℕ → ℤ) → nat_abs (sum n f) ≤ total n (λ j. nat_abs (f j))
sum_size zero f = omega arith
sum_size (suc n) f = omega (arith, sum_size n f, nat_abs-+ℤ (sum n f) (f n))

-- where v |f(j)| ≤ w g(j) at each place, the same holds of the sums
pub sum_within : (v w n : ℕ) (f : ℕ → ℤ) (g : ℕ → ℕ) → ((j : ℕ) → j < n → v * nat_abs (f j) ≤ w * g j) → v * nat_abs (sum n f) ≤ w * total n g
sum_within v w n f g h = le_trans (mul-le-mul_left v (sum_size n f)) (total_within v w n (λ j. nat_abs (f j)) g h)

pub sum_bound : (n b : ℕ) (f : ℕ → ℤ) → ((j : ℕ) → j < n → nat_abs (f j) ≤ b) → nat_abs (sum n f) ≤ n * b
sum_bound n b f h = le_trans (sum_size n f) (total_bound n b (λ j. nat_abs (f j)) h)
