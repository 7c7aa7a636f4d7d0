-- Definitions only.
-- Blocks of rows: their parts, their rows, and how many figures they have.
use Rattle.std.specs.Prelude.{ℕ, zero, suc, ◌*◌, ◌≤◌, ℤ, length, take, drop, List, [], ◌∷◌, ◌++◌, ◌≡◌}
use Rattle.limits.specs.Limits.{most_tanks}
use Rattle.buffer.specs.Buffer.{onto}

-- a block of rows: document 01's A, E, b and f, row after row. A row is a block of one
pub record Block : Type 0 where
  pub A : List ℤ
  pub E : List ℕ
  pub b : List ℤ
  pub f : List ℕ

abbrev pub block : List ℤ → List ℕ → List ℤ → List ℕ → Block
block A E b f = record { A = A; E = E; b = b; f = f }

-- the same done to each list: with k to the coefficients and tolerances, with m to the right sides and theirs
abbrev pub each : ((X : Type 0) → ℕ → List X → List X) → ℕ → ℕ → Block → Block
each g k m r = block (g ℤ k r.A) (g ℕ k r.E) (g ℤ m r.b) (g ℕ m r.f)

-- the first figures, and those behind them
abbrev pub front : ℕ → ℕ → Block → Block
front k m r = each (λ X. take) k m r

abbrev pub behind : ℕ → ℕ → Block → Block
behind k m r = each (λ X. drop) k m r

-- two blocks put together list by list: one behind the other, and one over the other's front
abbrev pub paired : ((X : Type 0) → List X → List X → List X) → Block → Block → Block
paired g r s =
    block
    (g ℤ r.A s.A)
    (g ℕ r.E s.E)
    (g ℤ r.b s.b)
    (g ℕ r.f s.f)

abbrev pub stacked : Block → Block → Block
stacked r s = paired (λ X. ◌++◌) r s

abbrev pub over : Block → Block → Block
over r s = paired (λ X. onto) r s

-- row i of a block, n tanks each
abbrev pub row_in : ℕ → Block → ℕ → Block
row_in n r i = front n 1 (behind (i * n) i r)

-- the first m rows
unfoldable pub split : ℕ → ℕ → Block → List Block
split n zero r = []
split n (suc m) r = front n 1 r ∷ split n m (behind n 1 r)

-- no row
abbrev pub no_row : Block
no_row = block [] [] [] []

-- rows one after another as one block
abbrev pub together : List Block → Block
together [] = no_row
together (r ∷ rs) = stacked r (together rs)

-- ---- how many figures

-- the four lists' lengths, each in the relation R to a number
pub record Lengths (R : ℕ → ℕ → Type 0) (r : Block) (kA kE kb kf : ℕ) : Type 0 where
  pub l_a : R (length r.A) kA
  pub l_e : R (length r.E) kE
  pub lb : R (length r.b) kb
  pub lf : R (length r.f) kf

-- k coefficients and tolerances, m right sides and their tolerances
abbrev pub Counts : ℕ → ℕ → Block → Type 0
Counts k m r = Lengths (λ x y. x ≡ y) r k k m m

-- room for so many
abbrev pub HasRoom : ℕ → ℕ → Block → Type 0
HasRoom k m r = Lengths (λ x y. y ≤ x) r k k m m

-- as many as another block
abbrev pub SameLengths : Block → Block → Type 0
SameLengths r s =
    Lengths (λ x y. x ≡ y) r (length s.A) (length s.E) (length s.b) (length s.f)

-- lists of one row's figures
pub record RowLists (n : ℕ) (r : Block) : Type 0 where
  pub small : n ≤ most_tanks
  pub counts : Counts n 1 r

-- lists that hold the figures of n rows
pub record RowsRoom (n : ℕ) (r : Block) : Type 0 where
  pub small : n ≤ most_tanks
  pub room : HasRoom (n * n) n r
