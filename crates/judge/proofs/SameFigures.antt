-- What a trial leaves of a system depends on the system's figures alone, read as 0 past a list's end: zeros behind them change nothing.
-- Assumes nothing.
use Prim.Native.Nat.{ℕ, ◌+◌, ◌*◌}
use Rattle.std.specs.Prelude.{pos, get_or, ◌≡◌}
use Rattle.std.proofs.Math.Path.{ap}
use Rattle.limits.specs.Limits.{most_tanks}
use Rattle.rows.specs.Block.{Block}
use Rattle.integers.specs.Tables.{filled}
use Rattle.judge.specs.Judgement.{measurement_from, row_met, first_not, first_unmet_row, measurement, concluded, judgement}
use Rattle.judge.specs.System.{Row, Trial, System, residual, reach, row}

-- two lists of rows that hold the same figures at every place
pub record SameFigures (x y : Block) : Type 0 where
  pub A : (j : ℕ) → get_or x.A j (pos 0) ≡ get_or y.A j (pos 0)
  pub E : (j : ℕ) → get_or x.E j 0 ≡ get_or y.E j 0
  pub b : (i : ℕ) → get_or x.b i (pos 0) ≡ get_or y.b i (pos 0)
  pub f : (i : ℕ) → get_or x.f i 0 ≡ get_or y.f i 0

module _ (n : ℕ) (x y : Block) (h : SameFigures x y) where
  abbrev s : System
  s = record { n = n; rows = x }

  abbrev s' : System
  s' = record { n = n; rows = y }

  same_rows : row s ≡ row s'
  same_rows =
      λ k i. record {
        A = λ j. h.A (i * n + j) k;
        E = λ j. h.E (i * n + j) k;
        b = h.b i k;
        f = h.f i k;
      }

  pub same_measurement : (t : Trial) → measurement s t ≡ measurement s' t
  unfolding first_unmet_row
  same_measurement t =
      ap (λ (r : ℕ → Row).
      measurement_from
      (first_not (λ i. row_met (residual (r i) t) (reach (r i) t)) n)
      (filled most_tanks n (pos 0) (λ i. residual (r i) t))
      (filled most_tanks n 0 (λ i. reach (r i) t)))
      same_rows

  pub same_judgement : (t : Trial) → judgement s t ≡ judgement s' t
  unfolding judgement
  same_judgement t = ap (concluded n) (same_measurement t)
