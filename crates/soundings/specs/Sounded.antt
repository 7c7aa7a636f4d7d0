-- Definitions only.
-- What soundings say, over the bytes that the call left: each tank's depth in the reference tank, and what refusal 10 means.
use Rattle.std.specs.Prelude.{ℕ, ◌+◌, ◌*◌, ◌<◌, ◌≤◌, ℤ, pos, ◌*ℤ◌, get_or, drop, ◌≤ℤ◌, ◌<ℤ◌, List, ◌⊎◌, ◌↔◌, ◌≡◌}
use Rattle.figures.specs.Figures.{u16_kind, figure_at}
use Rattle.casefile.specs.Case.{Case}
use Rattle.casefile.specs.Decode.{accepted, decode}
use Rattle.solver.specs.Claims.{KeptOfRounds}
use Rattle.ballast.specs.Call.{scale_of, system_of, case_solution}
use Rattle.sounding_table.specs.Table.{reference_entry}
use Rattle.outcome.specs.Outcome.{Accepted}

-- the depth that bytes hold of tank j, from 0
abbrev pub sounded_depth : List ℕ → ℕ → ℕ
sounded_depth bytes j = figure_at u16_kind (drop (u16_kind.width * j) bytes)

-- h is the depth of the answer Y over D in the reference tank: the entry at h is not above Y × 1,000 / D kilograms, and the next one, where there is a
-- next one, is. Depth 0 and depth 400 are told by the entries for 1 and for 400 centimetres
pub record SoundedAt (D : ℕ) (Y : ℤ) (h : ℕ) : Type 0 where
  pub deepest : h ≤ 400
  pub not_above_lem : pos (reference_entry h * D) ≤ℤ (Y *ℤ pos 1000)
  pub next_above : h < 400 → (Y *ℤ pos 1000) <ℤ pos (reference_entry (h + 1) * D)
  pub depth_zero : h ≡ 0 ↔ (Y *ℤ pos 1000) <ℤ pos (901 * D)
  pub depth_last : h ≡ 400 ↔ Y *ℤ pos 1000 ≡ pos (520000 * D)

-- "when an answer is negative or above the entry for 400": Y is negative, or Y × 1,000 > 520,000 × D
abbrev pub Outside : ℕ → ℤ → Type 0
Outside D Y = (Y <ℤ pos 0) ⊎ (pos (520000 * D) <ℤ (Y *ℤ pos 1000))

-- the answer of tank j of a case, from 0: the one that its record would hold
abbrev pub case_answer : Case → ℕ → ℤ
case_answer c j = get_or (case_solution c).trial j (pos 0)

-- a case of which some answer is outside
pub record OutsideCase (c : Case) : Type 0 where
  pub tank : ℕ
  pub is_tank : tank < c.n
  pub outside : Outside (scale_of c.exponent) (case_answer c tank)

-- what a count m says of the bytes that a buffer then holds, and which trial the sounded answer is where the case brings none
pub record Sounded (input buffer : List ℕ) (m : ℕ) : Type 0 where
  pub case : Case
  pub read : decode input ≡ accepted case
  pub answered : (case_solution case).status ≡ Accepted
  pub kept : 1 ≤ case.rounds → KeptOfRounds (system_of case) (scale_of case.exponent) case.rounds (case_solution case)
  pub count : m ≡ 2 * case.n
  pub depths : (j : ℕ) → j < case.n → SoundedAt (scale_of case.exponent) (case_answer case j) (sounded_depth buffer j)
