-- What a padded list holds: at every place, past the end too, what the list holds there, with zero past its end.
-- And that what is promised of a reading is the reading. Assumes nothing.
use Rattle.std.specs.Prelude.{ℕ, zero, suc, ◌+◌, ◌≤◌, length, get_or, drop, replicate, List, [], ◌∷◌, ◌++◌, Result, ◌≡◌, refl}
use Rattle.std.proofs.Common.{leb-true, le-leb, length-append, length-drop, get_or-drop, ◌∙◌, arith}
use Rattle.std.proofs.lemmas.List.{length-replicate}
use Rattle.buffer.specs.AllLaws.{all_at}
use Rattle.integers.specs.TableLaws.{same_at}
use Rattle.outcome.specs.declared.Refusal.{Refusal}
use Rattle.outcome.proofs.Laws.{same_answer}
use Rattle.figures.specs.Figures.{up_to_limit}
use Rattle.casefile.specs.Decode.{Decoded, padded, reading, CaseRead}
use Rattle.casefile.specs.SoundLaws.{Sound}
use Rattle.casefile.specs.declared.StoredCase.{StoredCase}

module _ {X : Type 0} (z : X) where
  behind : (l b : List X) → ((i : ℕ) → get_or b i z ≡ z) → (i : ℕ) → get_or (l ++ b) i z ≡ get_or l i z
  behind [] b h i = h i
  behind (x ∷ l) b h zero = refl
  behind (x ∷ l) b h (suc i) = behind l b h i

  pub get_d_padded : (k : ℕ) (l : List X) (i : ℕ) → get_or (padded k z l) i z ≡ get_or l i z
  get_d_padded k l i =
      behind l (drop (length l) (replicate k z)) (λ j. get_or-drop (length l) (replicate k z) j z ∙ same_at z k (length l + j)) i

  -- the places are there, whatever the list has
  pub padded_places : (k : ℕ) (l : List X) → k ≤ length (padded k z l)
  padded_places k l = simp (length-append, length-drop, length-replicate) (omega arith)

-- each figure of a padded list is within the limit that the list's are, by the size that the limit is of
pub padded_within : {X : Type 0} (size : X → ℕ) (z : X) → size z ≡ 0 → (k limit : ℕ) {m : ℕ} {l : List X} → Sound (λ x. up_to_limit limit (size x)) m l
    → (i : ℕ) → size (get_or (padded k z l) i z) ≤ limit
padded_within size z e k limit {l = l} s i =
    rw (get_d_padded z k l i) (leb-true _ _ (all_at (λ x. up_to_limit limit (size x)) z (le-leb _ limit (omega arith)) l s.fine i))

-- the reading is the one defined
pub read_is : (d : Decoded) (r : Result StoredCase Refusal) → CaseRead d r → r ≡ reading d
read_is d r w = same_answer r (reading d) w.number w.case
