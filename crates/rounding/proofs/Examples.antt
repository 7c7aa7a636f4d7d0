-- Small quotients, by computation on the definitions. Assumes nothing.
use Rattle.std.specs.Prelude.{ℤ, pos, negsuc, List, [], ◌∷◌, map, ◌≡◌, refl}
use Rattle.rounding.specs.Half.{is_rounded_up}
use Rattle.rounding.specs.Round.{near, rnd}

-- from -7 to 7, the odd ones
abbrev pub dividends : List ℤ
dividends = negsuc 6 ∷ negsuc 4 ∷ negsuc 2 ∷ negsuc 0 ∷ pos 1 ∷ pos 3 ∷ pos 5 ∷ pos 7 ∷ []

-- by 2 each is a half, and has the even number next to it
pub halves : map (λ p. rnd p (pos 2)) dividends
    ≡ negsuc 3 ∷ negsuc 1 ∷ negsuc 1 ∷ pos 0 ∷ pos 0 ∷ pos 2 ∷ pos 2 ∷ pos 4 ∷ []
unfolding rnd near is_rounded_up
halves = refl

-- by 4 none is, and each has the nearest
pub quarters : map (λ p. rnd p (pos 4)) dividends
    ≡ negsuc 1 ∷ negsuc 0 ∷ negsuc 0 ∷ pos 0 ∷ pos 0 ∷ pos 1 ∷ pos 1 ∷ pos 2 ∷ []
unfolding rnd near is_rounded_up
quarters = refl
