-- Definitions only.
-- The limits of a case's figures: document 01, "Figures".
use Rattle.std.specs.Prelude.{ℕ, ◌*◌}

-- "n is 1 to 8", "The exponent e is 0 to 3", "rounds K: 0 to 8"
abbrev pub most_tanks : ℕ
most_tanks = 8

-- rows times tanks
abbrev pub most_coefficients : ℕ
most_coefficients = most_tanks * most_tanks

abbrev pub most_exponent : ℕ
most_exponent = 3

abbrev pub most_rounds : ℕ
most_rounds = 8

-- "coefficient A: −32,767 to 32,767; its tolerance E: 0 to 32,767"
abbrev pub coefficient_limit : ℕ
coefficient_limit = 32767

abbrev pub tolerance_limit : ℕ
tolerance_limit = 32767

-- "right side b: −1,000,000,000 to 1,000,000,000; its tolerance f: 0 to 1,000,000,000"
abbrev pub right_side_limit : ℕ
right_side_limit = 1000000000

abbrev pub right_tolerance_limit : ℕ
right_tolerance_limit = 1000000000

-- "trial figure Y: −10,000,000 to 10,000,000"
abbrev pub trial_limit : ℕ
trial_limit = 10000000
