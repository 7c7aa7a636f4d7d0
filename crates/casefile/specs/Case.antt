-- Definitions only.
-- A case, the tests of its limits, and which cases a writer takes.
use Rattle.std.specs.Prelude.{ℕ, zero, suc, ◌*◌, ◌≤◌, leb, eqb, ℤ, length, Bool, ◌&&◌, List}
use Rattle.limits.specs.Limits.{most_tanks, most_exponent, most_rounds, coefficient_limit, tolerance_limit, right_side_limit, right_tolerance_limit, trial_limit}
use Rattle.rows.specs.Block.{Block, block}
use Rattle.outcome.specs.Outcome.{check, first, Status}
use Rattle.outcome.specs.declared.Refusal.TheVariants.{WrongLength, OutsideLimits}
use Rattle.figures.specs.Figures.{all_up_to_limit, all_within_limit}

-- document 01's n, e and K (rounds, its own term), its rows, and its trial Y
pub record Case : Type 0 where
  pub n : ℕ
  pub exponent : ℕ
  pub rounds : ℕ
  pub rows : Block
  pub Y : List ℤ

abbrev pub case_with : ℕ → ℕ → ℕ → Block → List ℤ → Case
case_with n exponent rounds rows Y = record { n = n; exponent = exponent; rounds = rounds; rows = rows; Y = Y }

-- the case of these figures
abbrev pub case_of_lists : ℕ → ℕ → ℕ → List ℤ → List ℕ → List ℤ → List ℕ → List ℤ → Case
case_of_lists n exponent rounds A E b f Y = case_with n exponent rounds (block A E b f) Y

-- "n is 1 to 8"
abbrev pub tanks_are_fine : ℕ → Bool
tanks_are_fine n = leb 1 n && leb n most_tanks

abbrev pub head_is_fine : ℕ → ℕ → ℕ → Bool
head_is_fine n exponent rounds = tanks_are_fine n && (leb exponent most_exponent && leb rounds most_rounds)

-- its four tests as inequalities
pub record HeadSmall (n exponent rounds : ℕ) : Type 0 where
  pub least : 1 ≤ n
  pub small : n ≤ most_tanks
  pub exponent_small : exponent ≤ most_exponent
  pub rounds_small : rounds ≤ most_rounds

-- "K: .. 0 means that the case brings its trial": what holds there, and what where K is above 0
abbrev pub where_trial_given : {X : Type 0} → ℕ → X → X → X
where_trial_given zero x y = x
where_trial_given (suc k) x y = y

abbrev pub trial_count_due : ℕ → ℕ → ℕ
trial_count_due k n = where_trial_given k n 0

-- a figure for each tank of each row
abbrev pub square_counted : {X : Type 0} → ℕ → List X → Bool
square_counted n l = eqb (length l) (n * n)

-- "n × n for the first two, n for the others, none for the trial where K is above 0"
unfoldable pub counted : Case → Bool
counted c =
    square_counted c.n c.rows.A
    && (square_counted c.n c.rows.E
    && (eqb (length c.rows.b) c.n
    && (eqb (length c.rows.f) c.n
    && eqb (length c.Y) (trial_count_due c.rounds c.n))))

-- "coefficient A: −32,767 to 32,767"
abbrev pub coefficients_are_fine : List ℤ → Bool
coefficients_are_fine A = all_within_limit coefficient_limit A

-- A, E, b and f within their limits
unfoldable pub rows_fine : Block → Bool
rows_fine r =
    coefficients_are_fine r.A
    && (all_up_to_limit tolerance_limit r.E
    && (all_within_limit right_side_limit r.b && all_up_to_limit right_tolerance_limit r.f))

unfoldable pub figures_fine : Case → Bool
figures_fine c = rows_fine c.rows && all_within_limit trial_limit c.Y

-- "then with 6 an n, e or K outside its limits; then with 4 a list whose count is not the one due ..; then with 6 any other figure outside
-- its limits"
unfoldable pub case_status : Case → Status
case_status c =
    first (check (head_is_fine c.n c.exponent c.rounds) OutsideLimits)
    (first (check (counted c) WrongLength) (check (figures_fine c) OutsideLimits))
