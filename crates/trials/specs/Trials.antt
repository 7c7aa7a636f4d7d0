-- Definitions only.
-- The marked trials of document 01, "Trials at the edges": each is a case with all that its record is to say, or its refusal. Where the paper
-- leaves a figure out, it is worked out by hand from "The steps" and "Judgement".
use Rattle.std.specs.Prelude.{ℕ, ℤ, pos, negsuc, true, false, List, [], ◌∷◌}
use Rattle.casefile.specs.Case.{Case, case_of_lists}
use Rattle.trials.specs.Result.{Factor, ratio, none, Figures}

-- ---- trials

-- the figures of a record, or the number of a refusal
pub data Expected : Type 0 where
  figures : Figures → Expected
  refusal : ℕ → Expected

-- a trial of that list, and no trial answer
pub record MarkedTrial : Type 0 where
  pub case : Case
  pub expected : Expected

-- "One tank": e, K, A, E, b, f, and the trial figures that the case brings
abbrev pub one_tank : ℕ → ℕ → ℤ → ℕ → ℤ → ℕ → List ℤ → Case
one_tank e K A E b f Y = case_of_lists 1 e K (A ∷ []) (E ∷ []) (b ∷ []) (f ∷ []) Y

-- "Two tanks", "tolerances 0, K 1": the coefficients row after row, and both b
abbrev pub two_tanks : List ℤ → List ℤ → Case
two_tanks A b = case_of_lists 2 0 1 A (0 ∷ 0 ∷ 0 ∷ 0 ∷ []) b (0 ∷ 0 ∷ []) []

-- met: rounds used, then Y, R and T, the factor, and the row that decides
abbrev where_met : ℕ → List ℤ → List ℤ → List ℕ → Factor → ℕ → Expected
where_met rounds Y R T factor row =
    figures (record { met = true; unmet = 0; rounds = rounds; answer = Y; residuals = R; reaches = T; factor = factor; decides = row })

-- not met: the first unmet row, and the same
abbrev where_unmet : ℕ → ℕ → List ℤ → List ℤ → List ℕ → Factor → ℕ → Expected
where_unmet unmet rounds Y R T factor row =
    figures (record { met = false; unmet = unmet; rounds = rounds; answer = Y; residuals = R; reaches = T; factor = factor; decides = row })

-- ---- one tank

-- "The case printed above.": A 5, b −2, no tolerances, e 1, K 1
abbrev pub printed_trial : MarkedTrial
printed_trial =
    record {
      case = one_tank 1 1 (pos 5) 0 (negsuc 1) 0 [];
      expected = where_met 1 (negsuc 3 ∷ []) (pos 0 ∷ []) (0 ∷ []) (ratio 0 1) 1;
    }

-- "A 3, b 1, E 0, f 1, e 1, K 1: Y 3, R 1, T 10, met."
abbrev right_tolerance : MarkedTrial
right_tolerance =
    record {
      case = one_tank 1 1 (pos 3) 0 (pos 1) 1 [];
      expected = where_met 1 (pos 3 ∷ []) (pos 1 ∷ []) (10 ∷ []) (ratio 1 10) 1;
    }

-- "The same with f 0: not met, factor none."
abbrev no_tolerance : MarkedTrial
no_tolerance =
    record {
      case = one_tank 1 1 (pos 3) 0 (pos 1) 0 [];
      expected = where_unmet 1 1 (pos 3 ∷ []) (pos 1 ∷ []) (0 ∷ []) none 1;
    }

-- "With E 1, f 0: T 3, met."
abbrev coefficient_tolerance : MarkedTrial
coefficient_tolerance =
    record {
      case = one_tank 1 1 (pos 3) 1 (pos 1) 0 [];
      expected = where_met 1 (pos 3 ∷ []) (pos 1 ∷ []) (3 ∷ []) (ratio 1 3) 1;
    }

-- "The same with b −1, f 1: Y −3, R −1.": with E 0, as in the first of these three
abbrev negative : MarkedTrial
negative =
    record {
      case = one_tank 1 1 (pos 3) 0 (negsuc 0) 1 [];
      expected = where_met 1 (negsuc 2 ∷ []) (negsuc 0 ∷ []) (10 ∷ []) (ratio 1 10) 1;
    }

-- and with E 1, as in the last of them: T is 10 × 1 + 1 × |−3|
abbrev negative_both : MarkedTrial
negative_both =
    record {
      case = one_tank 1 1 (pos 3) 1 (negsuc 0) 1 [];
      expected = where_met 1 (negsuc 2 ∷ []) (negsuc 0 ∷ []) (13 ∷ []) (ratio 1 13) 1;
    }

-- "A 2, b 1, E 0, f 1, K 1": since halves go to the even number "Y 0, R 1, T 1, still met" (document 02, "Five")
abbrev half : MarkedTrial
half =
    record {
      case = one_tank 0 1 (pos 2) 0 (pos 1) 1 [];
      expected = where_met 1 (pos 0 ∷ []) (pos 1 ∷ []) (1 ∷ []) (ratio 1 1) 1;
    }

-- "A 2, b 4, E 1, f 0, trial 1: R 2, T 1, not met, factor 2."
abbrev factor_two : MarkedTrial
factor_two =
    record {
      case = one_tank 0 0 (pos 2) 1 (pos 4) 0 (pos 1 ∷ []);
      expected = where_unmet 1 0 (pos 1 ∷ []) (pos 2 ∷ []) (1 ∷ []) (ratio 2 1) 1;
    }

-- "A 2, b 1, E 5, f 0, trial 0: not met, none."
abbrev zero_trial_given : MarkedTrial
zero_trial_given =
    record {
      case = one_tank 0 0 (pos 2) 5 (pos 1) 0 (pos 0 ∷ []);
      expected = where_unmet 1 0 (pos 0 ∷ []) (pos 1 ∷ []) (0 ∷ []) none 1;
    }

-- ---- two tanks

-- "Two tanks, rows (0, 1) and (1, 0), b 5 and 7, tolerances 0, K 1: Y 7, 5, met, row 1 decides."
abbrev exchanged : MarkedTrial
exchanged =
    record {
      case = two_tanks (pos 0 ∷ pos 1 ∷ pos 1 ∷ pos 0 ∷ []) (pos 5 ∷ pos 7 ∷ []);
      expected = where_met 1 (pos 7 ∷ pos 5 ∷ []) (pos 0 ∷ pos 0 ∷ []) (0 ∷ 0 ∷ []) (ratio 0 1) 1;
    }

-- "Rows (2, 1) and (1, 3), b 5 and 10, tolerances 0, K 1: Y 1, 3."
abbrev multiplied : MarkedTrial
multiplied =
    record {
      case = two_tanks (pos 2 ∷ pos 1 ∷ pos 1 ∷ pos 3 ∷ []) (pos 5 ∷ pos 10 ∷ []);
      expected = where_met 1 (pos 1 ∷ pos 3 ∷ []) (pos 0 ∷ pos 0 ∷ []) (0 ∷ 0 ∷ []) (ratio 0 1) 1;
    }

-- ---- refusals

-- "Rows (1, 1) and (1, 1), K 1: refusal 8."
abbrev equal_rows : MarkedTrial
equal_rows =
    record {
      case = two_tanks (pos 1 ∷ pos 1 ∷ pos 1 ∷ pos 1 ∷ []) (pos 0 ∷ pos 0 ∷ []);
      expected = refusal 8;
    }

-- "A 1, b 1,000,000,000, K 1: refusal 9."
abbrev too_large : MarkedTrial
too_large = record { case = one_tank 0 1 (pos 1) 0 (pos 1000000000) 0 []; expected = refusal 9 }

abbrev pub trials : List MarkedTrial
trials =
    printed_trial
    ∷ right_tolerance
    ∷ no_tolerance
    ∷ coefficient_tolerance
    ∷ negative
    ∷ negative_both
    ∷ half
    ∷ factor_two
    ∷ zero_trial_given
    ∷ exchanged
    ∷ multiplied
    ∷ equal_rows
    ∷ too_large
    ∷ []
