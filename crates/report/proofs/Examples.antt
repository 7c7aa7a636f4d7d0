-- Document 01's printed example and the other forms, by computation on the definitions. Nothing is exported. Assumes nothing.
use Rattle.std.specs.Prelude.{pos, negsuc, neg_ℤ, true, false, [], ◌∷◌, ◌++◌, ◌≡◌, refl}
use Rattle.buffer.specs.Buffer.{run}
use Rattle.judge.specs.Judgement.{Judgement}
use Rattle.decimal.specs.Decimal.{digits_within, decimal_digits, last_digits, signed_decimal, fixed_point, ascii}
use Rattle.report.specs.Text.{report, text, refusal_text, verdict_line, answer_line, row_line, factor_line}

-- "For the case .. it prints": n 1, e 1, one round, Y −4, met, R 0, T 0
met_case : Judgement
met_case = record { met = true; unmet = 0; none = false; decides = 1; residuals = pos 0 ∷ []; reaches = 0 ∷ [] }

printed_example : text (report 1 1 1 (negsuc 3 ∷ []) met_case)
    ≡ ascii "met row 0 rounds 1\nanswer 1 -0.4\nrow 1 residual 0 reach 0\nfactor row 1\n"
unfolding digits_within decimal_digits last_digits signed_decimal fixed_point verdict_line answer_line row_line factor_line text run met_case
printed_example = refl

-- two tanks, e 0: the second row is named as unmet, and the first, which has no factor, decides
unmet_case : Judgement
unmet_case = record { met = false; unmet = 2; none = true; decides = 1; residuals = negsuc 6 ∷ pos 12 ∷ []; reaches = 0 ∷ 9 ∷ [] }

other_forms : text (report 2 0 8 (pos 0 ∷ neg_ℤ (pos 10000000) ∷ []) unmet_case)
    ≡ ascii "unmet row 2 rounds 8\nanswer 1 0\nanswer 2 -10000000\nrow 1 residual -7 reach 0\nrow 2 residual 12 reach 9\nfactor none row 1\n"
unfolding digits_within decimal_digits last_digits signed_decimal fixed_point verdict_line answer_line row_line factor_line text run unmet_case
other_forms = refl

-- e 3
three_digits : answer_line 3 1 (pos 5) ++ answer_line 3 2 (neg_ℤ (pos 10000000)) ≡ ascii "answer 1 0.005\nanswer 2 -10000.000\n"
unfolding digits_within decimal_digits last_digits fixed_point answer_line
three_digits = refl

refused : refusal_text 6 ≡ ascii "refused 6\n"
unfolding digits_within decimal_digits refusal_text
refused = refl
