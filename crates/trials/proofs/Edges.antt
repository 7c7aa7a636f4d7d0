-- The printed case and its record, byte for byte, and those trials of document 01, "Trials at the edges", that are about bytes. Assumes nothing.
use Rattle.std.specs.Prelude.{ℕ, pos, replicate, ◌≡◌, refl, Ok}
use mathlib.Core.List.{List, [], ◌∷◌, map, Memᴰ}
use Rattle.buffer.specs.Buffer.{onto}
use Rattle.outcome.specs.CallResult.{call_result}
use Rattle.outcome.specs.Outcome.{reported_outcome}
use Rattle.casefile.specs.Case.{Case, case_of_lists}
use Rattle.casefile.proofs.Examples.{printed_bytes, nine_tanks, least_coefficient}
use Rattle.casefile.specs.Layout.{encode}
use Rattle.recordfile.specs.Layout.{longest_record}
use Rattle.ballast.specs.Call.{judge_result}
use Rattle.decimal.specs.Decimal.{digits_within, decimal_digits, last_digits, signed_decimal, fixed_point, ascii}
use Rattle.report.specs.Text.{text, verdict_line, answer_line, row_line, factor_line}
use Rattle.verdict_text.specs.Verdict.{text_of, printed_text}
use Rattle.trials.specs.Result.{Result, refused, result_of, lent, found}
use Rattle.trials.proofs.TrialStatement.{agree}
use Rattle.trials.specs.Trials.{printed_trial}

-- "`10 0003 01 00 01 11 0004 FFFFFFFC 12 0010`, sixteen bytes 00, `13 0002 00 01 FF 0000`"
abbrev pub printed_record : List ℕ
printed_record =
    0x10 ∷ 0x00 ∷ 0x03 ∷ 0x01 ∷ 0x00 ∷ 0x01
    ∷ 0x11 ∷ 0x00 ∷ 0x04 ∷ 0xFF ∷ 0xFF ∷ 0xFF ∷ 0xFC
    ∷ 0x12 ∷ 0x00 ∷ 0x10
    ∷ 0x00 ∷ 0x00 ∷ 0x00 ∷ 0x00 ∷ 0x00 ∷ 0x00 ∷ 0x00 ∷ 0x00
    ∷ 0x00 ∷ 0x00 ∷ 0x00 ∷ 0x00 ∷ 0x00 ∷ 0x00 ∷ 0x00 ∷ 0x00
    ∷ 0x13 ∷ 0x00 ∷ 0x02 ∷ 0x00 ∷ 0x01
    ∷ 0xFF ∷ 0x00 ∷ 0x00
    ∷ []

pub printed_case_lem : encode printed_trial.case ≡ printed_bytes
unfolding found
printed_case_lem = refl

pub printed_record_lem : judge_result printed_bytes (lent longest_record) ≡ call_result (Ok 40) (onto printed_record (lent longest_record))
unfolding found
printed_record_lem = refl

-- "For the case .. it prints"
pub printed_text_lem : printed_text printed_bytes
    ≡ ascii "met row 0 rounds 1\nanswer 1 -0.4\nrow 1 residual 0 reach 0\nfactor row 1\n"
unfolding found text_of printed_text text verdict_line answer_line row_line factor_line fixed_point signed_decimal decimal_digits digits_within last_digits
printed_text_lem = refl

-- ---- refusals of bytes

-- an input, how many bytes the result buffer has, and the refusal's number
pub record Edge : Type 0 where
  pub input : List ℕ
  pub room : ℕ
  pub number : ℕ

-- "Buffer of 179 bytes: 1; of 180: work begins. Empty input: 2."
abbrev short_buffer : Edge
short_buffer = record { input = []; room = 179; number = 1 }

abbrev empty_input : Edge
empty_input = record { input = []; room = 180; number = 2 }

-- "n 9 is refusal 6"
abbrev tanks_outside : Edge
tanks_outside = record { input = nine_tanks; room = 180; number = 6 }

-- "Coefficient −32,768: 6."
abbrev coefficient_outside : Edge
coefficient_outside = record { input = least_coefficient; room = 180; number = 6 }

abbrev pub edges : List Edge
edges = short_buffer ∷ empty_input ∷ tanks_outside ∷ coefficient_outside ∷ []

abbrev pub edge_outcome : Edge → Result
edge_outcome e = result_of 0 (judge_result e.input (lent e.room))

abbrev pub edge_refusal : Edge → Result
edge_refusal e = refused e.number (lent e.room)

pub edges_refused : map edge_outcome edges ≡ map edge_refusal edges
unfolding found
edges_refused = refl

pub each_edge_refused : (e : Edge) → Memᴰ e edges → edge_outcome e ≡ edge_refusal e
each_edge_refused e m = agree edge_outcome edge_refusal m edges_refused

-- "n 8 is read": eight tanks, every figure 0, and the longest record
abbrev pub eight_tanks : Case
eight_tanks = case_of_lists 8 0 0 (replicate 64 (pos 0)) (replicate 64 0) (replicate 8 (pos 0)) (replicate 8 0) (replicate 8 (pos 0))

pub eight_tanks_lem : (judge_result (encode eight_tanks) (lent longest_record)).outcome ≡ reported_outcome (Ok 180)
unfolding found
eight_tanks_lem = refl
