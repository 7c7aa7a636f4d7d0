-- The parts of the input at the places where the code reads them, and what they make of the whole.
-- Assumes nothing.
use Prim.Native.Nat.{ℕ, ◌≤◌}
use lib.ListN.{drop}
use mathlib.Core.List.{List}
use mathlib.Core.Path.{◌≡◌, refl, sym, ap, ◌∙◌}
use Rattle.std.specs.Prelude.{Result, Ok, Err, is_err, true, false}
use Rattle.std.proofs.Common.{true≢false}
use Rattle.limits.specs.Limits.{most_tanks}
use Rattle.rows.specs.Block.{together}
use Rattle.outcome.proofs.Laws.{stops, first_goes_on, same_status}
use Rattle.outcome.specs.Outcome.{status_number, first, Accepted, Status}
use Rattle.outcome.specs.declared.Refusal.{Refusal}
use Rattle.fields.proofs.AnswerLaws.{read_status, read_made}
use Rattle.casefile.specs.Case.{case_with}
use Rattle.casefile.proofs.CaseLaws.{head_limits}
use Rattle.casefile.specs.Decode.{after_head, head_status, rows_status, rows_of, trial_of, tail_status, input_status, case_of, decode}
use Rattle.casefile.specs.Layout.{rows_end}
use Rattle.casefile.specs.declared.CaseHead.{CaseHead}
use Rattle.case_reader.specs.Read.{HeadFound, RowsFound, TailFound, CaseLists, zero_lists, CaseFound, CaseReadInto}

-- ---- the fields

module _ (s : List ℕ) where
  -- a refusal, whatever the lists hold
  refusal_found : (q : Refusal) → Err q ≡ input_status s → (before after : CaseLists) → CaseFound s before (Err q) after
  refusal_found q e before after = record { number = ap status_number e; made = tt }

  pub head_stops : (q : Refusal) → HeadFound s (Err q) → (before after : CaseLists) → CaseFound s before (Err q) after
  unfolding input_status
  head_stops q found = refusal_found q (stops _ (same_status (Err q) (head_status s) found.number) refl)

  module _ (head : CaseHead) (found : HeadFound s (Ok head)) where
    abbrev n : ℕ
    n = head.n

    abbrev rounds : ℕ
    rounds = head.rounds

    accepted : head_status s ≡ Accepted
    accepted = sym (same_status Accepted (head_status s) found.number)

    pub small : n ≤ most_tanks
    small = rw found.head (head_limits s accepted).small

    status_is : input_status s ≡ first (rows_status n n (after_head s)) (tail_status rounds n (drop (rows_end n) s))
    unfolding input_status
    status_is = rw (accepted, found.head)

    case_is : case_of s ≡ case_with n head.exponent rounds (together (rows_of n n (after_head s))) (trial_of rounds n (drop (rows_end n) s))
    unfolding case_of
    case_is = rw found.head

    module _ (before after : CaseLists) where
      pub rows_stop : (q : Refusal) → RowsFound n (after_head s) before.rows (Err q) after.rows → CaseFound s before (Err q) after
      rows_stop q rows = refusal_found q (rw status_is (stops _ (read_status rows) refl)) before after

      module _ (rows : RowsFound n (after_head s) before.rows Accepted after.rows) where
        tail_last : {tail : Status} → TailFound rounds n (drop (rows_end n) s) before.Y tail after.Y → tail ≡ input_status s
        tail_last tail = rw status_is (read_status tail ∙ first_goes_on _ _ (sym (read_status rows)))

        pub tail_stop : (q : Refusal) → TailFound rounds n (drop (rows_end n) s) before.Y (Err q) after.Y → CaseFound s before (Err q) after
        tail_stop q tail = refusal_found q (tail_last tail) before after

        pub all_found : TailFound rounds n (drop (rows_end n) s) before.Y Accepted after.Y → CaseFound s before (Ok head) after
        all_found tail =
            record {
              number = ap status_number (tail_last tail);
              made = rw case_is (refl, rw (← (read_made rows refl), ← (read_made tail refl)));
            }

-- ---- the case

module _ (s : List ℕ) (before between : CaseLists) where
  -- beside a refusal the lists are cleared, whatever they hold
  pub refused_whole : (r : Result CaseHead Refusal) → is_err r ≡ true → CaseFound s before r between → CaseReadInto (decode s) before r zero_lists
  unfolding decode
  refused_whole (Ok head) h found = absurd (true≢false (sym h))
  refused_whole (Err q) h found =
      rw (sym (same_status (Err q) (input_status s) found.number)) (record { number = refl; head = tt; lists = refl })

  pub accepted_whole : (r : Result CaseHead Refusal) → is_err r ≡ false → CaseFound s before r between → CaseReadInto (decode s) before r between
  unfolding decode
  accepted_whole (Err q) h found = absurd (true≢false h)
  accepted_whole (Ok head) h found =
      rw (sym (same_status Accepted (input_status s) found.number)) (record { number = refl; head = ap Ok found.made.0; lists = found.made.1 })
