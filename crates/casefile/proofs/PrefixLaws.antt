-- Reading looks no further than one byte behind the longest case: a front of so many bytes is read as the whole file is, the same case or the same
-- refusal. Assumes nothing.
use Prim.Native.Nat.{ℕ, zero, suc, ◌+◌, ◌*◌, ◌≤◌}
use Rattle.std.proofs.Common.{leb-true, leb-false, take_all, ap, arith}
use Rattle.std.specs.Prelude.{leb, length, take, Bool, true, false, List, ◌≡◌, Err, Ok}
use Rattle.std.proofs.Math.Path.{refl}
use Rattle.std.proofs.Math.Nat.{suc-mul}
use Rattle.limits.specs.Limits.{most_tanks}
use Rattle.buffer.specs.FrontLaws.{Front, ReadsFirst, reads_get_d, reads_behind}
use Rattle.figures.proofs.FigureLaws.{reads_figures}
use Rattle.figures.specs.Figures.{i16_kind, u16_kind, i32_kind, u32_kind}
use Rattle.figures.proofs.ItemLaws.{reads_items}
use Rattle.fields.specs.Due.{due_at}
use Rattle.fields.specs.Field.{header_size, end_size}
use Rattle.fields.proofs.FrontLaws.{reads_due, reads_due_status, reads_end}
use Rattle.casefile.proofs.CaseLaws.{head_limits}
use Rattle.casefile.specs.Decode.{head_due, head_tanks, head_exponent, head_rounds, head_status, row_of, row_due, row_status, rows_status, rows_of, trial_due, trial_status, trial_of, tail_status, input_status, case_of, decode}
use Rattle.casefile.specs.Layout.{head_length, n_in, exponent_in, rounds_in, rows_at, row_length, row_size, tolerances_in, right_side_in, right_tolerance_in, rows_end, trial_kind, trial_length, trial_size, longest_case}
use Rattle.casefile.proofs.RowsLaws.{rows_fit}
use Rattle.casefile.proofs.TailLaws.{given_trial_most}
use Rattle.outcome.specs.Outcome.{Accepted, Status}

-- ---- the fields, each no further than its end

reads_head : ReadsFirst head_length head_due.read
reads_head =
    record { same = λ f h. rw ((reads_get_d {X = ℕ} n_in 0).same f (omega arith), (reads_get_d {X = ℕ} exponent_in 0).same f (omega arith), (reads_get_d {X = ℕ} rounds_in 0).same f (omega arith)) }

module _ (n : ℕ) where
  reads_row : ReadsFirst (row_length n) (row_of n)
  unfolding row_of
  reads_row = record {
    same = λ f h.
        rw (
          (reads_figures i16_kind n).same f (omega arith),
          (reads_behind (tolerances_in n) (reads_figures u16_kind n)).same f (omega arith),
          (reads_behind (right_side_in n) (reads_figures i32_kind 1)).same f (omega arith),
          (reads_behind (right_tolerance_in n) (reads_figures u32_kind 1)).same f (omega arith),
        );
  }

  reads_rows : (m : ℕ) → ReadsFirst (m * row_size n) (rows_of n m)
  reads_rows m = reads_items (row_size n) _ (reads_due (row_due n) reads_row) m

  reads_rows_status : (m : ℕ) → ReadsFirst (m * row_size n) (rows_status n m)
  unfolding rows_status row_status
  reads_rows_status zero = record { same = λ f h. refl }
  reads_rows_status (suc m) = record {
    same = λ f h.
        let k = suc-mul m (row_size n) in
        rw ((reads_due_status (row_due n) reads_row).same f (omega arith), (reads_behind (row_size n) (reads_rows_status m)).same f (omega arith));
  }

reads_trial : (k n : ℕ) → ReadsFirst (trial_size k n) (trial_of k n)
unfolding trial_of
reads_trial zero n = reads_due (trial_due n) (reads_figures trial_kind n)
reads_trial (suc k) n = record { same = λ f h. refl }

reads_trial_status : (k n : ℕ) → ReadsFirst (trial_size k n) (trial_status k n)
unfolding trial_status
reads_trial_status zero n = reads_due_status (trial_due n) (reads_figures trial_kind n)
reads_trial_status (suc k) n = record { same = λ f h. refl }

reads_tail_status : (k n : ℕ) → ReadsFirst (trial_size k n + (end_size + 1)) (tail_status k n)
unfolding tail_status
reads_tail_status k n =
    record { same = λ f h. rw ((reads_trial_status k n).same f (omega arith), (reads_behind (trial_size k n) reads_end).same f h) }

-- ---- the whole

module _ {t s : List ℕ} (f : Front (longest_case + 1) t s) where
  head_status_lem : head_status t ≡ head_status s
  unfolding head_status
  head_status_lem = (reads_due_status head_due reads_head).same f (omega arith)

  head_is : due_at head_due t ≡ due_at head_due s
  head_is = (reads_due head_due reads_head).same f (omega arith)

  tanks : head_tanks t ≡ head_tanks s
  tanks = ap (λ h. h.n) head_is

  exponents : head_exponent t ≡ head_exponent s
  exponents = ap (λ h. h.exponent) head_is

  rounds : head_rounds t ≡ head_rounds s
  rounds = ap (λ h. h.rounds) head_is

  -- behind a head that is not refused all that is due ends before the front does
  module _ (h : head_status s ≡ Accepted) where
    abbrev n : ℕ
    n = head_tanks s

    abbrev k : ℕ
    k = head_rounds s

    fits : (n * row_size n ≤ most_tanks * row_size most_tanks) × (trial_size k n ≤ header_size + trial_length most_tanks)
    fits =
        let small = (head_limits s h).small in
        (rows_fit n small, omega (arith, small, given_trial_most k (header_size + trial_length n)))

    status_is : input_status t ≡ input_status s
    unfolding input_status
    status_is =
        rw (
          head_status_lem,
          tanks,
          rounds,
          (reads_behind rows_at (reads_rows_status n n)).same f (omega (arith, fits)),
          (reads_behind (rows_end n) (reads_tail_status k n)).same f (omega (arith, fits)),
        )

    case_is : case_of t ≡ case_of s
    unfolding case_of
    case_is =
        rw (
          tanks,
          exponents,
          rounds,
          (reads_behind rows_at (reads_rows n n)).same f (omega (arith, fits)),
          (reads_behind (rows_end n) (reads_trial k n)).same f (omega (arith, fits)),
        )

  front_decoded : decode t ≡ decode s
  unfolding decode input_status
  front_decoded = go (head_status s) refl
    where
      go : (x : Status) → head_status s ≡ x → decode t ≡ decode s
      go (Err q) e = rw (head_status_lem, e)
      go (Ok _) e = rw (status_is e, case_is e)

-- document 01: "at most 389 bytes .., which is enough to refuse a longer one": with the refusal that the whole file has
pub decode_front : (s : List ℕ) → decode (take (longest_case + 1) s) ≡ decode s
decode_front s = go (leb (length s) (longest_case + 1)) refl
  where
    go : (b : Bool) → leb (length s) (longest_case + 1) ≡ b → decode (take (longest_case + 1) s) ≡ decode s
    go true e = rw (take_all (longest_case + 1) s (leb-true _ _ e))
    go false e = front_decoded (record { is = refl; more = leb-false _ _ e })
