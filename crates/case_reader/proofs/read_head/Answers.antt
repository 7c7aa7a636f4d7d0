-- `case_reader::read_head` meets its contract: the field's refusal, then the limits of n, e and K.
-- Assumes nothing.
use Prim.Native.Nat.{ℕ, ◌+◌, ◌≤◌}
use lib.ListN.{length, get_or}
use lib.Seq.{get_or-drop}
use mathlib.Core.Bool.{Bool}
use mathlib.Core.List.{List}
use mathlib.Core.Path.{◌≡◌, refl, sym, ◌∙◌, ap}
use native.Mathlib.Omega.{arith}
use Rattle.std.proofs.lemmas.Result.{err_from_is_err_and}
use Rattle.outcome.proofs.Laws.{stops, first_goes_on}
use Rattle.outcome.specs.Outcome.{check, status_number, Accepted}
use Rattle.outcome.specs.declared.Refusal.TheVariants.{OutsideLimits}
use Rattle.fields.proofs.FieldLaws.{Checked, checked}
use Rattle.fields.specs.Field.{header_size, value_of}
use Rattle.casefile.specs.Case.{head_is_fine}
use Rattle.casefile.specs.Decode.{head_status}
use Rattle.casefile.specs.Layout.{head_tag, head_length, n_in, exponent_in, rounds_in, rows_at}
use Rattle.case_reader.proofs.read_head.Goals.{In_ok-check_field}
use Rattle.case_reader.proofs.read_head.Goals as goal

-- the field is not refused: it is whole, and so are its figures
whole : (c : In_ok-check_field) → Checked head_tag head_length c.args.s.now 0 0 Accepted
whole c = checked head_tag head_length c.args.s.now 0 refl refl c.in_ok-check_field.ensures

long : (c : In_ok-check_field) → rows_at ≤ length c.args.s.now
long c = (whole c).room refl

-- a byte of the value
value_byte : (s : List ℕ) (i : ℕ) → get_or (value_of s) i 0 ≡ get_or s (header_size + i) 0
value_byte s i = get_or-drop header_size s i 0

pub returns-in_err-check_field : goal.returns-in_err-check_field
unfolding head_status
returns-in_err-check_field c =
    let p = err_from_is_err_and c.from_residual.result c.from_residual.ensures.1 in
    let field = checked head_tag head_length c.args.s.now 0 refl refl c.in_err-check_field.ensures in
    rw (p.1, p.2) (record { number = ap status_number (stops _ field.is refl); head = tt })

pub bounds-s-3 : goal.bounds-s-3
bounds-s-3 c = omega (arith, long (goal.at.bounds-s-3 c).In_ok-check_field)

pub bounds-s-4 : goal.bounds-s-4
bounds-s-4 c = omega (arith, long (goal.at.bounds-s-4 c).In_ok-check_field)

pub bounds-s-5 : goal.bounds-s-5
bounds-s-5 c = omega (arith, long (goal.at.bounds-s-5 c).In_ok-check_field)

-- the limits' test, of the figures as they are defined
tested : (c : In_ok-check_field) {fine : Bool} → fine ≡ head_is_fine (get_or c.args.s.now 3 0) (get_or c.args.s.now 4 0) (get_or c.args.s.now 5 0)
    → check fine OutsideLimits ≡ head_status c.args.s.now
unfolding head_status
tested c e =
    let s = c.args.s.now in
    rw (value_byte s n_in, value_byte s exponent_in, value_byte s rounds_in, e) (first_goes_on _ _ (sym (whole c).is))

pub returns-in_err-check : goal.returns-in_err-check
returns-in_err-check c =
    let p = err_from_is_err_and c.from_residual-in_err-check.result c.from_residual-in_err-check.ensures.1 in
    rw (p.1, p.2)
    (record { number = c.in_err-check.ensures ∙ ap status_number (tested (goal.at.returns-in_err-check c).In_ok-check_field c.is_fine.ensures); head = tt })

pub returns : goal.returns
returns c =
    let s = c.args.s.now in
    record {
      number = c.in_ok-check.ensures ∙ ap status_number (tested (goal.at.returns c).In_ok-check_field c.is_fine.ensures);
      head = rw (value_byte s n_in, value_byte s exponent_in, value_byte s rounds_in);
    }
