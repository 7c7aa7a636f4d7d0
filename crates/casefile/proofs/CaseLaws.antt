-- The two laws of case files: a case within its limits, encoded and decoded, is that case; bytes that decode to a case are its encoding.
-- And what decodes is within the limits, and how long an encoding is. Assumes nothing.
use Rattle.std.specs.Prelude.{ℕ, ◌+◌, ◌*◌, ◌≤◌, true, ◌≡◌, refl, Err, Ok}
use borrow.Author.Tests.{leb-true, le-leb, eqb-true, eq-eqb}
use Rattle.std.proofs.Math.ListN.{length, drop}
use Rattle.std.proofs.Common.{length-append, drop-drop, sym, ◌∙◌, subst, arith}
use mathlib.Core.List.{List, [], ◌∷◌, ◌++◌, append-nil, map}
use Rattle.limits.specs.Limits.{trial_limit}
use Rattle.buffer.specs.AllLaws.{and_left, and_right}
use Rattle.buffer.specs.Buffer.{joined}
use Rattle.buffer.specs.RunLaws.{joined_append, concat_map}
use Rattle.rows.specs.BlockLaws.{length_split}
use Rattle.outcome.proofs.Laws.{check_accepted, first_left, first_right}
use Rattle.bigendian.specs.Number.{be_bytes, Bytes}
use Rattle.bigendian.specs.NumberLaws.{bytes_drop}
use Rattle.figures.specs.Figures.{within_limit}
use Rattle.figures.proofs.ItemLaws.{length_items}
use Rattle.fields.specs.Due.{end_status}
use Rattle.fields.proofs.DueLaws.{due_back, due_fine, due_same, end_back, end_same}
use Rattle.fields.specs.Field.{header_size, after_field, field, end_tag, end_size, end_field}
use Rattle.fields.proofs.FieldLaws.{length_field}
use Rattle.casefile.specs.Case.{Case, head_is_fine, HeadSmall, trial_count_due, counted, figures_fine, case_status}
use Rattle.casefile.specs.Decode.{head_due, head_tanks, head_exponent, head_rounds, head_status, rows_status, rows_of, trial_status, tail_status, after_head, after_rows, input_status, case_of, accepted, decoded, decode}
use Rattle.casefile.specs.Layout.{head_tag, head_length, head_value, head_field, rows_at, row_size, rows_end, longest_case, row_field, rows_in, trial_length, trial_size, trial_fields, trial_bytes, encode}
use Rattle.casefile.proofs.RowsLaws.{length_row_fields, rows_back, rows_sound, rows_same, rows_fit}
use Rattle.casefile.specs.SoundLaws.{Sound, SoundBlock, sound, sound_fine, Rows, split_sound, together_split, split_together, together_sound}
use Rattle.casefile.proofs.TailLaws.{given_trial_most, length_trial, trial_back, trial_sound, trial_same}
use Rattle.outcome.specs.Outcome.{Accepted, Status}

-- ---- what a head that is not refused has

module _ (n exponent rounds : ℕ) where
  pub head_small : head_is_fine n exponent rounds ≡ true → HeadSmall n exponent rounds
  head_small h = search (and_left, and_right, leb-true)

  small_head : HeadSmall n exponent rounds → head_is_fine n exponent rounds ≡ true
  small_head h = search le-leb

pub head_limits : (s : List ℕ) → head_status s ≡ Accepted → HeadSmall (head_tanks s) (head_exponent s) (head_rounds s)
unfolding head_status
head_limits s e = head_small _ _ _ (due_fine head_due s e)

-- ---- what a case that is not refused has

pub record Good (c : Case) : Type 0 where
  pub limits : HeadSmall c.n c.exponent c.rounds
  pub rows : SoundBlock (c.n * c.n) c.n c.rows
  pub trial : Sound (within_limit trial_limit) (trial_count_due c.rounds c.n) c.Y

module _ (c : Case) where
  pub good : case_status c ≡ Accepted → Good c
  unfolding case_status counted figures_fine
  good e = search (first_left, first_right, check_accepted, and_left, and_right, head_small, eqb-true, sound) depth 8

  accepts : Good c → case_status c ≡ Accepted
  unfolding case_status counted figures_fine
  accepts g = search (small_head, eq-eqb, sound_fine g.rows, g.trial.fine)

-- ---- the encoding, field after field

pub encode_is : (c : Case)
    → encode c ≡ head_field c.n c.exponent c.rounds ++ (joined row_field (rows_in c) ++ (trial_bytes c.rounds c.Y ++ end_field))
unfolding encode
encode_is c =
    rw (
      joined_append (λ f. f) (map row_field (rows_in c)) (trial_fields c.rounds c.Y ++ (end_field ∷ [])),
      joined_append (λ f. f) (trial_fields c.rounds c.Y) (end_field ∷ []),
      concat_map row_field (rows_in c),
      append-nil end_field,
    )

-- ---- encoded and decoded

pub length_rows_in : (c : Case) → Good c → length (joined row_field (rows_in c)) ≡ c.n * row_size c.n
length_rows_in c g = rw (length_split c.n c.n c.rows) at (length_row_fields (split_sound c.n g.rows))

head_back : (n x k : ℕ) (rest : List ℕ) → HeadSmall n x k → head_status (head_field n x k ++ rest) ≡ Accepted
unfolding head_status
head_back n x k rest h = (due_back head_due (record { n = n; exponent = x; rounds = k }) rest refl (omega arith) (small_head n x k h) refl).accepted

-- what follows the rows
after_rows_lem : (n : ℕ) (s : List ℕ) → drop (rows_end n) s ≡ drop (n * row_size n) (drop rows_at s)
after_rows_lem n s = sym (drop-drop (n * row_size n) rows_at s)

pub decode_encode : (c : Case) → case_status c ≡ Accepted → decode (encode c) ≡ accepted c
unfolding decode input_status tail_status case_of field be_bytes
decode_encode c e =
    let g = good c e in
    let T : List ℕ = trial_bytes c.rounds c.Y ++ end_field in
    let R : List ℕ = joined row_field (rows_in c) in
    let H : List ℕ = head_field c.n c.exponent c.rounds in
    let r = rw (length_split c.n c.n c.rows) at (rows_back g.limits.small (split_sound c.n g.rows) T) in
    let t = trial_back c.rounds c.n c.Y end_field g.limits.small g.trial in
    rw (
      encode_is c,
      head_back c.n c.exponent c.rounds (R ++ T) g.limits,
      r.accepted,
      after_rows_lem c.n (H ++ (R ++ T)),
      r.after,
      t.accepted,
      t.after,
      end_back,
      r.read,
      t.read,
      together_split c.n g.rows,
    )

-- ---- what decodes

decodes : (s : List ℕ) (c : Case) → decode s ≡ accepted c → (input_status s ≡ Accepted) × (case_of s ≡ c)
unfolding decode
decodes s c e = go (input_status s) refl e
  where
    go : (t : Status) → input_status s ≡ t → decoded t (case_of s) ≡ accepted c → (input_status s ≡ Accepted) × (case_of s ≡ c)
    go (Ok _) h q = search
    go (Err r) h q = search

module _ (s : List ℕ) (e : input_status s ≡ Accepted) where
  abbrev N : ℕ
  N = head_tanks s

  abbrev K : ℕ
  K = head_rounds s

  record Parts : Type 0 where
    head : head_status s ≡ Accepted
    rows : rows_status N N (after_head s) ≡ Accepted
    trial : trial_status K N (after_rows s) ≡ Accepted
    end : end_status (drop (trial_size K N) (after_rows s)) ≡ Accepted

  parts : Parts
  unfolding input_status tail_status
  parts = search (first_left, first_right)

  rows_are : Rows N (rows_of N N (after_head s))
  rows_are = rows_sound N N (after_head s) parts.rows

  rows_count : length (rows_of N N (after_head s)) ≡ N
  rows_count = length_items _ _ N (after_head s)

  -- what decodes is within the limits
  case_good : Good (case_of s)
  unfolding case_of
  case_good = record { limits = head_limits s parts.head; rows = rw rows_count at (together_sound N rows_are); trial = trial_sound K N (after_rows s) parts.trial }

  head_same : Bytes s → head_field N (head_exponent s) K ++ after_field head_length s ≡ s
  unfolding head_status
  head_same bs = due_same head_due s parts.head bs same
    where
      same : (v : List ℕ) → Bytes v → head_length ≤ length v → (head_length ≡ head_length) × (head_due.write (head_due.read v) ++ drop head_length v ≡ v)
      same [] b h = absurd (omega arith)
      same (x ∷ []) b h = absurd (omega arith)
      same (x ∷ y ∷ []) b h = absurd (omega arith)
      same (x ∷ y ∷ z ∷ v) b h = (refl, refl)

  case_bytes : Bytes s → encode (case_of s) ≡ s
  unfolding case_of
  case_bytes bs =
      let b = bytes_drop (rows_end N) bs in
      encode_is (case_of s)
      ∙ rw (
        rw rows_count at (split_together N rows_are),
        end_same _ parts.end (bytes_drop (trial_size K N) b),
        trial_same K N (after_rows s) parts.trial b,
        after_rows_lem N s,
        rows_same N N (after_head s) parts.rows (bytes_drop rows_at bs),
      )
      (head_same bs)

pub decode_good : (s : List ℕ) (c : Case) → decode s ≡ accepted c → Good c
decode_good s c e = let w = decodes s c e in subst Good w.1 (case_good s w.0)

pub decode_fine : (s : List ℕ) (c : Case) → decode s ≡ accepted c → case_status c ≡ Accepted
decode_fine s c e = accepts c (decode_good s c e)

pub encode_decode : (s : List ℕ) (c : Case) → Bytes s → decode s ≡ accepted c → encode c ≡ s
encode_decode s c bs e = let w = decodes s c e in subst (λ (d : Case). encode d ≡ s) w.1 (case_bytes s w.0 bs)

-- ---- lengths

pub length_encode : (c : Case) → Good c
    → length (encode c) ≡ rows_end c.n + (trial_size c.rounds c.n + end_size)
length_encode c g =
    rw (encode_is c)
    (simp length-append
    (rw (
      length_field head_tag (head_value c.n c.exponent c.rounds),
      length_rows_in c g,
      length_trial c.rounds c.n c.Y g.trial.count,
      length_field end_tag [],
    )
    (omega arith)))

pub longest : (c : Case) → case_status c ≡ Accepted → length (encode c) ≤ longest_case
longest c e =
    let g = good c e in
    omega (arith, length_encode c g, rows_fit c.n g.limits.small, given_trial_most c.rounds (header_size + trial_length c.n))

-- document 01: "at most 389 bytes .., which is enough to refuse a longer one". What is read as a case is no longer than the longest
pub accepted_length : (s : List ℕ) (c : Case) → Bytes s → decode s ≡ accepted c → length s ≤ longest_case
accepted_length s c bs e = rw (encode_decode s c bs e) at (longest c (decode_fine s c e))
