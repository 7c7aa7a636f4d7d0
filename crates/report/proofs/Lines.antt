-- The lines of the text: the room that a line asks is room for its pieces, and lines that a loop writes one after another, each of at most `limit` bytes.
-- Assumes nothing.
use Rattle.std.specs.Prelude.{ℕ, ◌+◌, ◌*◌, ◌≤◌, ◌<◌, ℤ, length, Bool, List, [], ◌∷◌}
use Rattle.std.proofs.Common.{Fits, w32, w64, lit<, lit≤, lt_of_lt_of_le, lt_of_le_of_lt, arith}
use mir.Val.{SFits}
use Rattle.limits.specs.Limits.{most_tanks, most_exponent}
use Rattle.buffer.specs.Buffer.{Room, run, concat}
use Rattle.buffer.specs.RunLaws.{run_ended}
use Rattle.integers.specs.Size.{size_sfits}
use Rattle.decimal.specs.Decimal.{line_feed, signed_decimal, fixed_point, ascii}
use Rattle.decimal.specs.Writing.{HasRoom, Writes}
use Rattle.decimal.specs.declared.TextWriter.{TextWriter}
use Rattle.decimal.proofs.WritingLaws.{Run, run_one_more, Pieces, pieces_begun, piece_written}
use Rattle.report.specs.Text.{labelled, verdict_word, verdict_line, answer_line, row_line, factor_word, factor_line, refusal_text, verdict_room, answer_room, room_of_row, factor_room, text_room, WroteWithin}
use Rattle.report.proofs.TextLaws.{some, none, length_concat, length_verdict_line, length_answer_line, length_row_line, length_factor_line}

-- ---- the pieces of a line

-- where they are short enough, and there is room for so many bytes
pub record Line (pieces : List (List ℕ)) (limit : ℕ) (w : TextWriter) : Type 0 where
  pub short : length (concat pieces) ≤ limit
  pub begun : Pieces [] pieces w w

line : (pieces : List (List ℕ)) (limit : ℕ) (w : TextWriter) → length (concat pieces) ≤ limit → w.at + limit ≤ length w.out.now → Line pieces limit w
line pieces limit w s h = record { short = s; begun = pieces_begun (record { room = record { room = omega arith } }) }

-- all of them written
pub line_written : {pieces : List (List ℕ)} {limit : ℕ} {w after : TextWriter} → Line pieces limit w → Pieces pieces [] w after → WroteWithin limit (concat pieces) w after
line_written l p = record { short = l.short; wrote = p.wrote }

module _ (w : TextWriter) where
  pub verdict_pieces : (met : Bool) (row rounds : ℕ) → Fits w64 row → Fits w64 rounds → w.at + verdict_room ≤ length w.out.now
      → Line (labelled (verdict_word met) row ∷ labelled (ascii " rounds ") rounds ∷ line_feed ∷ []) verdict_room w
  unfolding verdict_line
  verdict_pieces met row rounds f g h =
      line _ _ w (length_verdict_line met row rounds (lt_of_lt_of_le f.fits (lit≤ tt)) (lt_of_lt_of_le g.fits (lit≤ tt))) h

  pub answer_pieces : (e tank : ℕ) (figure : ℤ) → SFits w32 figure → (e ≤ most_exponent) × ((tank < 10) × (w.at + answer_room ≤ length w.out.now))
      → Line (labelled (ascii "answer ") tank ∷ ascii " " ∷ fixed_point e figure ∷ line_feed ∷ []) answer_room w
  unfolding answer_line
  answer_pieces e tank figure f h =
      line _ _ w (length_answer_line e tank figure h.0 h.1.0 (lt_of_le_of_lt (size_sfits {w = w32} f) (lit< tt))) h.1.1

  pub row_pieces : (row : ℕ) (residual : ℤ) (reach : ℕ) → SFits w64 residual → Fits w64 reach → (row < 10) × (w.at + room_of_row ≤ length w.out.now)
      → Line (labelled (ascii "row ") row ∷ ascii " residual " ∷ signed_decimal residual ∷ labelled (ascii " reach ") reach ∷ line_feed ∷ []) room_of_row w
  unfolding row_line
  row_pieces row residual reach f g h =
      line _ _ w
      (length_row_line row residual reach h.0 (lt_of_le_of_lt (size_sfits {w = w64} f) (lit< tt)) (lt_of_lt_of_le g.fits (lit≤ tt))) h.1

  pub factor_pieces : (lacks : Bool) (row : ℕ) → Fits w64 row → w.at + factor_room ≤ length w.out.now
      → Line (labelled (factor_word lacks) row ∷ line_feed ∷ []) factor_room w
  unfolding factor_line
  factor_pieces lacks row f h = line _ _ w (length_factor_line lacks row (lt_of_lt_of_le f.fits (lit≤ tt))) h

  pub refusal_pieces : (number : ℕ) → Room (refusal_text number) w.at w.out.now → Pieces [] (labelled (ascii "refused ") number ∷ line_feed ∷ []) w w
  unfolding refusal_text
  refusal_pieces number h = pieces_begun (record { room = h })

-- ---- the loop that writes n lines

module _ {limit : ℕ} {line : ℕ → List ℕ} {n : ℕ} {first now : TextWriter} {i : ℕ} (r : Run limit line n first now i) where
  pub lines_turn : {after : TextWriter} → i < n → WroteWithin limit (line i) now after → Run limit line n first after (i + 1)
  lines_turn h v = run_one_more r h v.short v.wrote

  pub lines_ended : n ≤ i → WroteWithin (n * limit) (run n line) first now
  lines_ended h = let e = run_ended r.running h in record { short = e.short; wrote = record { same = r.same; wrote = e.wrote } }

-- ---- the whole text

pub text_written : {n : ℕ} {verdict answers rows factor : List ℕ} {w₀ w₁ w₂ w₃ w₄ : TextWriter} → n ≤ most_tanks → w₀.at + text_room ≤ length w₀.out.now
    → WroteWithin verdict_room verdict w₀ w₁ → WroteWithin (n * answer_room) answers w₁ w₂ → WroteWithin (n * room_of_row) rows w₂ w₃ → WroteWithin factor_room factor w₃ w₄
    → Writes (concat (verdict ∷ answers ∷ rows ∷ factor ∷ [])) w₀ w₄
text_written {n} {verdict} {answers} {rows} {factor} {w₀} few enough v a r f =
    let texts : List (List ℕ) = verdict ∷ answers ∷ rows ∷ factor ∷ [] in
    let short = length_concat texts (verdict_room ∷ n * answer_room ∷ n * room_of_row ∷ factor_room ∷ []) (some v.short (some a.short (some r.short (some f.short none)))) in
    let room : HasRoom (concat texts) w₀ = record { room = record { room = omega (arith, short) } } in
    let begun : Pieces [] texts w₀ w₀ = pieces_begun room in
    (piece_written (piece_written (piece_written (piece_written begun v.wrote) a.wrote) r.wrote) f.wrote).wrote
