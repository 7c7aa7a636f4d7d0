-- Worked cases, by computation on the definitions: the case that document 01 prints, the longest case, and spoiled inputs with their refusals.
-- Assumes nothing.
use Rattle.std.specs.Prelude.{ℕ, ◌+◌, pos, negsuc, length, take, drop, List, [], ◌∷◌, ◌++◌, map, ◌≡◌, refl}
use Rattle.buffer.specs.Buffer.{all}
use Rattle.rows.specs.Block.{split}
use Rattle.outcome.specs.declared.Refusal.TheVariants.{FieldMissing, WrongTag, WrongLength, ValueCutShort, OutsideLimits, TrailingBytes}
use Rattle.bigendian.specs.Number.{be, be_bytes}
use Rattle.figures.specs.Figures.{i16_kind, items, spread}
use Rattle.fields.specs.Due.{end_status}
use Rattle.fields.specs.Field.{header_size, field, field_status}
use Rattle.casefile.specs.Case.{Case, case_of_lists, rows_fine}
use Rattle.casefile.specs.Decode.{head_status, row_of, row_status, rows_status, trial_status, trial_of, tail_status, input_status, case_of, Decoded, accepted, refused, decode}
use Rattle.casefile.specs.Layout.{rows_at, longest_case, row_bytes, encode}

-- `01 0003 01 01 01 02 000C 0005 0000 FFFFFFFE 00000000 FF 0000`
abbrev pub printed_bytes : List ℕ
printed_bytes =
    0x01 ∷ 0x00 ∷ 0x03 ∷ 0x01 ∷ 0x01 ∷ 0x01
    ∷ 0x02 ∷ 0x00 ∷ 0x0C ∷ 0x00 ∷ 0x05 ∷ 0x00 ∷ 0x00 ∷ 0xFF ∷ 0xFF ∷ 0xFF ∷ 0xFE ∷ 0x00 ∷ 0x00 ∷ 0x00 ∷ 0x00
    ∷ 0xFF ∷ 0x00 ∷ 0x00
    ∷ []

abbrev printed_case : Case
printed_case = case_of_lists 1 1 1 (pos 5 ∷ []) (0 ∷ []) (negsuc 1 ∷ []) (0 ∷ []) []

-- eight rows, and the trial that the case brings
abbrev long : List ℕ
long =
    1 ∷ 0 ∷ 3 ∷ 8 ∷ 3 ∷ 0 ∷ 2 ∷ 0 ∷ 40 ∷ 0 ∷ 0 ∷ 252 ∷ 247 ∷ 249 ∷ 238 ∷ 246 ∷ 229 ∷ 243 ∷ 220 ∷ 240 ∷ 211 ∷ 237 ∷ 202 ∷ 234
    ∷ 193 ∷ 0 ∷ 0 ∷ 0 ∷ 0 ∷ 0 ∷ 0 ∷ 0 ∷ 0 ∷ 0 ∷ 0 ∷ 0 ∷ 0 ∷ 0 ∷ 0 ∷ 0 ∷ 0 ∷ 0 ∷ 15 ∷ 66 ∷ 64 ∷ 0 ∷ 0 ∷ 0
    ∷ 0 ∷ 2 ∷ 0 ∷ 40 ∷ 3 ∷ 232 ∷ 0 ∷ 223 ∷ 253 ∷ 214 ∷ 250 ∷ 205 ∷ 247 ∷ 196 ∷ 244 ∷ 187 ∷ 241 ∷ 178 ∷ 238 ∷ 169 ∷ 0 ∷ 0 ∷ 0 ∷ 1
    ∷ 0 ∷ 2 ∷ 0 ∷ 3 ∷ 0 ∷ 4 ∷ 0 ∷ 5 ∷ 0 ∷ 6 ∷ 0 ∷ 7 ∷ 0 ∷ 0 ∷ 0 ∷ 1 ∷ 0 ∷ 0 ∷ 48 ∷ 57 ∷ 2 ∷ 0 ∷ 40 ∷ 7
    ∷ 208 ∷ 4 ∷ 199 ∷ 1 ∷ 190 ∷ 254 ∷ 181 ∷ 251 ∷ 172 ∷ 248 ∷ 163 ∷ 245 ∷ 154 ∷ 242 ∷ 145 ∷ 0 ∷ 0 ∷ 0 ∷ 2 ∷ 0 ∷ 4 ∷ 0 ∷ 6 ∷ 0
    ∷ 8 ∷ 0 ∷ 10 ∷ 0 ∷ 12 ∷ 0 ∷ 14 ∷ 255 ∷ 240 ∷ 189 ∷ 194 ∷ 0 ∷ 0 ∷ 96 ∷ 114 ∷ 2 ∷ 0 ∷ 40 ∷ 11 ∷ 184 ∷ 8 ∷ 175 ∷ 5 ∷ 166
    ∷ 2 ∷ 157 ∷ 255 ∷ 148 ∷ 252 ∷ 139 ∷ 249 ∷ 130 ∷ 246 ∷ 121 ∷ 0 ∷ 0 ∷ 0 ∷ 3 ∷ 0 ∷ 6 ∷ 0 ∷ 9 ∷ 0 ∷ 12 ∷ 0 ∷ 15 ∷ 0 ∷ 18
    ∷ 0 ∷ 21 ∷ 255 ∷ 225 ∷ 123 ∷ 131 ∷ 0 ∷ 0 ∷ 144 ∷ 171 ∷ 2 ∷ 0 ∷ 40 ∷ 15 ∷ 160 ∷ 12 ∷ 151 ∷ 9 ∷ 142 ∷ 6 ∷ 133 ∷ 3 ∷ 124 ∷ 0
    ∷ 115 ∷ 253 ∷ 106 ∷ 250 ∷ 97 ∷ 0 ∷ 0 ∷ 0 ∷ 4 ∷ 0 ∷ 8 ∷ 0 ∷ 12 ∷ 0 ∷ 16 ∷ 0 ∷ 20 ∷ 0 ∷ 24 ∷ 0 ∷ 28 ∷ 255 ∷ 210 ∷ 57
    ∷ 68 ∷ 0 ∷ 0 ∷ 192 ∷ 228 ∷ 2 ∷ 0 ∷ 40 ∷ 19 ∷ 136 ∷ 16 ∷ 127 ∷ 13 ∷ 118 ∷ 10 ∷ 109 ∷ 7 ∷ 100 ∷ 4 ∷ 91 ∷ 1 ∷ 82 ∷ 254 ∷ 73
    ∷ 0 ∷ 0 ∷ 0 ∷ 5 ∷ 0 ∷ 10 ∷ 0 ∷ 15 ∷ 0 ∷ 20 ∷ 0 ∷ 25 ∷ 0 ∷ 30 ∷ 0 ∷ 35 ∷ 255 ∷ 194 ∷ 247 ∷ 5 ∷ 0 ∷ 0 ∷ 241 ∷ 29
    ∷ 2 ∷ 0 ∷ 40 ∷ 23 ∷ 112 ∷ 20 ∷ 103 ∷ 17 ∷ 94 ∷ 14 ∷ 85 ∷ 11 ∷ 76 ∷ 8 ∷ 67 ∷ 5 ∷ 58 ∷ 2 ∷ 49 ∷ 0 ∷ 0 ∷ 0 ∷ 6 ∷ 0
    ∷ 12 ∷ 0 ∷ 18 ∷ 0 ∷ 24 ∷ 0 ∷ 30 ∷ 0 ∷ 36 ∷ 0 ∷ 42 ∷ 255 ∷ 179 ∷ 180 ∷ 198 ∷ 0 ∷ 1 ∷ 33 ∷ 86 ∷ 2 ∷ 0 ∷ 40 ∷ 27 ∷ 88
    ∷ 24 ∷ 79 ∷ 21 ∷ 70 ∷ 18 ∷ 61 ∷ 15 ∷ 52 ∷ 12 ∷ 43 ∷ 9 ∷ 34 ∷ 6 ∷ 25 ∷ 0 ∷ 0 ∷ 0 ∷ 7 ∷ 0 ∷ 14 ∷ 0 ∷ 21 ∷ 0 ∷ 28
    ∷ 0 ∷ 35 ∷ 0 ∷ 42 ∷ 0 ∷ 49 ∷ 255 ∷ 164 ∷ 114 ∷ 135 ∷ 0 ∷ 1 ∷ 81 ∷ 143 ∷ 3 ∷ 0 ∷ 32 ∷ 255 ∷ 210 ∷ 57 ∷ 64 ∷ 255 ∷ 225 ∷ 123
    ∷ 128 ∷ 255 ∷ 240 ∷ 189 ∷ 192 ∷ 0 ∷ 0 ∷ 0 ∷ 0 ∷ 0 ∷ 15 ∷ 66 ∷ 64 ∷ 0 ∷ 30 ∷ 132 ∷ 128 ∷ 0 ∷ 45 ∷ 198 ∷ 192 ∷ 0 ∷ 61 ∷ 9
    ∷ 0 ∷ 255 ∷ 0 ∷ 0
    ∷ []

abbrev long_case : Case
long_case =
    case_of_lists 8 3 0
    (pos 0 ∷ negsuc 776 ∷ negsuc 1553 ∷ negsuc 2330 ∷ negsuc 3107 ∷ negsuc 3884 ∷ negsuc 4661 ∷ negsuc 5438
    ∷ pos 1000 ∷ pos 223 ∷ negsuc 553 ∷ negsuc 1330 ∷ negsuc 2107 ∷ negsuc 2884 ∷ negsuc 3661 ∷ negsuc 4438
    ∷ pos 2000 ∷ pos 1223 ∷ pos 446 ∷ negsuc 330 ∷ negsuc 1107 ∷ negsuc 1884 ∷ negsuc 2661 ∷ negsuc 3438
    ∷ pos 3000 ∷ pos 2223 ∷ pos 1446 ∷ pos 669 ∷ negsuc 107 ∷ negsuc 884 ∷ negsuc 1661 ∷ negsuc 2438
    ∷ pos 4000 ∷ pos 3223 ∷ pos 2446 ∷ pos 1669 ∷ pos 892 ∷ pos 115 ∷ negsuc 661 ∷ negsuc 1438
    ∷ pos 5000 ∷ pos 4223 ∷ pos 3446 ∷ pos 2669 ∷ pos 1892 ∷ pos 1115 ∷ pos 338 ∷ negsuc 438
    ∷ pos 6000 ∷ pos 5223 ∷ pos 4446 ∷ pos 3669 ∷ pos 2892 ∷ pos 2115 ∷ pos 1338 ∷ pos 561
    ∷ pos 7000 ∷ pos 6223 ∷ pos 5446 ∷ pos 4669 ∷ pos 3892 ∷ pos 3115 ∷ pos 2338 ∷ pos 1561
    ∷ [])
    (0 ∷ 0 ∷ 0 ∷ 0 ∷ 0 ∷ 0 ∷ 0 ∷ 0 ∷ 0 ∷ 1 ∷ 2 ∷ 3 ∷ 4 ∷ 5 ∷ 6 ∷ 7
    ∷ 0 ∷ 2 ∷ 4 ∷ 6 ∷ 8 ∷ 10 ∷ 12 ∷ 14 ∷ 0 ∷ 3 ∷ 6 ∷ 9 ∷ 12 ∷ 15 ∷ 18 ∷ 21
    ∷ 0 ∷ 4 ∷ 8 ∷ 12 ∷ 16 ∷ 20 ∷ 24 ∷ 28 ∷ 0 ∷ 5 ∷ 10 ∷ 15 ∷ 20 ∷ 25 ∷ 30 ∷ 35
    ∷ 0 ∷ 6 ∷ 12 ∷ 18 ∷ 24 ∷ 30 ∷ 36 ∷ 42 ∷ 0 ∷ 7 ∷ 14 ∷ 21 ∷ 28 ∷ 35 ∷ 42 ∷ 49
    ∷ [])
    (pos 1000000 ∷ pos 1 ∷ negsuc 999997 ∷ negsuc 1999996 ∷ negsuc 2999995 ∷ negsuc 3999994 ∷ negsuc 4999993 ∷ negsuc 5999992
    ∷ [])
    (0 ∷ 12345 ∷ 24690 ∷ 37035 ∷ 49380 ∷ 61725 ∷ 74070 ∷ 86415
    ∷ [])
    (negsuc 2999999 ∷ negsuc 1999999 ∷ negsuc 999999 ∷ pos 0 ∷ pos 1000000 ∷ pos 2000000 ∷ pos 3000000 ∷ pos 4000000
    ∷ [])

pub long_length : length long ≡ longest_case
long_length = refl

pub encodings : map encode (printed_case ∷ long_case ∷ []) ≡ printed_bytes ∷ long ∷ []
unfolding be_bytes spread field row_bytes split encode
encodings = refl

-- n 9
abbrev pub nine_tanks : List ℕ
nine_tanks = 0x01 ∷ 0x00 ∷ 0x03 ∷ 0x09 ∷ 0x01 ∷ 0x01 ∷ []

-- coefficient −32,768, 8000: the printed case with it
abbrev pub least_coefficient : List ℕ
least_coefficient = take (rows_at + header_size) printed_bytes ++ (0x80 ∷ 0x00 ∷ drop (rows_at + header_size + i16_kind.width) printed_bytes)

-- in the order of the answers below: printed; longest; nothing at all; an end field at the head's place; a head of length 4; a head whose value is
-- cut short; n 9; coefficient −32,768; a last field that is cut short; a byte behind the end field
abbrev inputs : List (List ℕ)
inputs =
    printed_bytes
    ∷ long
    ∷ []
    ∷ (255 ∷ 0 ∷ 0 ∷ [])
    ∷ (1 ∷ 0 ∷ 4 ∷ 1 ∷ 1 ∷ 1 ∷ 0 ∷ [])
    ∷ (1 ∷ 0 ∷ 3 ∷ 1 ∷ 1 ∷ [])
    ∷ nine_tanks
    ∷ least_coefficient
    ∷ take 22 printed_bytes
    ∷ (long ++ (0 ∷ []))
    ∷ []

abbrev answers : List Decoded
answers =
    accepted printed_case
    ∷ accepted long_case
    ∷ refused FieldMissing
    ∷ refused WrongTag
    ∷ refused WrongLength
    ∷ refused ValueCutShort
    ∷ refused OutsideLimits
    ∷ refused OutsideLimits
    ∷ refused FieldMissing
    ∷ refused TrailingBytes
    ∷ []

pub decodings : map decode inputs ≡ answers
unfolding be items all rows_fine field_status head_status row_of row_status rows_status trial_status trial_of end_status tail_status input_status case_of decode
decodings = refl
