-- The words of docs/CALLS.md: which lists of characters are such a word, and the number that it means. Definitions only.
use Rattle.std.specs.Prelude.{Bool, true, false, cond, ◌&&◌, List, [], ◌∷◌, ℕ, ◌+◌, ◌-◌, ◌*◌, ◌/◌, ◌%◌, leb, ltb, eqb, length, get_or, drop}
use Rattle.std.specs.Prelude.{Option, Some, None, is_some, option_and_then}
use Rattle.std.specs.Str.{bytes_eq}
use Rattle.laws.specs.Bytes.{overwrite}
use Rattle.laws.specs.Text.{text}

-- ---- digits

-- 0 to 9 and a to f; 16 for another character
unfoldable pub digit_value : ℕ → ℕ
digit_value c = cond (ltb c 48) 16 (cond (leb c 57) (c - 48) (cond (ltb c 97) 16 (cond (leb c 102) (c - 87) 16)))

-- A to F too
unfoldable pub any_digit : ℕ → ℕ
any_digit c = cond (ltb c 65) (digit_value c) (cond (leb c 70) (c - 55) (digit_value c))

-- one digit more of a number to the base b; a number above 2^64 - 1 is none
unfoldable pub one_digit_more : ℕ → ℕ → ℕ → Option ℕ
one_digit_more b n c =
    cond (ltb (any_digit c) b && leb (n * b + any_digit c) 18446744073709551615) (Some (n * b + any_digit c)) None

-- the digits after those that gave n
unfoldable pub spelled : ℕ → ℕ → List ℕ → Option ℕ
spelled b n [] = Some n
spelled b n (c ∷ w) = option_and_then (λ v. spelled b v w) (one_digit_more b n c)

-- ---- the words

-- two words are the same
abbrev pub same : List ℕ → List ℕ → Bool
same = bytes_eq

-- N: decimal digits, 0 to 2^64 - 1, leading zeros allowed
unfoldable pub decimal_of : List ℕ → Option ℕ
decimal_of w = cond (eqb (length w) 0) None (spelled 10 0 w)

-- F32 and F64: `0x` and 8 or 16 hexadecimal digits of either case
unfoldable pub bits_of : ℕ → List ℕ → Option ℕ
bits_of n w = cond (eqb (length w) (n + 2) && (eqb (get_or w 0 0) 48 && eqb (get_or w 1 0) 120)) (spelled 16 0 (drop 2 w)) None

-- B: `0` or `1`
unfoldable pub flag_of : List ℕ → Option ℕ
flag_of w = cond (eqb (length w) 1) (cond (eqb (get_or w 0 0) 48) (Some 0) (cond (eqb (get_or w 0 0) 49) (Some 1) None)) None

-- the word `name`, for which `value` stands
unfoldable pub named_of : List ℕ → ℕ → List ℕ → Option ℕ
named_of name value w = cond (same w name) (Some value) None

-- the word `none`: above every number that a field keeps
abbrev pub none_of : List ℕ → Option ℕ
none_of = named_of (text "none") 18446744073709551615

-- the first of two readings that there is
abbrev pub or_else : Option ℕ → Option ℕ → Option ℕ
or_else (Some n) b = Some n
or_else None b = b

-- ---- HEX: pairs of lower-case hexadecimal digits, or `-` for no bytes

-- all are digits
unfoldable pub digits : List ℕ → Bool
digits [] = true
digits (c ∷ w) = ltb (digit_value c) 16 && digits w

-- each pair's byte
unfoldable pub pair_bytes : List ℕ → List ℕ
pair_bytes [] = []
pair_bytes (h ∷ []) = []
pair_bytes (h ∷ l ∷ w) = (digit_value h % 16 * 16 + digit_value l % 16) ∷ pair_bytes w

-- the number of bytes, `room` at most
unfoldable pub hex_count : ℕ → List ℕ → Option ℕ
hex_count room w =
    cond (same w (45 ∷ [])) (Some 0)
    (cond (((digits w && eqb (length w % 2) 0) && ltb 0 (length w)) && leb (length w / 2) room) (Some (length w / 2)) None)

-- a word's bytes at the start of what is lent for them, which stays as it was where the word is not HEX
unfoldable pub hex_into : List ℕ → List ℕ → List ℕ
hex_into bytes w = cond (is_some (hex_count (length bytes) w)) (overwrite bytes 0 (pair_bytes w)) bytes
