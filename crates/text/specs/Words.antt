-- The words of a transcript, each with the space before it (docs/CALLS.md). Definitions only.
use Rattle.std.specs.Prelude.{Bool, cond, Option, None, Some, List, [], ◌∷◌, ◌++◌, ℕ, Float}
use Rattle.std.specs.Float.{Format, binary32, binary64}
use Rattle.std.specs.Float.Ieee.{of_bits, to_bits, eq, ne}
use Rattle.text.specs.Buffer.{each}
use Rattle.laws.specs.Text.{text}
use Rattle.text.specs.Digits.{decimal, hex_digits, pair}

-- N
unfoldable pub number_word : ℕ → List ℕ
number_word n = text " " ++ decimal n

-- B
unfoldable pub flag_word : Bool → List ℕ
flag_word b = cond b (text " 1") (text " 0")

abbrev pub none_word : List ℕ
none_word = text " none"

-- a word, or "none" where the test fails
abbrev pub maybe : Bool → List ℕ → List ℕ
maybe set w = cond set w none_word

-- a value's word, or "none" where there is no value
abbrev pub maybe_word : {A : Type 0} → (A → List ℕ) → Option A → List ℕ
maybe_word word None = none_word
maybe_word word (Some x) = word x

-- "floats by their bits in lower case, a NaN as `nan`, either zero by the bits of +0": a float of 4 k bits
abbrev pub float : Format → ℕ → Float → List ℕ
float f k x = cond (ne x x) (text " nan") (text " 0x" ++ hex_digits k (cond (eq x (of_bits f 0)) 0 (to_bits f x)))

-- F32
unfoldable pub single_word : Float → List ℕ
single_word x = float binary32 8 x

-- F64
unfoldable pub double_word : Float → List ℕ
double_word x = float binary64 16 x

-- HEX
unfoldable pub hex : List ℕ → List ℕ
hex [] = text " -"
hex (b ∷ bs) = text " " ++ each pair (b ∷ bs)

-- a number after a colon
unfoldable pub after_colon : ℕ → List ℕ
after_colon n = text ":" ++ decimal n
