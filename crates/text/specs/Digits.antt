-- Numbers by their digits (docs/CALLS.md, Lines and words). Definitions only.
use Rattle.std.specs.Prelude.{cond, List, [], ◌∷◌, ◌++◌, ℕ, zero, suc, ◌+◌, ◌/◌, ◌%◌, ltb}

-- a digit's character: 0 to 9, then a to f
abbrev pub digit_char : ℕ → ℕ
digit_char d = cond (ltb d 10) (48 + d) (87 + d)

-- the division rule: the digits of n / 10, then that of n % 10; k bounds their number
unfoldable pub decimal_by : ℕ → ℕ → List ℕ
decimal_by zero n = digit_char n ∷ []
decimal_by (suc k) n = cond (ltb n 10) (digit_char n ∷ []) (decimal_by k (n / 10) ++ (digit_char (n % 10) ∷ []))

-- N: decimal digits, with no leading zero
unfoldable pub decimal : ℕ → List ℕ
decimal n = decimal_by n n

-- the lowest k hexadecimal digits of n, all of them written
unfoldable pub hex_digits : ℕ → ℕ → List ℕ
hex_digits zero n = []
hex_digits (suc k) n = hex_digits k (n / 16) ++ (digit_char (n % 16) ∷ [])

-- a byte's two digits
abbrev pub pair : ℕ → List ℕ
pair b = digit_char (b / 16) ∷ digit_char (b % 16) ∷ []
