-- Laws of digits and words: the last digit of a number, a float by the two tests, HEX; and examples.
-- Assumes nothing.
use mathlib.Core.Path.{◌≡◌, refl, sym, ap}
use mathlib.Core.Bool.{Bool, true, false, cond}
use mathlib.Core.List.{List, [], ◌∷◌, ◌++◌}
use Prim.Native.Nat.{ℕ, zero, suc, ◌-◌, ◌/◌, ◌%◌, ◌≤◌, ◌<◌}
use native.Mathlib.Nat.{le_refl}
use native.Mathlib.Omega.{arith}
use lib.Dec.{ltb}
use lib.ListN.{length}
use borrow.Author.Tests.{lt-ltb, le-ltb, ltb-false}
use Rattle.text.specs.Buffer.{each}
use Rattle.laws.specs.Text.{text}
use Rattle.text.specs.Digits.{digit_char, decimal_by, decimal, hex_digits, pair}
use Rattle.text.specs.Words.{hex, float}
use lib.Ieee.{Float, Format, of_bits, to_bits, eq, ne}

-- more rounds than the number change nothing
decimal-same : (k j n : ℕ) → n ≤ k → n ≤ j → decimal_by k n ≡ decimal_by j n
unfolding decimal_by
decimal-same zero zero n h i = refl
decimal-same zero (suc j) n h i =
    let e : n < 10 = omega arith in
    rw (lt-ltb n 10 e)
decimal-same (suc k) zero n h i =
    let e : n < 10 = omega arith in
    rw (lt-ltb n 10 e)
decimal-same (suc k) (suc j) n h i = go (ltb n 10) refl (λ l. decimal-same k j (n / 10) (omega arith) (omega arith))
  where
    go : (b : Bool) → ltb n 10 ≡ b → (10 ≤ n → decimal_by k (n / 10) ≡ decimal_by j (n / 10))
        → cond b (digit_char n ∷ []) (decimal_by k (n / 10) ++ (digit_char (n % 10) ∷ []))
        ≡ cond b (digit_char n ∷ []) (decimal_by j (n / 10) ++ (digit_char (n % 10) ∷ []))
    go true e f = refl
    go false e f = ap (λ (s : List ℕ). s ++ (digit_char (n % 10) ∷ [])) (f (ltb-false n 10 e))

pub decimal-one : (n : ℕ) → n < 10 → decimal n ≡ digit_char n ∷ []
unfolding decimal decimal_by
decimal-one zero h = refl
decimal-one (suc k) h = rw (lt-ltb (suc k) 10 h)

pub decimal-more : (n : ℕ) → 10 ≤ n → decimal n ≡ decimal (n / 10) ++ (digit_char (n % 10) ∷ [])
unfolding decimal decimal_by
decimal-more zero h = absurd (omega arith)
decimal-more (suc k) h =
    rw (le-ltb (suc k) 10 h)
    (ap (λ (s : List ℕ). s ++ (digit_char (suc k % 10) ∷ [])) (decimal-same k (suc k / 10) (suc k / 10) (omega arith) (le_refl _)))

pub hex-none : (n : ℕ) → hex_digits 0 n ≡ []
unfolding hex_digits
hex-none n = refl

pub hex-more : (k n : ℕ) → 0 < k → hex_digits k n ≡ hex_digits (k - 1) (n / 16) ++ (digit_char (n % 16) ∷ [])
unfolding hex_digits
hex-more zero n h = absurd (omega arith)
hex-more (suc k) n h =
    let e : suc k - 1 ≡ k = omega arith in
    ap (λ (i : ℕ). hex_digits i (n / 16) ++ (digit_char (n % 16) ∷ [])) (sym e)

-- a byte's
pub hex-pair : (b : ℕ) → b < 256 → hex_digits 2 b ≡ pair b
unfolding hex_digits
hex-pair b h =
    let e : b / 16 % 16 ≡ b / 16 = omega arith in
    ap (λ (d : ℕ). digit_char d ∷ digit_char (b % 16) ∷ []) e

-- ---- a float's word by the two tests and what `pattern` gives, which is m for NaN
pub float-told : (f : Format) (k : ℕ) (x : Float) (m : ℕ) {r : ℕ} → r ≡ cond (ne x x) m (to_bits f x)
    → cond (ne x x) (text " nan") (text " 0x" ++ hex_digits k (cond (eq x (of_bits f 0)) 0 r)) ≡ float f k x
float-told f k x m p = rw p (go (ne x x))
  where
    go : (b : Bool) → cond b (text " nan") (text " 0x" ++ hex_digits k (cond (eq x (of_bits f 0)) 0 (cond b m (to_bits f x))))
        ≡ cond b (text " nan") (text " 0x" ++ hex_digits k (cond (eq x (of_bits f 0)) 0 (to_bits f x)))
    go true = refl
    go false = refl

-- ---- HEX

pub hex-empty : (s : List ℕ) → length s ≡ 0 → hex s ≡ text " -"
unfolding hex
hex-empty [] e = refl
hex-empty (b ∷ s) e = absurd (omega arith)

pub hex-some : (s : List ℕ) → (length s ≡ 0 → ⊥) → hex s ≡ text " " ++ each pair s
unfolding hex
hex-some [] h = absurd (h refl)
hex-some (b ∷ s) h = refl

-- ---- examples

small : decimal 7 ≡ text "7"
unfolding decimal decimal_by
small = refl

zeros : decimal 1000 ≡ text "1000"
unfolding decimal decimal_by
zeros = refl

lowest : hex_digits 8 0xdeadbeef ≡ text "deadbeef"
unfolding hex_digits
lowest = refl
