-- roundTiesToEven by the words of IEEE 754-2019, for a binary format of p digits whose largest exponent is emax
-- (table 3.5: binary32 has 24 and 127, binary64 has 53 and 1023). Definitions only.
-- An exact result is a sign and a fraction a / d of natural numbers. A magnitude of the format is counted in the format's smallest one,
-- 2 ^ -`lowest`. Of the kit only the data are used, `nan`, `inf` and `fin`, with 2 ^ e = up e / down e: not its `round` or `fits`.
use Rattle.std.specs.Prelude.{◌≡◌, ◌⊎◌, ℕ, suc, ◌+◌, ◌-◌, ◌*◌, ◌%◌, ◌^◌, ◌≤◌, ◌<◌, Bool, true, false, cond, ltb, Float}
use Rattle.std.specs.Float.{nan, inf, fin}
use Rattle.std.specs.Float.Ieee.{up, down}

-- |a - b|
abbrev pub dist : ℕ → ℕ → ℕ
dist a b = (a - b) + (b - a)

-- the sign of a - b, where that is exactly zero z
abbrev pub sign_of : ℕ → ℕ → Bool → Bool
sign_of a b z = cond (ltb b a) false (cond (ltb a b) true z)

-- (-1)^s a is `positive_part` - `negative_part`
abbrev pub positive_part : Bool → ℕ → ℕ
positive_part s a = cond s 0 a

abbrev pub negative_part : Bool → ℕ → ℕ
negative_part s a = cond s a 0

module _ (p emax : ℕ) where
  -- 3.3: "emin shall be 1 - emax", so the least q is emin - p + 1 = -(emax + p - 2)
  abbrev pub lowest : ℕ
  lowest = emax + p - 2

  -- 3.3: "(-1)^s × b^q × c", where q is "any integer emin ≤ q + p - 1 ≤ emax" and c "an integer with 0 ≤ c < b^p".
  -- Here j is q + lowest, so at most 2 emax - 1, and v is the magnitude.
  pub record Written (v c j : ℕ) : Type 0 where
    pub digits : c < 2 ^ p
    pub exponent : j < 2 * emax
    pub magnitude : v ≡ c * 2 ^ j

  abbrev pub FormatNumber : ℕ → Type 0
  FormatNumber v = (c : ℕ) × (j : ℕ) × Written v c j

  -- "an even least significant digit": c is written with all p digits, the first of them not 0 but where the exponent is the least
  -- (3.4: a subnormal number), and it is even
  abbrev pub Even : ℕ → Type 0
  Even v = (c : ℕ) × (j : ℕ) × Written v c j × ((j ≡ 0) ⊎ (2 ^ (p - 1) ≤ c)) × (c % 2 ≡ 0)

  -- how far v is from a / d, times d
  abbrev pub off : ℕ → ℕ → ℕ → ℕ
  off a d v = dist (a * 2 ^ lowest) (v * d)

  -- 4.3.1: "the floating-point number nearest to the infinitely precise result shall be delivered; if the two nearest floating-point
  -- numbers bracketing an unrepresentable infinitely precise result are equally near, the one with an even least significant digit shall
  -- be delivered". (One of the two has such a digit for every p but 1.)
  pub record Nearest (a d v : ℕ) : Type 0 where
    pub number : FormatNumber v
    pub nearest : (w : ℕ) → FormatNumber w → off a d v ≤ off a d w
    pub tie : (w : ℕ) → FormatNumber w → (w ≡ v → ⊥) → off a d w ≡ off a d v → Even v

  -- 4.3.1: "an infinitely precise result with magnitude at least b^emax (b - ½ b^(1-p)) shall round to ∞ with no change in sign".
  -- With b = 2 the bound is 2^emax (2^(p+1) - 1) / 2^p.
  abbrev pub Overflows : ℕ → ℕ → Type 0
  Overflows a d = 2 ^ emax * (2 ^ suc p - 1) * d ≤ a * 2 ^ p

  -- the datum x is (-1)^s times v of the smallest magnitudes
  abbrev pub Datum : Float → Bool → ℕ → Type 0
  Datum nan s v = ⊥
  Datum (inf t) s v = ⊥
  Datum (fin t m e) s v = (t ≡ s) × (m * up e * 2 ^ lowest ≡ v * down e)

  -- x is (-1)^s a / d, rounded
  pub data Rounded (s : Bool) (a d : ℕ) (x : Float) : Type 0 where
    infinite : Overflows a d → x ≡ inf s → Rounded s a d x
    finite : (Overflows a d → ⊥) → (v : ℕ) → Nearest a d v → Datum x s v → Rounded s a d x

  -- x is (-1)^s a / d + (-1)^t b / d, rounded. z is the sign of a sum that is exactly zero.
  abbrev pub Sum : Bool → ℕ → Bool → ℕ → ℕ → Bool → Float → Type 0
  Sum s a t b d z x =
      let plus = positive_part s a + positive_part t b in
      let minus = negative_part s a + negative_part t b in
      Rounded (sign_of plus minus z) (dist plus minus) d x

-- 4.3.2, roundTowardZero: "closest to and no greater in magnitude than the infinitely precise result", for a whole number c and the
-- magnitude a / d
pub record TowardZero (a d c : ℕ) : Type 0 where
  pub no_more : c * d ≤ a
  pub closest : a < suc c * d
