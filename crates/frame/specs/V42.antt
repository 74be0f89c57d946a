-- ITU-T V.42, 8.1.1.6.2: the 32-bit frame check sequence by the Recommendation's own rule, division of polynomials modulo 2. Definitions only.
-- A polynomial is the list of its coefficients, 0 or 1, the highest power's first.
use Rattle.std.specs.Prelude.{List, [], ◌∷◌, ◌++◌, ℕ, zero, suc, ◌+◌, ◌-◌, ◌*◌, ◌/◌, ◌%◌, length, replicate}

-- the generator, x^32 + x^26 + x^23 + x^22 + x^16 + x^12 + x^11 + x^10 + x^8 + x^7 + x^5 + x^4 + x^2 + x + 1: its coefficients from x^31 down
abbrev pub generator : List ℕ
generator =
    0 ∷ 0 ∷ 0 ∷ 0 ∷ 0 ∷ 1 ∷ 0 ∷ 0 ∷ 1 ∷ 1 ∷ 0 ∷ 0 ∷ 0 ∷ 0 ∷ 0 ∷ 1 ∷ 0 ∷ 0 ∷ 0 ∷ 1 ∷ 1 ∷ 1 ∷ 0 ∷ 1 ∷ 1 ∷ 0 ∷ 1 ∷ 1 ∷ 0 ∷ 1 ∷ 1 ∷ 1 ∷ []

-- the sum modulo 2 of two polynomials whose highest powers are the same
unfoldable pub plus : List ℕ → List ℕ → List ℕ
plus [] q = q
plus (a ∷ p) [] = a ∷ p
plus (a ∷ p) (b ∷ q) = (a + b) % 2 ∷ plus p q

-- the polynomial times a coefficient
unfoldable pub times : ℕ → List ℕ → List ℕ
times a [] = []
times a (b ∷ q) = a * b ∷ times a q

-- n steps of the long division by the generator: the leading coefficient goes, and with it so many times the generator
unfoldable pub divide : ℕ → List ℕ → List ℕ
divide zero p = p
divide (suc n) [] = []
divide (suc n) (a ∷ p) = divide n (plus p (times a generator))

-- a number's low n bits, the lowest first: the order of transmission (8.1.2.2)
unfoldable pub bits : ℕ → ℕ → List ℕ
bits zero v = []
bits (suc n) v = v % 2 ∷ bits n (v / 2)

-- the content of the frame: the bits of its bytes, one byte after the other
unfoldable pub content : List ℕ → List ℕ
content [] = []
content (b ∷ bs) = bits 8 b ++ content bs

-- the ones complement
unfoldable pub complement : List ℕ → List ℕ
complement [] = []
complement (a ∷ p) = (1 - a) ∷ complement p

-- the ones complement of the sum modulo 2 of a) the remainder of x^k (x^31 + x^30 + .. + x + 1), k the number of bits of the content,
-- and b) the remainder of x^32 times the content
unfoldable pub fcs : List ℕ → List ℕ
fcs bs =
    let k = length (content bs) in
    complement (plus (divide k (replicate 32 1 ++ replicate k 0)) (divide k (content bs ++ replicate 32 0)))

-- the check sequence as a number: the highest power's coefficient is sent first (8.1.2.3), so it is the lowest bit
unfoldable pub number : List ℕ → ℕ
number [] = 0
number (a ∷ p) = a + 2 * number p
