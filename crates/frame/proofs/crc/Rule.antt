-- The check sum byte by byte is V.42's: `crc32 bs ≡ number (fcs bs)`. And the published check value.
-- Assumes nothing.
use mathlib.Core.Path.{◌≡◌, refl, sym, ap, ap₂, ◌∙◌}
use mathlib.Core.List.{List, [], ◌∷◌, ◌++◌}
use Prim.Native.Nat.{ℕ, zero, suc, ◌+◌, ◌*◌, ◌/◌, ◌%◌, ◌^◌, ◌≤◌, ◌<◌}
use native.Mathlib.Nat.{not-suc-le-zero, le_of_suc-le-suc, add_comm, two-pow-succ}
use native.Mathlib.Omega.{arith}
use lib.Dec.{T, ltb, ltb→lt, lit<}
use lib.Ieee.Fits.{and_l, and_r}
use lib.ListN.{length, replicate, length-append, length-replicate}
use lib.Bits.{bit_xor, differ, xor_step, xor_zero_r}
use Rattle.laws.specs.Little.{num}
use Rattle.laws.specs.Bytes.{Bytes}
use Rattle.laws.proofs.Tables.{passes}
use Rattle.frame.specs.V42.{generator, plus, times, divide, bits, content, complement, fcs, number}
use Rattle.frame.specs.Crc.{poly, shift, shifts, feed_bytes, crc32}
use Rattle.frame.proofs.crc.Laws.{shifts-xor, feed-shifts}

-- every coefficient is 0 or 1
abbrev pub Coefficients : List ℕ → Type 0
Coefficients [] = Unit {0}
Coefficients (a ∷ p) = (a < 2) × Coefficients p

-- ---- the sum of polynomials is the exclusive or of their numbers

sum-differ : (a b : ℕ) → a < 2 → b < 2 → (a + b) % 2 ≡ differ a b
sum-differ zero zero h g = refl
sum-differ zero (suc zero) h g = refl
sum-differ zero (suc (suc b)) h g = absurd (omega arith)
sum-differ (suc zero) zero h g = refl
sum-differ (suc zero) (suc zero) h g = refl
sum-differ (suc zero) (suc (suc b)) h g = absurd (omega arith)
sum-differ (suc (suc a)) b h g = absurd (omega arith)

half : (a n : ℕ) → a < 2 → (a + 2 * n) / 2 ≡ n
half a n h = omega arith

odd : (a n : ℕ) → a < 2 → (a + 2 * n) % 2 ≡ a
odd a n h = omega arith

number-plus : (p q : List ℕ) → Coefficients p → Coefficients q → number (plus p q) ≡ bit_xor (number p) (number q)
unfolding plus number
number-plus [] q h g = refl
number-plus (a ∷ p) [] h g = sym (xor_zero_r (a + 2 * number p))
number-plus (a ∷ p) (b ∷ q) h g =
    let x = a + 2 * number p in
    let y = b + 2 * number q in
    let e : bit_xor x y ≡ bit_xor (number p) (number q) * 2 + differ a b =
    xor_step x y
    ∙ ap₂ (λ (u v : ℕ). u * 2 + v) (ap₂ bit_xor (half a (number p) h.0) (half b (number q) g.0)) (ap₂ differ (odd a (number p) h.0) (odd b (number q) g.0)) in
    omega (arith, e, number-plus p q h.1 g.1, sum-differ a b h.0 g.0)

plus-coefficients : (p q : List ℕ) → Coefficients p → Coefficients q → Coefficients (plus p q)
unfolding plus
plus-coefficients [] q h g = g
plus-coefficients (a ∷ p) [] h g = h
plus-coefficients (a ∷ p) (b ∷ q) h g = (omega arith, plus-coefficients p q h.1 g.1)

length-plus : (p q : List ℕ) → length q ≤ length p → length (plus p q) ≡ length p
unfolding plus
length-plus [] [] h = refl
length-plus [] (b ∷ q) h = absurd (not-suc-le-zero h)
length-plus (a ∷ p) [] h = refl
length-plus (a ∷ p) (b ∷ q) h = ap suc (length-plus p q (le_of_suc-le-suc h))

-- ---- a step of the division is a shift

one : 1 < 2
one = lit< tt

nought : 0 < 2
nought = lit< tt

times-coefficients : (a : ℕ) (q : List ℕ) → a < 2 → Coefficients q → Coefficients (times a q)
unfolding times
times-coefficients a [] h g = tt
times-coefficients zero (b ∷ q) h g = (omega arith, times-coefficients zero q h g.1)
times-coefficients (suc zero) (b ∷ q) h g = (omega arith, times-coefficients (suc zero) q h g.1)
times-coefficients (suc (suc a)) (b ∷ q) h g = absurd (omega arith)

tested : (p : List ℕ) → T (passes (λ (a : ℕ). ltb a 2) p) → Coefficients p
tested [] t = tt
tested (a ∷ p) t =
    let rest = passes (λ (x : ℕ). ltb x 2) p in
    (ltb→lt a 2 (and_l (ltb a 2) rest t), tested p (and_r (ltb a 2) rest t))

generator-coefficients : Coefficients generator
generator-coefficients = tested generator tt

number-times : (a : ℕ) → a < 2 → number (times a generator) ≡ a * poly
unfolding number times
number-times zero h = refl
number-times (suc zero) h = refl
number-times (suc (suc a)) h = absurd (omega arith)

length-times : (a : ℕ) (q : List ℕ) → length (times a q) ≡ length q
unfolding times
length-times a [] = refl
length-times a (b ∷ q) = ap suc (length-times a q)

shifts-zero : (n : ℕ) → shifts n 0 ≡ 0
unfolding shifts shift
shifts-zero zero = refl
shifts-zero (suc n) = shifts-zero n

number-divide : (n : ℕ) (p : List ℕ) → Coefficients p → number (divide n p) ≡ shifts n (number p)
unfolding divide number shifts shift
number-divide zero p h = refl
number-divide (suc n) [] h = sym (shifts-zero n)
number-divide (suc n) (a ∷ p) h =
    let g = times-coefficients a generator h.0 generator-coefficients in
    number-divide n (plus p (times a generator)) (plus-coefficients p (times a generator) h.1 g)
    ∙ ap (shifts n) (number-plus p (times a generator) h.1 g
    ∙ ap₂ bit_xor (sym (half a (number p) h.0)) (number-times a h.0 ∙ ap (λ (x : ℕ). x * poly) (sym (odd a (number p) h.0))))

divide-coefficients : (n : ℕ) (p : List ℕ) → Coefficients p → Coefficients (divide n p)
unfolding divide
divide-coefficients zero p h = h
divide-coefficients (suc n) [] h = tt
divide-coefficients (suc n) (a ∷ p) h =
    divide-coefficients n (plus p (times a generator))
    (plus-coefficients p (times a generator) h.1 (times-coefficients a generator h.0 generator-coefficients))

length-divide : (n : ℕ) (p : List ℕ) → length p ≡ n + 32 → length (divide n p) ≡ 32
unfolding divide
length-divide zero p e = e
length-divide (suc n) [] e = absurd (omega arith)
length-divide (suc n) (a ∷ p) e =
    let h : length (times a generator) ≤ length p = omega (arith, length-times a generator) in
    length-divide n (plus p (times a generator)) (omega (arith, length-plus p (times a generator) h))

-- ---- the polynomials of a frame

cat-coefficients : (p q : List ℕ) → Coefficients p → Coefficients q → Coefficients (p ++ q)
cat-coefficients [] q h g = g
cat-coefficients (a ∷ p) q h g = (h.0, cat-coefficients p q h.1 g)

replicate-coefficients : (n a : ℕ) → a < 2 → Coefficients (replicate n a)
replicate-coefficients zero a h = tt
replicate-coefficients (suc n) a h = (h, replicate-coefficients n a h)

bits-coefficients : (n v : ℕ) → Coefficients (bits n v)
unfolding bits
bits-coefficients zero v = tt
bits-coefficients (suc n) v = (omega arith, bits-coefficients n (v / 2))

content-coefficients : (bs : List ℕ) → Coefficients (content bs)
unfolding content
content-coefficients [] = tt
content-coefficients (b ∷ bs) = cat-coefficients (bits 8 b) (content bs) (bits-coefficients 8 b) (content-coefficients bs)

length-bits : (n v : ℕ) → length (bits n v) ≡ n
unfolding bits
length-bits zero v = refl
length-bits (suc n) v = ap suc (length-bits n (v / 2))

length-content : (bs : List ℕ) → length (content bs) ≡ 8 * length bs
unfolding content
length-content [] = refl
length-content (b ∷ bs) = length-append (bits 8 b) (content bs) ∙ omega (arith, length-bits 8 b, length-content bs)

zeros : (k : ℕ) → number (replicate k 0) ≡ 0
unfolding number
zeros zero = refl
zeros (suc k) = omega (arith, zeros k)

-- zeros for the lower powers change no number
number-zeros : (p : List ℕ) (k : ℕ) → number (p ++ replicate k 0) ≡ number p
unfolding number
number-zeros [] k = zeros k
number-zeros (a ∷ p) k = ap (λ (n : ℕ). a + 2 * n) (number-zeros p k)

number-byte : (b : ℕ) (p : List ℕ) → b < 256 → number (bits 8 b ++ p) ≡ b + 256 * number p
unfolding bits number
number-byte b p h = omega arith

number-content : (bs : List ℕ) → Bytes bs → number (content bs) ≡ num bs
unfolding content num number
number-content [] h = refl
number-content (b ∷ bs) h = number-byte b (content bs) (h 0) ∙ ap (λ (n : ℕ). b + 256 * n) (number-content bs (λ i. h (suc i)))

-- ---- the complement

number-complement : (p : List ℕ) → Coefficients p → number p + number (complement p) + 1 ≡ 2 ^ length p
unfolding number complement
number-complement [] h = refl
number-complement (a ∷ p) h = omega (arith, number-complement p h.1, two-pow-succ (length p))

-- ---- the rule

ones : number (replicate 32 1) ≡ 4294967295
unfolding number
ones = refl

pub v42 : (bs : List ℕ) → Bytes bs → crc32 bs ≡ number (fcs bs)
unfolding crc32 fcs
v42 bs h =
    let k = length (content bs) in
    let u : List ℕ = replicate 32 1 ++ replicate k 0 in
    let v : List ℕ = content bs ++ replicate 32 0 in
    let cu : Coefficients u = cat-coefficients (replicate 32 1) (replicate k 0) (replicate-coefficients 32 1 one) (replicate-coefficients k 0 nought) in
    let cv : Coefficients v = cat-coefficients (content bs) (replicate 32 0) (content-coefficients bs) (replicate-coefficients 32 0 nought) in
    let lu : length u ≡ k + 32 = length-append (replicate 32 1) (replicate k 0) ∙ ap (λ (n : ℕ). 32 + n) (length-replicate {A = ℕ} k 0) ∙ add_comm 32 k in
    let lv : length v ≡ k + 32 = length-append (content bs) (replicate 32 0) in
    let s = plus (divide k u) (divide k v) in
    let cs : Coefficients s = plus-coefficients (divide k u) (divide k v) (divide-coefficients k u cu) (divide-coefficients k v cv) in
    let ls : length s ≡ 32 = length-plus (divide k u) (divide k v) (omega (arith, length-divide k u lu, length-divide k v lv)) ∙ length-divide k u lu in
    let all : number u ≡ 4294967295 = number-zeros (replicate 32 1) k ∙ ones in
    let own : number v ≡ num bs = number-zeros (content bs) 32 ∙ number-content bs h in
    let e : number s ≡ feed_bytes 4294967295 bs =
    number-plus (divide k u) (divide k v) (divide-coefficients k u cu) (divide-coefficients k v cv)
    ∙ ap₂ bit_xor (number-divide k u cu) (number-divide k v cv) ∙ sym (shifts-xor k (number u) (number v))
    ∙ (λ i. shifts (length-content bs i) (bit_xor (all i) (own i))) ∙ sym (feed-shifts 4294967295 bs h) in
    omega (arith, e, number-complement s cs, ap (λ (n : ℕ). 2 ^ n) ls)

-- the check value for "123456789", by both definitions
abbrev pub digits : List ℕ
digits = 49 ∷ 50 ∷ 51 ∷ 52 ∷ 53 ∷ 54 ∷ 55 ∷ 56 ∷ 57 ∷ []

pub check : crc32 digits ≡ 0xCBF43926
unfolding crc32
check = refl

pub check-v42 : number (fcs digits) ≡ 0xCBF43926
unfolding number fcs plus times divide bits content complement
check-v42 = refl
