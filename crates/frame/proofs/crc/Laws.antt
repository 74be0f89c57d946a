-- Laws of the register: it is linear, so that bytes go in many at a time.
-- Assumes nothing.
use mathlib.Core.Path.{◌≡◌, refl, sym, ap, ap₂, ◌∙◌}
use mathlib.Core.List.{List, [], ◌∷◌, ◌++◌, map}
use Prim.Native.Nat.{ℕ, zero, suc, ◌+◌, ◌*◌, ◌/◌, ◌%◌, ◌^◌, ◌≤◌, ◌<◌}
use native.Mathlib.Nat.{mul-one, mul_assoc, pow-suc, add-zero, suc-add, add_comm, zero-add, mul-suc, div-add-mod', mod-lt, not-suc-le-zero, le_of_suc-le-suc}
use native.Mathlib.Omega.{arith}
use native.Mathlib.Numerals.{add-one}
use lib.Arith.{bin_ind, digits_mod}
use lib.Pow.{pow_pos, field, mod-mod-pow}
use lib.Dec.{lit<}
use lib.ListN.{get_or, length, drop, take-append-drop, get_or-append, length-map}
use lib.Seq.{drop-cons, drop-drop, get_or-append-add}
use lib.Bits.{bit_xor, differ, xor_step, xor_zero_r, xor_comm, xor_shr, xor_shifted}
use Rattle.laws.specs.Bytes.{part, Bytes}
use Rattle.laws.specs.Little.{num}
use Rattle.laws.specs.Span.{from, upto}
use Rattle.laws.proofs.Bytes.{length_part}
use Rattle.laws.proofs.Little.{bytes-part}
use Rattle.frame.specs.Crc.{poly, shift, shifts, feed_bytes}
use Rattle.frame.specs.Table.{half_byte_table, tables, table_of}

-- ---- exclusive or

differ-assoc : (x y z : ℕ) → x < 2 → y < 2 → z < 2 → differ (differ x y) z ≡ differ x (differ y z)
differ-assoc zero y z a b c = refl
differ-assoc (suc zero) zero z a b c = refl
differ-assoc (suc zero) (suc zero) zero a b c = refl
differ-assoc (suc zero) (suc zero) (suc zero) a b c = refl
differ-assoc (suc zero) (suc zero) (suc (suc z)) a b c = absurd (omega arith)
differ-assoc (suc zero) (suc (suc y)) z a b c = absurd (omega arith)
differ-assoc (suc (suc x)) y z a b c = absurd (omega arith)

differ-lt : (x y : ℕ) → x < 2 → y < 2 → differ x y < 2
differ-lt zero y a b = b
differ-lt (suc zero) zero a b = a
differ-lt (suc zero) (suc zero) a b = lit< tt
differ-lt (suc zero) (suc (suc y)) a b = absurd (omega arith)
differ-lt (suc (suc x)) y a b = absurd (omega arith)

bit : (n : ℕ) → n % 2 < 2
bit n = omega arith

xor-half : (a b : ℕ) → bit_xor a b / 2 ≡ bit_xor (a / 2) (b / 2)
xor-half a b = xor_shr a b 1

xor-odd : (a b : ℕ) → bit_xor a b % 2 ≡ differ (a % 2) (b % 2)
xor-odd a b = ap (λ (x : ℕ). x % 2) (xor_step a b) ∙ digits_mod (bit_xor (a / 2) (b / 2)) (differ-lt (a % 2) (b % 2) (bit a) (bit b))

pub xor_assoc : (a b c : ℕ) → bit_xor (bit_xor a b) c ≡ bit_xor a (bit_xor b c)
xor_assoc =
    bin_ind (λ (n : ℕ). (b c : ℕ) → bit_xor (bit_xor n b) c ≡ bit_xor n (bit_xor b c)) (λ b c. refl)
    (λ n ih b c. xor_step (bit_xor n b) c
    ∙ ap₂ (λ (x y : ℕ). x * 2 + y)
    (ap (λ (x : ℕ). bit_xor x (c / 2)) (xor-half n b) ∙ ih (b / 2) (c / 2) ∙ ap (bit_xor (n / 2)) (sym (xor-half b c)))
    (ap (λ (x : ℕ). differ x (c % 2)) (xor-odd n b) ∙ differ-assoc (n % 2) (b % 2) (c % 2) (bit n) (bit b) (bit c) ∙ ap (differ (n % 2)) (sym (xor-odd b c)))
    ∙ sym (xor_step n (bit_xor b c)))

-- the inner two of four change places
xor-swap : (a b c d : ℕ) → bit_xor (bit_xor a b) (bit_xor c d) ≡ bit_xor (bit_xor a c) (bit_xor b d)
xor-swap a b c d =
    xor_assoc a b (bit_xor c d)
    ∙ ap (bit_xor a) (sym (xor_assoc b c d) ∙ ap (λ (x : ℕ). bit_xor x d) (xor_comm b c) ∙ xor_assoc c b d)
    ∙ sym (xor_assoc a c (bit_xor b d))

-- ---- shifts

-- a bit times the polynomial
times : (x y : ℕ) → x < 2 → y < 2 → differ x y * poly ≡ bit_xor (x * poly) (y * poly)
times zero y a b = refl
times (suc zero) zero a b = refl
times (suc zero) (suc zero) a b = refl
times (suc zero) (suc (suc y)) a b = absurd (omega arith)
times (suc (suc x)) y a b = absurd (omega arith)

shift-xor : (a b : ℕ) → shift (bit_xor a b) ≡ bit_xor (shift a) (shift b)
unfolding shift
shift-xor a b =
    ap₂ bit_xor (xor-half a b) (ap (λ (x : ℕ). x * poly) (xor-odd a b) ∙ times (a % 2) (b % 2) (bit a) (bit b))
    ∙ xor-swap (a / 2) (b / 2) (a % 2 * poly) (b % 2 * poly)

pub shifts-xor : (n a b : ℕ) → shifts n (bit_xor a b) ≡ bit_xor (shifts n a) (shifts n b)
unfolding shifts
shifts-xor zero a b = refl
shifts-xor (suc n) a b = ap (shifts n) (shift-xor a b) ∙ shifts-xor n (shift a) (shift b)

shift-even : (x : ℕ) → shift (x * 2) ≡ x
unfolding shift
shift-even x =
    let p : x * 2 / 2 ≡ x = omega arith in
    let q : x * 2 % 2 ≡ 0 = omega arith in
    ap₂ (λ (u v : ℕ). bit_xor u (v * poly)) p q ∙ xor_zero_r x

shifts-even : (n x : ℕ) → shifts n (x * 2 ^ n) ≡ x
unfolding shifts
shifts-even zero x = mul-one x
shifts-even (suc n) x =
    ap (λ (k : ℕ). shifts n (shift k)) (ap (λ (k : ℕ). x * k) (pow-suc 2 n) ∙ sym (mul_assoc x (2 ^ n) 2))
    ∙ ap (shifts n) (shift-even (x * 2 ^ n)) ∙ shifts-even n x

pub shifts-add : (m n x : ℕ) → shifts (m + n) x ≡ shifts n (shifts m x)
unfolding shifts
shifts-add zero n x = ap (λ (k : ℕ). shifts k x) (zero-add n)
shifts-add (suc m) n x = ap (λ (k : ℕ). shifts k x) (suc-add m n) ∙ shifts-add m n (shift x)

-- w bits in front of what stands above them
low-xor : (w b x : ℕ) → b < 2 ^ w → x * 2 ^ w + b ≡ bit_xor b (x * 2 ^ w)
low-xor w b x h = sym (xor_shifted x w b h) ∙ xor_comm (x * 2 ^ w) b

-- the low w bits and the rest of the number: the rest has w shifts less
pub shifts-slice : (w n x : ℕ) → shifts (w + n) x ≡ bit_xor (shifts (w + n) (x % 2 ^ w)) (shifts n (x / 2 ^ w))
shifts-slice w n x =
    let b = x % 2 ^ w in
    let r = x / 2 ^ w in
    ap (shifts (w + n)) (sym (div-add-mod' x (2 ^ w)) ∙ low-xor w b r (mod-lt x (pow_pos w)))
    ∙ shifts-xor (w + n) b (r * 2 ^ w)
    ∙ ap (bit_xor (shifts (w + n) b)) (shifts-add w n (r * 2 ^ w) ∙ ap (shifts n) (shifts-even w r))

-- a byte by its halves
pub shifts-halves : (k x : ℕ) → shifts (8 * (k + 1)) (x % 256) ≡ bit_xor (shifts (4 * (2 * k + 1 + 1)) (x % 16)) (shifts (4 * (2 * k + 1)) (x / 16 % 16))
shifts-halves k x =
    let p : 8 * (k + 1) ≡ 4 + 4 * (2 * k + 1) = omega arith in
    let q : 4 + 4 * (2 * k + 1) ≡ 4 * (2 * k + 1 + 1) = omega arith in
    ap (λ (m : ℕ). shifts m (x % 256)) p ∙ shifts-slice 4 (4 * (2 * k + 1)) (x % 256)
    ∙ ap₂ bit_xor (ap₂ shifts q (mod-mod-pow x 4 4)) (ap (shifts (4 * (2 * k + 1))) (field x 4 4))

shifts-pair : (n x : ℕ) → shifts (16 + n) x ≡ bit_xor (bit_xor (shifts (16 + n) (x % 256)) (shifts (8 + n) (x / 256 % 256))) (shifts n (x / 65536))
shifts-pair n x =
    let e : x / 256 / 256 ≡ x / 65536 = omega arith in
    let p : 16 + n ≡ 8 + (8 + n) = omega arith in
    ap (λ (k : ℕ). shifts k x) p ∙ shifts-slice 8 (8 + n) x
    ∙ ap₂ bit_xor (ap (λ (k : ℕ). shifts k (x % 256)) (sym p)) (shifts-slice 8 n (x / 256) ∙ ap (λ (k : ℕ). bit_xor (shifts (8 + n) (x / 256 % 256)) (shifts n k)) e)
    ∙ sym (xor_assoc (shifts (16 + n) (x % 256)) (shifts (8 + n) (x / 256 % 256)) (shifts n (x / 65536)))

-- eight bytes, in pairs
pub shifts-eight : (x y z w : ℕ) → x < 2 ^ 64 → y ≡ x / 65536 → z ≡ y / 65536 → w ≡ z / 65536
    → shifts 64 x ≡ bit_xor (bit_xor (shifts 64 (x % 256)) (shifts 56 (x / 256 % 256))) (bit_xor (bit_xor (shifts 48 (y % 256)) (shifts 40 (y / 256 % 256)))
    (bit_xor (bit_xor (shifts 32 (z % 256)) (shifts 24 (z / 256 % 256))) (bit_xor (shifts 16 (w % 256)) (shifts 8 (w / 256 % 256)))))
unfolding shifts
shifts-eight x y z w h p q r =
    let o : w / 65536 ≡ 0 = omega arith in
    let d = bit_xor (shifts 16 (w % 256)) (shifts 8 (w / 256 % 256)) in
    let c = bit_xor (shifts 32 (z % 256)) (shifts 24 (z / 256 % 256)) in
    let b = bit_xor (shifts 48 (y % 256)) (shifts 40 (y / 256 % 256)) in
    let a = bit_xor (shifts 64 (x % 256)) (shifts 56 (x / 256 % 256)) in
    let ed : shifts 16 (z / 65536) ≡ d = ap (shifts 16) (sym r) ∙ shifts-pair 0 w ∙ ap (bit_xor d) o ∙ xor_zero_r d in
    let ec : shifts 32 (y / 65536) ≡ bit_xor c d = ap (shifts 32) (sym q) ∙ shifts-pair 16 z ∙ ap (bit_xor c) ed in
    let eb : shifts 48 (x / 65536) ≡ bit_xor b (bit_xor c d) = ap (shifts 48) (sym p) ∙ shifts-pair 32 y ∙ ap (bit_xor b) ec in
    shifts-pair 48 x ∙ ap (bit_xor a) eb

-- ---- the register after bytes

pub feed-cat : (c : ℕ) (xs ys : List ℕ) → feed_bytes c (xs ++ ys) ≡ feed_bytes (feed_bytes c xs) ys
unfolding feed_bytes
feed-cat c [] ys = refl
feed-cat c (x ∷ xs) ys = feed-cat (shifts 8 (bit_xor c x)) xs ys

-- bytes fed in one after the other are their number added to the register, and then all the shifts
pub feed-shifts : (c : ℕ) (bs : List ℕ) → Bytes bs → feed_bytes c bs ≡ shifts (8 * length bs) (bit_xor c (num bs))
unfolding feed_bytes num
feed-shifts c [] h = sym (xor_zero_r c)
feed-shifts c (b ∷ bs) h =
    let n = num bs in
    let e : n * 2 ^ 8 + b ≡ b + 256 * n = omega arith in
    feed-shifts (shifts 8 (bit_xor c b)) bs (λ i. h (suc i))
    ∙ ap (λ (x : ℕ). shifts (8 * length bs) (bit_xor (shifts 8 (bit_xor c b)) x)) (sym (shifts-even 8 n))
    ∙ ap (shifts (8 * length bs)) (sym (shifts-xor 8 (bit_xor c b) (n * 2 ^ 8)))
    ∙ sym (shifts-add 8 (8 * length bs) (bit_xor (bit_xor c b) (n * 2 ^ 8)))
    ∙ ap₂ shifts (add_comm 8 (8 * length bs) ∙ sym (mul-suc 8 (length bs))) (xor_assoc c b (n * 2 ^ 8) ∙ ap (bit_xor c) (sym (low-xor 8 b n (h 0)) ∙ e))

-- ---- turns of the loops

pub feed-one : (c : ℕ) (l : List ℕ) (i : ℕ) → i < length l → feed_bytes c (drop i l) ≡ feed_bytes (shifts 8 (bit_xor c (get_or l i 0))) (drop (i + 1) l)
unfolding feed_bytes
feed-one c l i h = ap (feed_bytes c) (drop-cons l i 0 h ∙ ap (λ (k : ℕ). get_or l i 0 ∷ drop k l) (sym (add-one i)))

pub feed-eight : (c : ℕ) (l : List ℕ) (i : ℕ) → Bytes l → i + 8 ≤ length l → feed_bytes c (drop i l) ≡ feed_bytes (shifts 64 (bit_xor c (num (part l i 8)))) (drop (i + 8) l)
feed-eight c l i b h =
    ap (feed_bytes c) (sym (take-append-drop 8 (drop i l)) ∙ ap (λ (r : List ℕ). part l i 8 ++ r) (drop-drop 8 i l))
    ∙ feed-cat c (part l i 8) (drop (i + 8) l)
    ∙ ap (λ (x : ℕ). feed_bytes x (drop (i + 8) l)) (feed-shifts c (part l i 8) (bytes-part l b i 8)
    ∙ ap (λ (n : ℕ). shifts (8 * n) (bit_xor c (num (part l i 8)))) (length_part l i 8 h))

-- ---- the tables

length_from : (a m : ℕ) → length (from a m) ≡ m
unfolding from
length_from a zero = refl
length_from a (suc m) = ap suc (length_from (a + 1) m)

get_d-row : (f : ℕ → ℕ) (a m k : ℕ) → k < m → get_or (map f (from a m)) k 0 ≡ f (a + k)
unfolding from
get_d-row f a zero k h = absurd (not-suc-le-zero h)
get_d-row f a (suc m) zero h = ap f (sym (add-zero a))
get_d-row f a (suc m) (suc k) h = get_d-row f (a + 1) m k (le_of_suc-le-suc h) ∙ ap f (omega arith)

get_d-tables : (n j k b : ℕ) → k < n → b < 16 → get_or (tables j n) (16 * k + b) 0 ≡ shifts (4 * (j + k + 1)) b
unfolding upto
get_d-tables zero j k b h g = absurd (not-suc-le-zero h)
get_d-tables (suc n) j zero b h g =
    let r = half_byte_table j in
    ap (λ (i : ℕ). get_or (r ++ tables (j + 1) n) i 0) (zero-add b)
    ∙ get_or-append r (tables (j + 1) n) 0 b (omega (arith, length-map (from 0 16) (shifts (4 * (j + 1))), length_from 0 16))
    ∙ get_d-row (shifts (4 * (j + 1))) 0 16 b g ∙ ap₂ (λ (x y : ℕ). shifts (4 * (x + 1)) y) (sym (add-zero j)) (zero-add b)
get_d-tables (suc n) j (suc k) b h g =
    let r = half_byte_table j in
    let p : 16 * suc k + b ≡ length r + (16 * k + b) = omega (arith, length-map (from 0 16) (shifts (4 * (j + 1))), length_from 0 16) in
    ap (λ (i : ℕ). get_or (r ++ tables (j + 1) n) i 0) p ∙ get_or-append-add r (tables (j + 1) n) (16 * k + b) 0
    ∙ get_d-tables n (j + 1) k b (le_of_suc-le-suc h) g
    ∙ ap (λ (x : ℕ). shifts (4 * (x + 1)) b) (omega arith)

-- the entry of the half byte b in table k
pub entry : (k b : ℕ) → k < 16 → b < 16 → get_or table_of (16 * k + b) 0 ≡ shifts (4 * (k + 1)) b
unfolding table_of
entry k b h g = get_d-tables 16 0 k b h g ∙ ap (λ (x : ℕ). shifts (4 * (x + 1)) b) (zero-add k)
