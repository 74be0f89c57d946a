-- Numbers and floats written and read back. Assumes nothing.
use Prim.Native.Nat.{ℕ, zero, suc, ◌+◌, ◌*◌, ◌/◌, ◌%◌, ◌<◌}
use mathlib.Core.Path.{◌≡◌, refl, sym, ap, ◌∙◌}
use mathlib.Core.Bool.{true, cond, false≢true}
use mathlib.Core.List.{List, [], ◌∷◌, ◌++◌, map, append_assoc}
use native.Mathlib.Omega.{arith}
use lib.Dec.{T, lit<}
use lib.ListN.{length, get_or, take, length-append}
use lib.Seq.{drop_at, take_at}
use lib.Ieee.{Float, Format, nan, inf, fin, binary32, binary64, fits, of_bits, to_bits, ne, is_nan, top}
use lib.Ieee.Bits.{of_bits-to_bits, to_bits-lt}
use Rattle.laws.specs.Little.{num, le}
use Rattle.laws.proofs.Little.{num-le4}
use Rattle.laws.proofs.Picks.{by}
use Rattle.float_bits.proofs.Bits.{all_ones}
use Rattle.ieee.proofs.Value.{ne-self}
use Rattle.card.specs.Card.{bits32, bits64, packed, at, numbers_at}
use Rattle.card.proofs.Pack.{length-le}

-- ---- whole numbers

pub num-le8 : (v : ℕ) → v < 18446744073709551616 → num (le 8 v) ≡ v
unfolding num
num-le8 v h =
    let w = v / 256 / 256 / 256 / 256 in
    let s : w < 4294967296 = omega arith in
    ap (λ (x : ℕ). v % 256 + 256 * (v / 256 % 256 + 256 * (v / 256 / 256 % 256 + 256 * (v / 256 / 256 / 256 % 256 + 256 * x))))
    (num-le4 w s) ∙ omega arith

-- the number that was written after xs
module _ (k : ℕ) (xs : List ℕ) (v : ℕ) (rest : List ℕ) where
  pub at_back : (i : ℕ) → length xs ≡ i → num (le k v) ≡ v → at k (xs ++ (le k v ++ rest)) i ≡ v
  at_back i h e =
      ap (λ (l : List ℕ). num (take k l)) (drop_at xs (le k v ++ rest) i h) ∙ ap num (take_at (le k v) rest k (length-le k v)) ∙ e

-- a row of them
pub row_back : (k : ℕ) (vs xs rest : List ℕ) (i n : ℕ) → length xs ≡ i → length vs ≡ n →
    ((j : ℕ) → num (le k (get_or vs j 0)) ≡ get_or vs j 0)
    → numbers_at k n (xs ++ (packed k vs ++ rest)) i ≡ vs
unfolding numbers_at packed
row_back k [] xs rest i zero h l e = refl
row_back k [] xs rest i (suc n) h l e = absurd (omega arith)
row_back k (v ∷ vs) xs rest i zero h l e = absurd (omega arith)
row_back k (v ∷ vs) xs rest i (suc n) h l e =
    let s : xs ++ ((le k v ++ packed k vs) ++ rest) ≡ xs ++ (le k v ++ (packed k vs ++ rest)) = ap (λ (r : List ℕ). xs ++ r)
    (append_assoc (le k v) (packed k vs) rest) in
    let t : xs ++ (le k v ++ (packed k vs ++ rest)) ≡ (xs ++ le k v) ++ (packed k vs ++ rest) = sym
    (append_assoc xs (le k v) (packed k vs ++ rest)) in
    ap (λ (b : List ℕ). at k b i ∷ numbers_at k n b (i + k)) s
    ∙ (λ j. at_back k xs v (packed k vs ++ rest) i h (e 0) j
    ∷ (ap (λ (b : List ℕ). numbers_at k n b (i + k)) t ∙ row_back k vs (xs ++ le k v) rest (i + k) n
    (length-append xs (le k v) ∙ (λ q. h q + length-le k v q)) (omega arith) (λ m. e (suc m))) j)

-- ---- floats

nan-only : (x : Float) → is_nan x ≡ true → nan ≡ x
unfolding is_nan
nan-only nan e = refl
nan-only (inf s) e = absurd (false≢true e)
nan-only (fin s m d) e = absurd (false≢true e)

-- any NaN is written as all ones, which is read as the NaN; every other value by its bits
module _ (f : Format) (all : ℕ) (x : Float) (h : T (fits f x)) where
  pub float_back : nan ≡ of_bits f all → of_bits f (cond (ne x x) all (to_bits f x)) ≡ x
  float_back e = by (λ (n : ℕ). of_bits f n ≡ x) (ne x x) (λ y. sym e ∙ nan-only x (sym (ne-self x) ∙ y)) (λ y. of_bits-to_bits f x h)

  pub float_small : all < 2 * top f → cond (ne x x) all (to_bits f x) < 2 * top f
  float_small a = by (λ (n : ℕ). n < 2 * top f) (ne x x) (λ y. a) (λ y. to_bits-lt f x h)

pub double-back : (x : Float) → T (fits binary64 x) → of_bits binary64 (bits64 x) ≡ x
double-back x h = float_back binary64 18446744073709551615 x h (all_ones binary64 18446744073709551615 refl (λ z. omega arith))

pub double-small : (x : Float) → T (fits binary64 x) → bits64 x < 18446744073709551616
double-small x h = float_small binary64 18446744073709551615 x h (lit< tt)

pub single-back : (x : Float) → T (fits binary32 x) → of_bits binary32 (bits32 x) ≡ x
single-back x h = float_back binary32 4294967295 x h (all_ones binary32 4294967295 refl (λ z. omega arith))

pub single-small : (x : Float) → T (fits binary32 x) → bits32 x < 4294967296
single-small x h = float_small binary32 4294967295 x h (lit< tt)

-- a row of floats
module _ (f : Format) (g : Float → ℕ) where
  pub floats-back : (xs : List Float) → ((j : ℕ) → of_bits f (g (get_or xs j nan)) ≡ get_or xs j nan) → map (of_bits f) (map g xs) ≡ xs
  floats-back [] e = refl
  floats-back (x ∷ xs) e = λ j. e 0 j ∷ floats-back xs (λ m. e (suc m)) j

  pub floats-small : (w : ℕ) → 0 < w → (xs : List Float) → ((j : ℕ) → g (get_or xs j nan) < w) → (j : ℕ) → get_or (map g xs) j 0 < w
  floats-small w z [] e j = z
  floats-small w z (x ∷ xs) e zero = e 0
  floats-small w z (x ∷ xs) e (suc j) = floats-small w z xs (λ m. e (suc m)) j
