-- The pattern of 2 ^ k: the exponent's field k + 1023, and no digits. Assumes nothing.
use mathlib.Core.Path.{◌≡◌, refl, sym, ap, ◌∙◌, subst}
use Prim.Native.Nat.{ℕ, zero, suc, ◌+◌, ◌-◌, ◌*◌, ◌/◌, ◌%◌, ◌≤◌, ◌<◌}
use native.Mathlib.Nat.{mod-eq_of_lt, mul-div_cancel, mul-mod_left, zero-lt-suc, lt_irrefl}
use native.Mathlib.Omega.{arith}
use mathlib.Core.Bool.{Bool, true, false, not, cond}
use lib.Dec.{T, leb, ltb, eqb, leb→le, nleb→lt, le→leb, eqb→eq, not_T}
use lib.Arith.{lt→nleb, le→nltb}
use lib.IntN.{ℤ, pos, negsuc, ◌+ℤ◌}
use lib.Signed.{le_z}
use lib.Ieee.{inf, fin, binary64, minus, odd, of_fields, of_bits, nan_bits, is_nan}
use lib.Ieee.Bits.{is_true, is_false, cond_no, nan_bits_is}
use Rattle.ieee.specs.Power.{power, biased}

fields : (b : ℕ) → of_bits binary64 b ≡ of_fields binary64 (leb 9223372036854775808 b) (b % 9223372036854775808 / 4503599627370496) (b % 4503599627370496)
unfolding of_bits
fields b = refl

differ : (x : ℕ) → suc x < 2047 → suc x ≡ 2047 → ⊥
differ x h e = omega arith

-- minus sees only the difference
minus-less : (a b d : ℕ) → minus (a + d) (b + d) ≡ minus a b
minus-less a b d = go (leb (b + d) (a + d)) (leb b a) (leb→le (b + d) (a + d)) (nleb→lt (b + d) (a + d)) (leb→le b a) (nleb→lt b a)
  where
    clash : (a b d : ℕ) → b + d ≤ a + d → a < b → ⊥
    clash a b d h k = omega arith

    clash' : (a b d : ℕ) → a + d < b + d → b ≤ a → ⊥
    clash' a b d h k = omega arith

    go : (x y : Bool) → (T x → b + d ≤ a + d) → (T (not x) → a + d < b + d) → (T y → b ≤ a) → (T (not y) → a < b) → cond x (pos (a + d - (b + d))) (negsuc (b + d - suc (a + d))) ≡ cond y (pos (a - b)) (negsuc (b - suc a))
    go true true p q r s = ap pos (omega arith)
    go true false p q r s = absurd (clash a b d (p tt) (s tt))
    go false true p q r s = absurd (clash' a b d (q tt) (r tt))
    go false false p q r s = ap negsuc (omega arith)

at_field : (x : ℕ) → suc x < 2047 → of_fields binary64 false (suc x) 0 ≡ power (minus (suc x) 1023)
unfolding of_fields
at_field x h =
    cond_no (eqb (suc x) 2047) (inf false) (odd 53 false 4503599627370496 x 1074) (not_T (eqb (suc x) 2047) (λ u. differ x h (eqb→eq (suc x) 2047 u)))
    ∙ ap (λ (z : ℕ). fin false 1 (minus z 1074)) (shift x)
    ∙ ap (λ (z : ℤ). fin false 1 z) (minus-less (suc x) 1023 51)
  where
    shift : (x : ℕ) → x + 52 ≡ suc x + 51
    shift x = omega arith

pub power-bits : (j : ℕ) → 0 < j → j < 2047 → of_bits binary64 (j * 4503599627370496) ≡ power (minus j 1023)
power-bits zero p h = absurd (lt_irrefl 0 p)
power-bits (suc x) p h =
    let b = suc x * 4503599627370496 in
    let small : b < 9223372036854775808 = omega arith in
    fields b
    ∙ ap (λ (s : Bool). of_fields binary64 s (b % 9223372036854775808 / 4503599627370496) (b % 4503599627370496)) (is_false (leb 9223372036854775808 b) (lt→nleb 9223372036854775808 b small))
    ∙ ap (λ (z : ℕ). of_fields binary64 false (z / 4503599627370496) (b % 4503599627370496)) (mod-eq_of_lt small)
    ∙ ap (λ (z : ℕ). of_fields binary64 false z (b % 4503599627370496)) (mul-div_cancel (suc x) (zero-lt-suc 4503599627370495))
    ∙ ap (λ (z : ℕ). of_fields binary64 false (suc x) z) (mul-mod_left (suc x) 4503599627370496)
    ∙ at_field x h

pub power-no-nan : (j : ℕ) → 0 < j → j < 2047 → T (not (nan_bits binary64 (j * 4503599627370496)))
power-no-nan j p h = subst (λ (b : Bool). T (not b)) (sym (nan_bits_is binary64 (j * 4503599627370496) ∙ ap is_nan (power-bits j p h))) (unfold is_nan in tt)

-- ---- k + 1023
abbrev pub InField : ℤ → Type 0
InField k = T (le_z (negsuc 1021) k) × T (le_z k (pos 1023))

pub biased-in : (k : ℤ) → T (le_z (negsuc 1021) k) → T (le_z k (pos 1023)) → (0 < biased k) × (biased k < 2047)
biased-in (pos n) p q = (omega arith, omega (arith, leb→le n 1023 q))
biased-in (negsuc n) p q = (omega (arith, leb→le n 1021 p), omega arith)

pub biased-sum : (k : ℤ) → T (le_z (negsuc 1021) k) → k +ℤ pos 1023 ≡ pos (biased k)
biased-sum (pos n) p = refl
biased-sum (negsuc n) p = cond_no (ltb 1023 (suc n)) (negsuc (suc n - suc 1023)) (pos (1023 - suc n)) (le→nltb 1023 (suc n) (omega (arith, leb→le n 1021 p))) ∙ ap pos (omega arith)

pub minus-ge : (a b : ℕ) → b ≤ a → minus a b ≡ pos (a - b)
minus-ge a b h = ap (λ (t : Bool). cond t (pos (a - b)) (negsuc (b - suc a))) (is_true (leb b a) (le→leb b a h))

pub minus-lt : (a b : ℕ) → a < b → minus a b ≡ negsuc (b - suc a)
minus-lt a b h = cond_no (leb b a) (pos (a - b)) (negsuc (b - suc a)) (lt→nleb b a h)

pub biased-back : (k : ℤ) → T (le_z (negsuc 1021) k) → minus (biased k) 1023 ≡ k
biased-back (pos n) p = minus-ge (n + 1023) 1023 (omega arith) ∙ ap pos (omega arith)
biased-back (negsuc n) p = minus-lt (1022 - n) 1023 (omega arith) ∙ ap negsuc (omega (arith, leb→le n 1021 p))

pub power-whole : (n : ℕ) → power (minus (n + 1023) 1023) ≡ power (pos n)
power-whole n = ap power (minus-ge (n + 1023) 1023 (omega arith) ∙ ap pos (omega arith))
