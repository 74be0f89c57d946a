-- Two values that a format holds, of one sign and one size, are the same value. So a value that the format holds is its own rounding. Assumes nothing.
use mathlib.Core.Path.{◌≡◌, refl, sym, ap, ◌∙◌, subst}
use Prim.Native.Nat.{ℕ, zero, suc, ◌+◌, ◌-◌, ◌*◌, ◌%◌, ◌^◌, ◌≤◌, ◌<◌}
use native.Mathlib.Nat.{le_of_suc-le-suc, lt_of_not-le, mul-lt-mul_of_pos_right, lt_of_mul-lt-mul_right, mul-one, mul_assoc, mul_left_comm, mul_right_comm, mul_comm, pow-suc, pow-succ', eq_of_mul-eq-mul_right, zero-lt-suc, lt_of_lt_of_le, lt_irrefl, mul-pos, zero-mul, one-mul}
use native.Mathlib.Omega.{arith}
use mathlib.Core.Bool.{Bool, true, false, ◌&&◌}
use lib.Dec.{T, ltb, leb, eqb, eqb→eq, ltb→lt, leb→le}
use lib.IntN.{ℤ, pos, negsuc}
use lib.Pow.{pow-add, pow_pos, pow-lt}
use lib.Ieee.{le, Float, nan, inf, fin, Format, prec, emax, low, up, down, round, fits}
use lib.Ieee.Fits.{and_l, and_r, up_pos, down_pos, round-fits}
use lib.Ieee.Exact.{HasValue, round_exact}
use lib.Ieee.Scale.{finite}
use lib.Ieee.Positive.{den, den_pos}
use Rattle.ieee.proofs.Value.{P, N, Under}
use Rattle.ieee.proofs.Rounds.{Rounds, plus-of, minus-of, round-zero, rounds-mono}

-- ---- what `fits` says of a number that is not 0
pub fits-parts : (f : Format) (s : Bool) (m : ℕ) (e : ℤ) → T (fits f (fin s (suc m) e)) → (suc m % 2 ≡ 1) × (suc m < 2 ^ prec f) × (down e ≤ 2 ^ low f) × (suc m * up e < 2 ^ suc (emax f) * down e)
unfolding fits
fits-parts f s m e h =
    let A = eqb (suc m % 2) 1 in
    let B = ltb (suc m) (2 ^ prec f) in
    let C = leb (down e) (2 ^ low f) in
    let D = ltb (suc m * up e) (2 ^ suc (emax f) * down e) in (
      eqb→eq (suc m % 2) 1 (and_l A B (and_l (A && B) C (and_l (A && B && C) D h))),
      ltb→lt (suc m) (2 ^ prec f) (and_r A B (and_l (A && B) C (and_l (A && B && C) D h))),
      leb→le (down e) (2 ^ low f) (and_r (A && B) C (and_l (A && B && C) D h)),
      ltb→lt (suc m * up e) (2 ^ suc (emax f) * down e) (and_r (A && B && C) D h),
    )

-- ---- an odd number times a power of two is written in one way
even_odd : (m t : ℕ) → m % 2 ≡ 1 → m ≡ 2 * t → ⊥
even_odd m t o h = omega arith

odd_pow : (m n a b : ℕ) → m % 2 ≡ 1 → n % 2 ≡ 1 → m * 2 ^ a ≡ n * 2 ^ b → (m ≡ n) × (a ≡ b)
odd_pow m n zero zero o p h = (sym (mul-one m) ∙ h ∙ mul-one n, refl)
odd_pow m n zero (suc b) o p h = absurd (even_odd m (n * 2 ^ b) o (sym (mul-one m) ∙ h ∙ ap (λ (x : ℕ). n * x) (pow-succ' 2 b) ∙ mul_left_comm n 2 (2 ^ b)))
odd_pow m n (suc a) zero o p h = absurd (even_odd n (m * 2 ^ a) p (sym (mul-one n) ∙ sym h ∙ ap (λ (x : ℕ). m * x) (pow-succ' 2 a) ∙ mul_left_comm m 2 (2 ^ a)))
odd_pow m n (suc a) (suc b) o p h =
    let r = odd_pow m n a b o p (eq_of_mul-eq-mul_right 2 (zero-lt-suc 1) (m * 2 ^ a) (n * 2 ^ b)
    (mul_assoc m (2 ^ a) 2 ∙ ap (λ (x : ℕ). m * x) (sym (pow-suc 2 a)) ∙ h ∙ ap (λ (x : ℕ). n * x) (pow-suc 2 b) ∙ sym (mul_assoc n (2 ^ b) 2))) in
    (r.0, ap suc r.1)

half_out : (n k b : ℕ) → n ≡ k * 2 ^ suc b → n % 2 ≡ 1 → ⊥
half_out n k b h o = even_odd n (k * 2 ^ b) o (h ∙ ap (λ (x : ℕ). k * x) (pow-succ' 2 b) ∙ mul_left_comm k 2 (2 ^ b))

one_way : (m n : ℕ) (e d : ℤ) → m % 2 ≡ 1 → n % 2 ≡ 1 → m * up e * down d ≡ n * up d * down e → (m ≡ n) × (e ≡ d)
one_way m n (pos a) (pos b) o p h = let r = odd_pow m n a b o p (sym (mul-one (m * 2 ^ a)) ∙ h ∙ mul-one (n * 2 ^ b)) in (r.0, ap pos r.1)
one_way m n (pos a) (negsuc b) o p h = absurd (half_out n (m * 2 ^ a) b (sym (mul-one n) ∙ sym (mul-one (n * 1)) ∙ sym h) p)
one_way m n (negsuc a) (pos b) o p h = absurd (half_out m (n * 2 ^ b) a (sym (mul-one m) ∙ sym (mul-one (m * 1)) ∙ h) o)
one_way m n (negsuc a) (negsuc b) o p h =
    let r = odd_pow m n (suc b) (suc a) o p (ap (λ (x : ℕ). x * 2 ^ suc b) (sym (mul-one m)) ∙ h ∙ ap (λ (x : ℕ). x * 2 ^ suc a) (mul-one n)) in
    (r.0, ap negsuc (suc-same b a r.1))
  where
    suc-same : (b a : ℕ) → suc b ≡ suc a → a ≡ b
    suc-same b a h = omega arith

two_up : (p : ℕ) → 0 < p → 2 * p ≡ 1 → ⊥
two_up p h e = omega arith

flat : (e : ℤ) → up e * down e ≡ 1 → e ≡ pos 0
flat (pos zero) h = refl
flat (pos (suc k)) h = absurd (two_up (2 ^ k) (pow_pos k) (sym (pow-succ' 2 k) ∙ sym (mul-one (2 ^ suc k)) ∙ h))
flat (negsuc k) h = absurd (two_up (2 ^ k) (pow_pos k) (sym (pow-succ' 2 k) ∙ sym (one-mul (2 ^ suc k)) ∙ h))

pub zero_exp : (f : Format) (s : Bool) (e : ℤ) → T (fits f (fin s zero e)) → e ≡ pos 0
unfolding fits
zero_exp f s e t = flat e (eqb→eq (up e * down e) 1 t)

no_zero : (m a b : ℕ) → 0 < a → 0 < b → suc m * a * b ≡ 0 → ⊥
no_zero m a b A B h = lt_irrefl 0 (subst (λ (x : ℕ). 0 < x) h (mul-pos (mul-pos (zero-lt-suc m) A) B))

-- ---- one sign and one size: one value
pub unique : (f : Format) (s : Bool) (m : ℕ) (e : ℤ) (n : ℕ) (d : ℤ) → T (fits f (fin s m e)) → T (fits f (fin s n d)) → m * up e * down d ≡ n * up d * down e → fin s m e ≡ fin s n d
unique f s zero e zero d p q h = ap (λ (x : ℤ). fin s 0 x) (zero_exp f s e p ∙ sym (zero_exp f s d q))
unique f s zero e (suc n) d p q h = absurd (no_zero n (up d) (down e) (up_pos d) (down_pos e) (sym h ∙ omega arith))
unique f s (suc m) e zero d p q h = absurd (no_zero m (up e) (down d) (up_pos e) (down_pos d) (h ∙ omega arith))
unique f s (suc m) e (suc n) d p q h =
    let r = one_way (suc m) (suc n) e d (fits-parts f s m e p).0 (fits-parts f s n d q).0 h in
    λ i. fin s (r.0 i) (r.1 i)

pub of-value : (f : Format) (x : Float) (s : Bool) (m : ℕ) (e : ℤ) → T (fits f x) → T (fits f (fin s m e)) → HasValue x s (m * up e) (down e) → x ≡ fin s m e
of-value f nan s m e p q v = absurd v
of-value f (inf t) s m e p q v = absurd v
of-value f (fin t n d) s m e p q v =
    ap (λ (b : Bool). fin b n d) v.0 ∙ unique f s n d m e (subst (λ (b : Bool). T (fits f (fin b n d))) v.0 p) q v.1

pow_le_back : (a l : ℕ) → 2 ^ a ≤ 2 ^ l → a ≤ l
pow_le_back a l h = le_of_suc-le-suc (lt_of_not-le (λ (g : suc l ≤ a). lt_irrefl (2 ^ l) (lt_of_lt_of_le (pow-lt g) h)))

back : (a l : ℕ) → a ≤ l → l - a + a ≡ l
back a l h = omega arith

-- m * 2 ^ e as a multiple of the format's smallest value, 2 ^ -l
pub place : (l : ℕ) (e : ℤ) → down e ≤ 2 ^ l → (j : ℕ) × ((m : ℕ) → m * up e * 2 ^ l ≡ m * 2 ^ j * down e)
place l (pos a) h = (a + l, λ m. mul_assoc m (2 ^ a) (2 ^ l) ∙ ap (λ (x : ℕ). m * x) (sym (pow-add 2 a l)) ∙ sym (mul-one (m * 2 ^ (a + l))))
place l (negsuc a) h =
    (l - suc a, λ m. ap (λ (x : ℕ). x * 2 ^ l) (mul-one m) ∙ ap (λ (x : ℕ). m * x) (ap (λ (x : ℕ). 2 ^ x) (sym (back (suc a) l (pow_le_back (suc a) l h))) ∙ pow-add 2 (l - suc a) (suc a)) ∙ sym (mul_assoc m (2 ^ (l - suc a)) (2 ^ suc a)))

-- a value's size in those units, below the overflow
pub units_of : (f : Format) (s : Bool) (m : ℕ) (e : ℤ) → T (fits f (fin s (suc m) e)) → (j : ℕ) × (suc m * up e * 2 ^ low f ≡ suc m * 2 ^ j * down e) × (suc m * 2 ^ j < 2 ^ (low f + suc (emax f)))
units_of f s m e h =
    let k = fits-parts f s m e h in
    let pl = place (low f) e k.2 in
    let j = pl.0 in
    let v = pl.1 (suc m) in
    let fine : suc m * 2 ^ j * down e < 2 ^ (low f + suc (emax f)) * down e =
    subst (λ (x : ℕ). x < 2 ^ (low f + suc (emax f)) * down e) v
    (subst (λ (x : ℕ). suc m * up e * 2 ^ low f < x) (mul_right_comm (2 ^ suc (emax f)) (down e) (2 ^ low f) ∙ ap (λ (x : ℕ). x * down e) (mul_comm (2 ^ suc (emax f)) (2 ^ low f) ∙ sym (pow-add 2 (low f) (suc (emax f)))))
    (mul-lt-mul_of_pos_right k.3 (pow_pos (low f)))) in
    (j, v, lt_of_mul-lt-mul_right (down e) fine)

pub round-own : (f : Format) (s : Bool) (m : ℕ) (e : ℤ) → T (fits f (fin s m e)) → round f s (m * up e) (down e) ≡ fin s m e
round-own f s zero e h =
    ap (λ (x : ℕ). round f s x (down e)) (zero-mul (up e)) ∙ round-zero f s (down e) (down_pos e) ∙ ap (λ (x : ℤ). fin s 0 x) (sym (zero_exp f s e h))
round-own f s (suc m) e h =
    let k = fits-parts f s m e h in
    let u = units_of f s m e h in
    of-value f (round f s (suc m * up e) (down e)) s (suc m) e (round-fits f s (suc m * up e) (down e)) h
    (round_exact f s (suc m * up e) (down e) (suc m) u.0 (down_pos e) k.1 u.2 u.1)

-- ---- a value that the format holds is its own rounding
pub own-rounds : (f : Format) (x : Float) → T (finite x) → T (fits f x) → Rounds f x (P x) (N x) (den x)
own-rounds f nan p q = absurd p
own-rounds f (inf s) p q = absurd p
own-rounds f (fin true m e) p q = minus-of f _ _ _ _ (m * up e) (omega arith) (sym (round-own f true m e q))
own-rounds f (fin false m e) p q = plus-of f _ _ _ _ (m * up e) (omega arith) (sym (round-own f false m e q))

-- so a rounding is bounded by each value of the format that bounds the fraction
pub rounds-le : (f : Format) (z b : Float) (p n d : ℕ) → 0 < d → T (finite b) → T (fits f b) → Rounds f z p n d → Under p n d (P b) (N b) (den b) → T (le z b)
rounds-le f z b p n d D h k r u = rounds-mono f z b p n d (P b) (N b) (den b) D (den_pos b) r (own-rounds f b h k) u

pub rounds-ge : (f : Format) (z b : Float) (p n d : ℕ) → 0 < d → T (finite b) → T (fits f b) → Rounds f z p n d → Under (P b) (N b) (den b) p n d → T (le b z)
rounds-ge f z b p n d D h k r u = rounds-mono f b z (P b) (N b) (den b) p n d (den_pos b) D (own-rounds f b h k) r u
