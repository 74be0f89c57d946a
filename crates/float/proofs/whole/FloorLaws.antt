-- What `floor_f` and `ceil_u` are, by the sign and the size of x. Assumes nothing.
use Rattle.std.proofs.Common.{◌≡◌, ℕ, zero, suc, ◌+◌, ◌-◌, ◌*◌, ◌/◌, ◌^◌, ◌<◌, ◌≤◌, min, Bool, true, false, cond, not, T, ℤ, pos, negsuc, sym, refl, ap, ◌∙◌, subst, zero-lt-suc, mul-pos, le-div_iff_mul-le, div-mul-le_self, div-one, arith, ltb→lt, nltb→le, T_not, pow_pos, pow_mono}
use native.Mathlib.Nat.{div-eq_of_lt-le, lt-div-mul-add, div-eq_of_lt}
use lib.Dec.{not_T}
use lib.Ieee.{Float, nan, inf, fin, binary64, up, down, round, lt, le, neg, of_int, fits, to_unsigned, is_nan}
use lib.Ieee.Fits.{down_pos, up_pos}
use Rattle.ieee.specs.Range.{w64}
use Rattle.ieee.proofs.Value.{le-lt, lt-le, lt_not_le, lt-of-not, le-no-nan, le→Le}
use Rattle.ieee.proofs.Rounds.{minus-of, round-neg}
use Rattle.ieee.proofs.Representable.{round-own, fits-parts, zero_exp, rounds-le}
use Rattle.ieee.proofs.Mono.{whole-mono}
use Rattle.ieee.proofs.Cut.{big, cut, cut-lt, back, test-true, test-false}
use Rattle.float.specs.Pick.{max_f}
use Rattle.float.specs.Floor.{floor_f, ceil_u, ceil_div, count_of}

-- ---- above zero
pub floor-small : (x : Float) → T (lt (w64 0) x) → T (lt x (w64 big)) → of_int binary64 (pos (to_unsigned 64 x)) ≡ floor_f x
unfolding lt of_int floor_f
floor-small nan p q = absurd p
floor-small (inf true) p q = absurd p
floor-small (inf false) p q = absurd q
floor-small (fin true m e) p q = absurd p
floor-small (fin false m e) p q = ap (λ (k : ℕ). round binary64 false k 1) (cut m e q)

-- from 2 ^ 52 on a value is whole
none-zero : (k : ℕ) → 0 < k → big * k ≤ 0 * 1 → ⊥
none-zero k p h = omega arith

none-suc : (m k : ℕ) → m < 2 ^ 53 → 2 ≤ k → big * k ≤ m * 1 → ⊥
none-suc m k p q h = omega arith

up_one : (n : ℕ) → (n + 0) / 1 ≡ n
up_one n = omega arith

stays : (s : Bool) (m : ℕ) (e : ℤ) → T (fits binary64 (fin s m e)) → big * down e ≤ m * up e → (round binary64 s (m * up e / down e) 1 ≡ fin s m e) × (round binary64 s (ceil_div (m * up e) (down e)) 1 ≡ fin s m e)
stays s m (pos a) F h = (ap (λ (k : ℕ). round binary64 s k 1) (div-one (m * 2 ^ a)) ∙ round-own binary64 s m (pos a) F, ap (λ (k : ℕ). round binary64 s k 1) (up_one (m * 2 ^ a)) ∙ round-own binary64 s m (pos a) F)
stays s zero (negsuc a) F h = absurd (none-zero (2 ^ suc a) (pow_pos (suc a)) h)
stays s (suc m) (negsuc a) F h = absurd (none-suc (suc m) (2 ^ suc a) (fits-parts binary64 s m (negsuc a) F).1 (pow_mono {i = 1} {j = suc a} (omega arith)) h)

pub floor-large : (x : Float) → T (fits binary64 x) → T (lt (w64 0) x) → T (not (lt x (w64 big))) → x ≡ floor_f x
unfolding lt of_int floor_f
floor-large nan F p q = absurd p
floor-large (inf true) F p q = absurd p
floor-large (inf false) F p q = refl
floor-large (fin true m e) F p q = absurd p
floor-large (fin false m e) F p q = sym (stays false m e F (omega (arith, nltb→le (m * up e * 1) (big * down e) q))).0

-- ---- below zero
pub floor-large-neg : (x : Float) → T (fits binary64 x) → T (lt x (w64 0)) → T (not (lt (neg x) (w64 big))) → x ≡ floor_f x
unfolding lt neg of_int floor_f
floor-large-neg nan F p q = absurd p
floor-large-neg (inf true) F p q = refl
floor-large-neg (inf false) F p q = absurd p
floor-large-neg (fin true m e) F p q = sym (stays true m e F (omega (arith, nltb→le (m * up e * 1) (big * down e) q))).1
floor-large-neg (fin false m e) F p q = absurd (no (m * up e * 1) (down e) (ltb→lt (m * up e * 1) (0 * down e) p))
  where
    no : (a d : ℕ) → a < 0 * d → ⊥
    no a d h = omega arith

-- t is a / d cut, and t < a / d: a / d is not whole
pub ceil-more : (a d t : ℕ) → 0 < d → a / d ≡ t → t * d < a → ceil_div a d ≡ t + 1
ceil-more a d t D e h =
    let k : a < t * d + d = subst (λ (z : ℕ). a < z * d + d) e (lt-div-mul-add {a = a} {b = d} D) in
    div-eq_of_lt-le d (omega arith) (omega arith)

pub ceil-same : (a d t : ℕ) → 0 < d → a / d ≡ t → a ≤ t * d → ceil_div a d ≡ t
ceil-same a d t D e h =
    let k : t * d ≤ a = subst (λ (z : ℕ). z * d ≤ a) e (div-mul-le_self a d) in
    div-eq_of_lt-le d (omega arith) (omega arith)

module _ (m : ℕ) (e : ℤ) (q : T (lt (fin false m e) (w64 big))) where
  abbrev t : ℕ
  t = to_unsigned 64 (fin false m e)

  minus_one : T (lt (w64 t) (fin false m e)) → neg (of_int binary64 (pos (t + 1))) ≡ floor_f (fin true m e)
  unfolding of_int floor_f
  minus_one h =
      sym (round-neg binary64 false (t + 1) 1)
      ∙ ap (λ (k : ℕ). round binary64 true k 1) (sym (ceil-more (m * up e) (down e) t (down_pos e) (sym (cut m e q)) (test-true m e t (cut-lt (fin false m e) q) h)))

  minus-same : T (not (lt (w64 t) (fin false m e))) → neg (of_int binary64 (pos t)) ≡ floor_f (fin true m e)
  unfolding of_int floor_f
  minus-same h =
      sym (round-neg binary64 false t 1)
      ∙ ap (λ (k : ℕ). round binary64 true k 1) (sym (ceil-same (m * up e) (down e) t (down_pos e) (sym (cut m e q)) (test-false m e t (cut-lt (fin false m e) q) h)))

no-below : (a d : ℕ) → a < 0 * d → ⊥
no-below a d h = omega arith

pub floor-minus-one : (x : Float) → T (lt x (w64 0)) → T (lt (neg x) (w64 big)) → T (lt (w64 (to_unsigned 64 (neg x))) (neg x)) → neg (of_int binary64 (pos (to_unsigned 64 (neg x) + 1))) ≡ floor_f x
unfolding lt neg of_int
floor-minus-one nan p q h = absurd p
floor-minus-one (inf true) p q h = absurd q
floor-minus-one (inf false) p q h = absurd p
floor-minus-one (fin true m e) p q h = minus_one m e q h
floor-minus-one (fin false m e) p q h = absurd (no-below (m * up e * 1) (down e) (ltb→lt (m * up e * 1) (0 * down e) p))

pub floor-minus-same : (x : Float) → T (lt x (w64 0)) → T (lt (neg x) (w64 big)) → T (not (lt (w64 (to_unsigned 64 (neg x))) (neg x))) → neg (of_int binary64 (pos (to_unsigned 64 (neg x)))) ≡ floor_f x
unfolding lt neg of_int
floor-minus-same nan p q h = absurd p
floor-minus-same (inf true) p q h = absurd q
floor-minus-same (inf false) p q h = absurd p
floor-minus-same (fin true m e) p q h = minus-same m e q h
floor-minus-same (fin false m e) p q h = absurd (no-below (m * up e * 1) (down e) (ltb→lt (m * up e * 1) (0 * down e) p))

-- ---- neither above zero nor below it: a zero or a NaN
zero-stays : (s : Bool) → fin s 0 (pos 0) ≡ floor_f (fin s 0 (pos 0))
unfolding floor_f round
zero-stays true = refl
zero-stays false = refl

pub floor-zero : (x : Float) → T (fits binary64 x) → T (not (lt (w64 0) x)) → T (not (lt x (w64 0))) → x ≡ floor_f x
unfolding lt of_int
floor-zero nan F p q = unfold floor_f in refl
floor-zero (inf true) F p q = absurd q
floor-zero (inf false) F p q = absurd p
floor-zero (fin s zero e) F p q = subst (λ (z : ℤ). fin s 0 z ≡ floor_f (fin s 0 z)) (sym (zero_exp binary64 s e F)) (zero-stays s)
floor-zero (fin false (suc m) e) F p q = absurd (some (suc m * up e) (down e) (mul-pos (zero-lt-suc m) (up_pos e)) (nltb→le (0 * down e) (suc m * up e * 1) p))
  where
    some : (a d : ℕ) → 0 < a → a * 1 ≤ 0 * d → ⊥
    some a d h k = omega arith
floor-zero (fin true (suc m) e) F p q = absurd (some (suc m * up e) (down e) (mul-pos (zero-lt-suc m) (up_pos e)) (nltb→le 0 (suc m * up e * 1 + 0 * down e) q))
  where
    some : (a d : ℕ) → 0 < a → a * 1 + 0 * d ≤ 0 → ⊥
    some a d h k = omega arith

same-cut : (s : Bool) (m : ℕ) (e : ℤ) → T (fits binary64 (fin s m e)) → big * down e ≤ m * up e → m * up e / down e ≡ ceil_div (m * up e) (down e)
same-cut s m (pos a) F h = div-one (m * 2 ^ a) ∙ sym (up_one (m * 2 ^ a))
same-cut s zero (negsuc a) F h = absurd (none-zero (2 ^ suc a) (pow_pos (suc a)) h)
same-cut s (suc m) (negsuc a) F h = absurd (none-suc (suc m) (2 ^ suc a) (fits-parts binary64 s m (negsuc a) F).1 (pow_mono {i = 1} {j = suc a} (omega arith)) h)

-- ---- `ceil_u`
uncap : (k : ℕ) → k ≤ big → min k (2 ^ 64 - 1) ≡ k
uncap k h = omega arith

pub ceil-plus-one : (x : Float) → T (lt x (w64 big)) → T (lt (w64 (to_unsigned 64 x)) x) → to_unsigned 64 x + 1 ≡ ceil_u x
unfolding ceil_u
ceil-plus-one nan q h = absurd (unfold lt in q)
ceil-plus-one (inf true) q h = absurd (unfold lt to_unsigned of_int in h)
ceil-plus-one (inf false) q h = absurd (unfold lt of_int in q)
ceil-plus-one (fin true m e) q h = absurd (unfold lt to_unsigned of_int in h)
ceil-plus-one (fin false m e) q h =
    let k = to_unsigned 64 (fin false m e) in
    let l = cut-lt (fin false m e) q in
    sym (ap (λ (z : ℕ). min z (2 ^ 64 - 1)) (ceil-more (m * up e) (down e) k (down_pos e) (sym (cut m e q)) (test-true m e k l h)) ∙ uncap (k + 1) (omega (arith, l)))

pub ceil-whole : (x : Float) → T (lt x (w64 big)) → T (not (lt (w64 (to_unsigned 64 x)) x)) → to_unsigned 64 x ≡ ceil_u x
unfolding ceil_u
ceil-whole nan q h = unfold to_unsigned in refl
ceil-whole (inf s) q h = unfold to_unsigned in refl
ceil-whole (fin true m e) q h = unfold to_unsigned in refl
ceil-whole (fin false m e) q h =
    let k = to_unsigned 64 (fin false m e) in
    let l = cut-lt (fin false m e) q in
    sym (ap (λ (z : ℕ). min z (2 ^ 64 - 1)) (ceil-same (m * up e) (down e) k (down_pos e) (sym (cut m e q)) (test-false m e k l h)) ∙ uncap k (omega (arith, l)))

pub ceil-large : (x : Float) → T (fits binary64 x) → T (not (lt x (w64 big))) → to_unsigned 64 x ≡ ceil_u x
unfolding lt of_int ceil_u to_unsigned
ceil-large nan F q = refl
ceil-large (inf s) F q = refl
ceil-large (fin true m e) F q = refl
ceil-large (fin false m e) F q = ap (λ (z : ℕ). min z (2 ^ 64 - 1)) (same-cut false m e F (omega (arith, nltb→le (m * up e * 1) (big * down e) q)))

-- ---- `count_of`
-- from 1 on `floor_f x` is 1 at least
absurd-one : (a d : ℕ) → 0 < d → 1 * d + a * 1 ≤ 0 * 1 + 0 * d → ⊥
absurd-one a d D h = omega arith

pub floor-ge-one : (x : Float) → T (le (w64 1) x) → T (le (w64 1) (floor_f x))
unfolding le of_int floor_f
floor-ge-one nan h = absurd h
floor-ge-one (inf true) h = absurd h
floor-ge-one (inf false) h = tt
floor-ge-one (fin true m e) h = absurd (absurd-one (m * up e) (down e) (down_pos e) (le→Le (w64 1) (fin true m e) tt tt h))
floor-ge-one (fin false m e) h = whole-mono binary64 1 (m * up e / down e) ((le-div_iff_mul-le (down_pos e)).1 (omega (arith, le→Le (w64 1) (fin false m e) tt tt h)))

pub floor-lt-one : (x : Float) → T (lt x (w64 1)) → T (lt (floor_f x) (w64 1))
unfolding lt of_int floor_f
floor-lt-one nan h = absurd h
floor-lt-one (inf true) h = tt
floor-lt-one (inf false) h = absurd h
floor-lt-one (fin true m e) h =
    let c = ceil_div (m * up e) (down e) in
    le-lt (round binary64 true c 1) (w64 0) (w64 1) (rounds-le binary64 (round binary64 true c 1) (w64 0) 0 c 1 (zero-lt-suc 0) tt (unfold fits in tt) (minus-of binary64 (round binary64 true c 1) 0 c 1 c (omega arith) refl) (omega arith)) tt
floor-lt-one (fin false m e) h =
    subst (λ (k : ℕ). T (lt (round binary64 false k 1) (w64 1))) (sym (div-eq_of_lt {n = m * up e} {m = down e} (omega (arith, ltb→lt (m * up e * 1) (1 * down e) h)))) tt

max-first : (x y : Float) → T (not (is_nan x)) → T (not (lt x y)) → max_f x y ≡ x
unfolding max_f
max-first x y n h = go (is_nan x) (lt x y) n h
  where
    go : (a b : Bool) → T (not a) → T (not b) → cond a y (cond b y x) ≡ x
    go true b n h = absurd n
    go false true n h = absurd h
    go false false n h = refl

max-second : (x y : Float) → T (lt x y) → max_f x y ≡ y
unfolding max_f
max-second x y h = go (is_nan x) (lt x y) h
  where
    go : (a b : Bool) → T b → cond a y (cond b y x) ≡ y
    go true b h = refl
    go false true h = refl
    go false false h = absurd h

-- from 1 on
pub count-large : (x : Float) → T (fits binary64 x) → T (le (w64 1) x) → to_unsigned 64 x ≡ count_of x
count-large x F h =
    let g = floor-ge-one x h in
    sym (ap (to_unsigned 64) (max-first (floor_f x) (w64 1) (le-no-nan (w64 1) (floor_f x) g).1 (not_T (lt (floor_f x) (w64 1)) (λ u. lt_not_le (floor_f x) (w64 1) u g)))
    ∙ go (lt x (w64 big)) small large)
  where
    above : T (lt (w64 0) x)
    above = lt-le (w64 0) (w64 1) x (unfold lt of_int in tt) h

    small : T (lt x (w64 big)) → to_unsigned 64 (floor_f x) ≡ to_unsigned 64 x
    small q = ap (to_unsigned 64) (sym (floor-small x above q)) ∙ back (to_unsigned 64 x) (cut-lt x q)

    large : T (not (lt x (w64 big))) → to_unsigned 64 (floor_f x) ≡ to_unsigned 64 x
    large q = ap (to_unsigned 64) (sym (floor-large x F above q))

    go : (b : Bool) → (T b → to_unsigned 64 (floor_f x) ≡ to_unsigned 64 x) → (T (not b) → to_unsigned 64 (floor_f x) ≡ to_unsigned 64 x) → to_unsigned 64 (floor_f x) ≡ to_unsigned 64 x
    go true u v = u tt
    go false u v = v tt

-- below 1, and at a NaN
count-below : (x : Float) → T (lt x (w64 1)) → 1 ≡ count_of x
count-below x h = sym (ap (to_unsigned 64) (max-second (floor_f x) (w64 1) (floor-lt-one x h)) ∙ back 1 (omega arith))

below_one : (x : Float) → T (not (is_nan x)) → T (not (le (w64 1) x)) → T (lt x (w64 1))
below_one x n p = lt-of-not x (w64 1) n (unfold is_nan of_int in tt) (T_not (le (w64 1) x) p)

pub count-one : (x : Float) → T (not (le (w64 1) x)) → 1 ≡ count_of x
count-one nan p = unfold floor_f max_f is_nan in sym (back 1 (omega arith))
count-one (inf s) p = count-below (inf s) (below_one (inf s) (unfold is_nan in tt) p)
count-one (fin s m e) p = count-below (fin s m e) (below_one (fin s m e) (unfold is_nan in tt) p)
