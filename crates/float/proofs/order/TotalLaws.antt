-- `total_le`, by the tests that the code makes: a NaN or smaller, and of two equal values by the bits. Assumes nothing.
use Rattle.std.proofs.Common.{◌≡◌, ℕ, zero, suc, ◌*◌, ◌<◌, Bool, true, false, cond, not, ◌&&◌, ◌||◌, T, eqb, leb, List, [], ◌∷◌, get_or, ℤ, pos, sym, refl, ap, ap₂, ◌∙◌, subst, true≢false, le_of_eq, lt_irrefl, zero-lt-suc, mul-pos, arith, eqb→eq, le-leb}
use mathlib.Core.Bool.{false≢true}
use lib.Ieee.{Float, nan, inf, fin, Format, binary32, binary64, up, down, lt, eq, to_bits, fits, is_nan}
use lib.Ieee.Fits.{up_pos, down_pos, and_l, and_r}
use Rattle.ieee.proofs.Tests.{yes}
use Rattle.ieee.proofs.Representable.{unique, zero_exp}
use Rattle.float.specs.Total.{sign, level, total_le, insert, sort, median_f}

-- ---- equal values
same_bits : (f : Format) (x y : Float) → x ≡ y → leb (to_bits f y) (to_bits f x) ≡ true
same_bits f x y e = le-leb (to_bits f y) (to_bits f x) (le_of_eq (ap (to_bits f) (sym e)))

zero_of : (m : ℕ) (e d : ℤ) → T (eqb (m * up e * down d) 0) → m ≡ 0
zero_of zero e d h = refl
zero_of (suc m) e d h = absurd (lt_irrefl 0 (subst (λ (x : ℕ). 0 < x) (eqb→eq (suc m * up e * down d) 0 h) (mul-pos (mul-pos (zero-lt-suc m) (up_pos e)) (down_pos d))))

zeros : (f : Format) → (leb (to_bits f (fin false 0 (pos 0))) (to_bits f (fin true 0 (pos 0))) ≡ true) × (leb (to_bits f (fin true 0 (pos 0))) (to_bits f (fin false 0 (pos 0))) ≡ false)
unfolding to_bits
zeros binary32 = (refl, refl)
zeros binary64 = (refl, refl)

-- a zero is written in one way
zero_is : (f : Format) (s : Bool) (m : ℕ) (e : ℤ) → T (fits f (fin s m e)) → m ≡ 0 → fin s m e ≡ fin s 0 (pos 0)
zero_is f s zero e F h = ap (λ (z : ℤ). fin s 0 z) (zero_exp f s e F)
zero_is f s (suc m) e F h = absurd (no m h)
  where
    no : (m : ℕ) → suc m ≡ 0 → ⊥
    no m h = omega arith

level-bits : (f : Format) (x y : Float) → T (fits f x) → T (fits f y) → T (eq x y) → leb (to_bits f y) (to_bits f x) ≡ (sign x || not (sign y))
unfolding eq
level-bits f nan y F G h = absurd h
level-bits f (inf s) nan F G h = absurd h
level-bits f (inf true) (inf true) F G h = same_bits f (inf true) (inf true) refl
level-bits f (inf true) (inf false) F G h = absurd h
level-bits f (inf false) (inf true) F G h = absurd h
level-bits f (inf false) (inf false) F G h = same_bits f (inf false) (inf false) refl
level-bits f (inf s) (fin t n d) F G h = absurd h
level-bits f (fin s m e) nan F G h = absurd h
level-bits f (fin s m e) (inf t) F G h = absurd h
level-bits f (fin true m e) (fin true n d) F G h =
    same_bits f (fin true m e) (fin true n d) (unique f true m e n d F G (eqb→eq (m * up e * down d) (n * up d * down e) (and_l (eqb (m * up e * down d) (n * up d * down e)) true h)))
level-bits f (fin false m e) (fin false n d) F G h =
    same_bits f (fin false m e) (fin false n d) (unique f false m e n d F G (eqb→eq (m * up e * down d) (n * up d * down e) (and_l (eqb (m * up e * down d) (n * up d * down e)) true h)))
level-bits f (fin true m e) (fin false n d) F G h =
    let a = and_r (eqb (m * up e * down d) (n * up d * down e)) (eqb (m * up e * down d) 0) h in
    let b = eqb→eq (m * up e * down d) (n * up d * down e) (and_l (eqb (m * up e * down d) (n * up d * down e)) (eqb (m * up e * down d) 0) h) in
    rw (zero_is f true m e F (zero_of m e d a), zero_is f false n d G (zero_of n d e (subst (λ (z : ℕ). T (eqb z 0)) b a))) (zeros f).0
level-bits f (fin false m e) (fin true n d) F G h =
    let a = and_r (eqb (m * up e * down d) (n * up d * down e)) (eqb (m * up e * down d) 0) h in
    let b = eqb→eq (m * up e * down d) (n * up d * down e) (and_l (eqb (m * up e * down d) (n * up d * down e)) (eqb (m * up e * down d) 0) h) in
    rw (zero_is f false m e F (zero_of m e d a), zero_is f true n d G (zero_of n d e (subst (λ (z : ℕ). T (eqb z 0)) b a))) (zeros f).1

-- the tests that the code makes, one after the other
pub equal_no_nan : (x y : Float) → eq x y ≡ true → T (not (is_nan x)) × T (not (is_nan y))
unfolding eq is_nan
equal_no_nan nan y h = absurd (false≢true h)
equal_no_nan (inf s) nan h = absurd (false≢true h)
equal_no_nan (inf s) (inf t) h = (tt, tt)
equal_no_nan (inf s) (fin t n d) h = (tt, tt)
equal_no_nan (fin s m e) nan h = absurd (false≢true h)
equal_no_nan (fin s m e) (inf t) h = (tt, tt)
equal_no_nan (fin s m e) (fin t n d) h = (tt, tt)

pub total_first : (x y : Float) (a b : Bool) → a ≡ is_nan x → b ≡ lt x y → (a || b) ≡ true → true ≡ total_le x y
unfolding total_le
total_first x y a b e f h = go (is_nan x) (lt x y) (level x y) (ap₂ (λ (p q : Bool). p || q) (sym e) (sym f) ∙ h)
  where
    go : (p q r : Bool) → (p || q) ≡ true → true ≡ (p || (q || r))
    go true q r h = refl
    go false true r h = refl
    go false false r h = absurd (false≢true h)

-- the test failed
pub total_rest : (x y : Float) (a b : Bool) → a ≡ is_nan x → b ≡ lt x y → (a || b) ≡ false → total_le x y ≡ level x y
unfolding total_le
total_rest x y a b e f h = go (is_nan x) (lt x y) (level x y) (ap₂ (λ (p q : Bool). p || q) (sym e) (sym f) ∙ h)
  where
    go : (p q r : Bool) → (p || q) ≡ false → (p || (q || r)) ≡ r
    go true q r h = absurd (true≢false h)
    go false true r h = absurd (true≢false h)
    go false false r h = refl

pub level-yes : (f : Format) (x y : Float) → T (fits f x) → T (fits f y) → eq x y ≡ true → leb (to_bits f y) (to_bits f x) ≡ level x y
level-yes f x y F G k = level-bits f x y F G (yes k) ∙ ap (λ (b : Bool). b && (sign x || not (sign y))) (sym k)

-- ---- the second of three
pub second_is : (x p q : Float) → get_or (insert x (p ∷ q ∷ [])) 1 nan ≡ cond (total_le x p) p (cond (total_le x q) x q)
unfolding insert
second_is x p q = go (total_le x p) (total_le x q)
  where
    go : (a b : Bool) → get_or (cond a (x ∷ p ∷ q ∷ []) (p ∷ cond b (x ∷ q ∷ []) (q ∷ x ∷ []))) 1 nan ≡ cond a p (cond b x q)
    go true b = refl
    go false true = refl
    go false false = refl

one_more : (b c : Float) → insert b (c ∷ []) ≡ cond (total_le b c) (b ∷ c ∷ []) (c ∷ b ∷ [])
unfolding insert
one_more b c = refl

sorted : (a b c : Float) → median_f a b c ≡ get_or (insert a (insert b (c ∷ []))) 1 nan
unfolding median_f sort insert
sorted a b c = refl

pub median-is : (a b c : Float) → median_f a b c ≡ cond (total_le b c) (get_or (insert a (b ∷ c ∷ [])) 1 nan) (get_or (insert a (c ∷ b ∷ [])) 1 nan)
median-is a b c = sorted a b c ∙ ap (λ (l : List Float). get_or (insert a l) 1 nan) (one_more b c) ∙ go (total_le b c)
  where
    go : (t : Bool) → get_or (insert a (cond t (b ∷ c ∷ []) (c ∷ b ∷ []))) 1 nan ≡ cond t (get_or (insert a (b ∷ c ∷ [])) 1 nan) (get_or (insert a (c ∷ b ∷ [])) 1 nan)
    go true = refl
    go false = refl
