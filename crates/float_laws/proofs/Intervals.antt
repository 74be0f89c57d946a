-- Ranges by computation. An expression over values in known ranges, of +, -, *, /, min and max, lies in the range that `span` computes from the ends, of any signs, where `ok` computes to true:
-- every end on the way is finite, and every divisor's range is above zero. A fact on an expression is then `sound` at its tree, and `tt`. Assumes nothing.
use mathlib.Core.Path.{◌≡◌, sym, subst}
use mathlib.Core.Logic.{◌⊎◌, inl, inr}
use mathlib.Core.List.{List, [], ◌∷◌}
use Prim.Native.Nat.{ℕ, zero, suc}
use mathlib.Core.Bool.{Bool, not, ◌&&◌}
use lib.Dec.{T}
use lib.Ieee.{Float, Format, le, lt, add, sub, mul, div, is_nan}
use lib.Ieee.Fits.{and_l, and_r}
use lib.Ieee.Scale.{finite}
use lib.Ieee.Positive.{positive, between}
use Rattle.ieee.specs.Range.{In}
use Rattle.float.specs.Pick.{min_f, max_f}
use Rattle.ieee.proofs.Value.{P, N, le_refl, le_trans, le-no-nan, finite-no-nan}
use Rattle.ieee.proofs.Mono.{null, one-sign, mul-up, mul-down, mul_comm, div_mono, div-up, div-down}
use Rattle.ieee.proofs.Bounds.{in-finite, add-in, sub_in}
use Rattle.laws.proofs.Picks.{either}
use Rattle.float_laws.proofs.MinMax.{lower, upper, lower-le, upper-ge, min-is, max-is}

-- ---- between two values, whichever is the smaller
module _ (p q z : Float) (A : T (not (is_nan p))) (B : T (not (is_nan q))) where
  up_in : T (le p z) → T (le z q) → In (lower p q) (upper p q) z
  up_in h k = record { low = le_trans (lower p q) p z (lower-le p q A B).0 h; high = le_trans z q (upper p q) k (upper-ge p q A B).1 }

  down-in : T (le q z) → T (le z p) → In (lower p q) (upper p q) z
  down-in h k = record { low = le_trans (lower p q) q z (lower-le p q A B).1 h; high = le_trans z p (upper p q) k (upper-ge p q A B).0 }

min-mono : (p q p' q' : Float) → T (not (is_nan p)) → T (not (is_nan q)) → T (le p p') → T (le q q') → T (le (lower p q) (lower p' q'))
min-mono p q p' q' A B h k = either (λ (z : Float). T (le (lower p q) z)) (lt q' p') q' p' (le_trans (lower p q) q q' (lower-le p q A B).1 k) (le_trans (lower p q) p p' (lower-le p q A B).0 h)

max-mono : (p q p' q' : Float) → T (not (is_nan p')) → T (not (is_nan q')) → T (le p p') → T (le q q') → T (le (upper p q) (upper p' q'))
max-mono p q p' q' A B h k = either (λ (z : Float). T (le z (upper p' q'))) (lt p q) q p (le_trans q q' (upper p' q') k (upper-ge p' q' A B).1) (le_trans p p' (upper p' q') h (upper-ge p' q' A B).0)

module _ (f : Format) (c lo hi y : Float) (C : T (finite c)) (A : T (finite lo)) (B : T (finite hi)) (i : In lo hi y) (p : T (not (is_nan (mul f c lo)))) (q : T (not (is_nan (mul f c hi)))) where
  scaled-in : In (lower (mul f c lo) (mul f c hi)) (upper (mul f c lo) (mul f c hi)) (mul f c y)
  scaled-in = go (one-sign c)
    where
      Y : T (finite y)
      Y = in-finite A B i

      go : (N c ≡ 0) ⊎ (P c ≡ 0) → In (lower (mul f c lo) (mul f c hi)) (upper (mul f c lo) (mul f c hi)) (mul f c y)
      go (inl e) = up_in (mul f c lo) (mul f c hi) (mul f c y) p q (mul-up f c lo y C A Y i.low e) (mul-up f c y hi C Y B i.high e)
      go (inr e) = down-in (mul f c lo) (mul f c hi) (mul f c y) p q (mul-down f c y hi C Y B i.high e) (mul-down f c lo y C A Y i.low e)

abbrev pub low4 : Float → Float → Float → Float → Float
low4 p q r s = lower (lower p q) (lower r s)

abbrev pub high4 : Float → Float → Float → Float → Float
high4 p q r s = upper (upper p q) (upper r s)

-- ---- a product, by its four corners
module _ (f : Format) (a b c d x y : Float) (A : T (finite a)) (B : T (finite b)) (C : T (finite c)) (D : T (finite d)) (i : In a b x) (j : In c d y)
    (p : T (finite (mul f a c))) (q : T (finite (mul f a d))) (r : T (finite (mul f b c))) (s : T (finite (mul f b d))) where
  pub product-in : In (low4 (mul f a c) (mul f a d) (mul f b c) (mul f b d)) (high4 (mul f a c) (mul f a d) (mul f b c) (mul f b d)) (mul f x y)
  product-in =
      let P' = finite-no-nan (mul f a c) p in
      let Q' = finite-no-nan (mul f a d) q in
      let R' = finite-no-nan (mul f b c) r in
      let S' = finite-no-nan (mul f b d) s in
      let Y = in-finite C D j in
      let ay : In (lower (mul f a c) (mul f a d)) (upper (mul f a c) (mul f a d)) (mul f y a) = subst (In (lower (mul f a c) (mul f a d)) (upper (mul f a c) (mul f a d))) (mul_comm f a y) (scaled-in f a c d y A C D j P' Q') in
      let by : In (lower (mul f b c) (mul f b d)) (upper (mul f b c) (mul f b d)) (mul f y b) = subst (In (lower (mul f b c) (mul f b d)) (upper (mul f b c) (mul f b d))) (mul_comm f b y) (scaled-in f b c d y B C D j R' S') in
      let n-ay = le-no-nan (lower (mul f a c) (mul f a d)) (mul f y a) ay.low in
      let n-by = le-no-nan (lower (mul f b c) (mul f b d)) (mul f y b) by.low in
      let xy = subst (In (lower (mul f y a) (mul f y b)) (upper (mul f y a) (mul f y b))) (mul_comm f y x) (scaled-in f y a b x Y A B i n-ay.1 n-by.1) in
      record {
        low = le_trans (low4 (mul f a c) (mul f a d) (mul f b c) (mul f b d)) (lower (mul f y a) (mul f y b)) (mul f x y)
            (min-mono (lower (mul f a c) (mul f a d)) (lower (mul f b c) (mul f b d)) (mul f y a) (mul f y b) n-ay.0 n-by.0 ay.low by.low) xy.low;
        high = le_trans (mul f x y) (upper (mul f y a) (mul f y b)) (high4 (mul f a c) (mul f a d) (mul f b c) (mul f b d)) xy.high
            (max-mono (mul f y a) (mul f y b) (upper (mul f a c) (mul f a d)) (upper (mul f b c) (mul f b d)) (le-no-nan (mul f y a) (upper (mul f a c) (mul f a d)) ay.high).1 (le-no-nan (mul f y b) (upper (mul f b c) (mul f b d)) by.high).1 ay.high by.high);
      }

-- ---- a quotient by a divisor above zero
module _ (f : Format) (n c d y : Float) (X : T (finite n)) (C : T (positive c)) (D : T (positive d)) (j : In c d y) (p : T (not (is_nan (div f n c)))) (q : T (not (is_nan (div f n d)))) where
  parted-in : In (lower (div f n c) (div f n d)) (upper (div f n c) (div f n d)) (div f n y)
  parted-in = go (one-sign n)
    where
      Y : T (positive y)
      Y = between c y d C D j.low j.high

      go : (N n ≡ 0) ⊎ (P n ≡ 0) → In (lower (div f n c) (div f n d)) (upper (div f n c) (div f n d)) (div f n y)
      go (inl e) = down-in (div f n c) (div f n d) (div f n y) p q (div-down f n y d X Y D j.high e) (div-down f n c y X C Y j.low e)
      go (inr e) = up_in (div f n c) (div f n d) (div f n y) p q (div-up f n c y X C Y j.low e) (div-up f n y d X Y D j.high e)

module _ (f : Format) (a b c d x y : Float) (A : T (finite a)) (B : T (finite b)) (C : T (positive c)) (D : T (positive d)) (i : In a b x) (j : In c d y)
    (p : T (finite (div f a c))) (q : T (finite (div f a d))) (r : T (finite (div f b c))) (s : T (finite (div f b d))) where
  pub quotient-in : In (lower (div f a c) (div f a d)) (upper (div f b c) (div f b d)) (div f x y)
  quotient-in =
      let X = in-finite A B i in
      let Y = between c y d C D j.low j.high in
      let ay = parted-in f a c d y A C D j (finite-no-nan (div f a c) p) (finite-no-nan (div f a d) q) in
      let by = parted-in f b c d y B C D j (finite-no-nan (div f b c) r) (finite-no-nan (div f b d) s) in
      record {
        low = le_trans (lower (div f a c) (div f a d)) (div f a y) (div f x y) ay.low (div_mono f a x y A X Y i.low);
        high = le_trans (div f x y) (div f b y) (upper (div f b c) (div f b d)) (div_mono f x b y X B Y i.high) by.high;
      }

-- ---- expressions
pub data Ex : Type 0 where
  var : ℕ → Ex
  lit : Float → Ex
  plus less times over : Format → Ex → Ex → Ex
  least most : Ex → Ex → Ex

abbrev pub Range : Type 0
Range = Float × Float

abbrev pub pick : {A : Type 0} → A → List A → ℕ → A
pick d [] i = d
pick d (x ∷ xs) zero = x
pick d (x ∷ xs) (suc i) = pick d xs i

abbrev pub eval : List Float → Ex → Float
eval ρ (var i) = pick null ρ i
eval ρ (lit x) = x
eval ρ (plus f a b) = add f (eval ρ a) (eval ρ b)
eval ρ (less f a b) = sub f (eval ρ a) (eval ρ b)
eval ρ (times f a b) = mul f (eval ρ a) (eval ρ b)
eval ρ (over f a b) = div f (eval ρ a) (eval ρ b)
eval ρ (least a b) = min_f (eval ρ a) (eval ρ b)
eval ρ (most a b) = max_f (eval ρ a) (eval ρ b)

abbrev span_over : Format → Range → Range → Range
span_over f a b = (lower (div f a.0 b.0) (div f a.0 b.1), upper (div f a.1 b.0) (div f a.1 b.1))

abbrev span_times : Format → Range → Range → Range
span_times f a b = (low4 (mul f a.0 b.0) (mul f a.0 b.1) (mul f a.1 b.0) (mul f a.1 b.1), high4 (mul f a.0 b.0) (mul f a.0 b.1) (mul f a.1 b.0) (mul f a.1 b.1))

abbrev pub span : List Range → Ex → Range
span R (var i) = pick (null, null) R i
span R (lit x) = (x, x)
span R (plus f a b) = (add f (span R a).0 (span R b).0, add f (span R a).1 (span R b).1)
span R (less f a b) = (sub f (span R a).0 (span R b).1, sub f (span R a).1 (span R b).0)
span R (times f a b) = span_times f (span R a) (span R b)
span R (over f a b) = span_over f (span R a) (span R b)
span R (least a b) = (lower (span R a).0 (span R b).0, lower (span R a).1 (span R b).1)
span R (most a b) = (upper (span R a).0 (span R b).0, upper (span R a).1 (span R b).1)

abbrev ends : Range → Bool
ends r = finite r.0 && finite r.1

abbrev ok_times : Format → Range → Range → Bool
ok_times f a b = (finite (mul f a.0 b.0) && finite (mul f a.0 b.1)) && (finite (mul f a.1 b.0) && finite (mul f a.1 b.1))

abbrev ok_over : Format → Range → Range → Bool
ok_over f a b = (positive b.0 && positive b.1) && ((finite (div f a.0 b.0) && finite (div f a.0 b.1)) && (finite (div f a.1 b.0) && finite (div f a.1 b.1)))

abbrev pub ok : List Range → Ex → Bool
ok R (var i) = ends (span R (var i))
ok R (lit x) = ends (x, x)
ok R (plus f a b) = (ok R a && ok R b) && ends (span R (plus f a b))
ok R (less f a b) = (ok R a && ok R b) && ends (span R (less f a b))
ok R (times f a b) = (ok R a && ok R b) && (ends (span R (times f a b)) && ok_times f (span R a) (span R b))
ok R (over f a b) = (ok R a && ok R b) && (ends (span R (over f a b)) && ok_over f (span R a) (span R b))
ok R (least a b) = (ok R a && ok R b) && ends (span R (least a b))
ok R (most a b) = (ok R a && ok R b) && ends (span R (most a b))

-- each value in its range
pub data Known : List Range → List Float → Type 0 where
  none : Known [] []
  more : {r : Range} {x : Float} {R : List Range} {ρ : List Float} → In r.0 r.1 x → Known R ρ → Known (r ∷ R) (x ∷ ρ)

two_ends : (r : Range) → T (ends r) → T (finite r.0) × T (finite r.1)
two_ends r t = (and_l (finite r.0) (finite r.1) t, and_r (finite r.0) (finite r.1) t)

ends_of : (R : List Range) (e : Ex) → T (ok R e) → T (finite (span R e).0) × T (finite (span R e).1)
ends_of R (var i) t = two_ends (span R (var i)) t
ends_of R (lit x) t = two_ends (x, x) t
ends_of R (plus f a b) t = two_ends (span R (plus f a b)) (and_r (ok R a && ok R b) (ends (span R (plus f a b))) t)
ends_of R (less f a b) t = two_ends (span R (less f a b)) (and_r (ok R a && ok R b) (ends (span R (less f a b))) t)
ends_of R (times f a b) t =
    two_ends (span R (times f a b)) (and_l (ends (span R (times f a b))) (ok_times f (span R a) (span R b)) (and_r (ok R a && ok R b) (ends (span R (times f a b)) && ok_times f (span R a) (span R b)) t))
ends_of R (over f a b) t =
    two_ends (span R (over f a b)) (and_l (ends (span R (over f a b))) (ok_over f (span R a) (span R b)) (and_r (ok R a && ok R b) (ends (span R (over f a b)) && ok_over f (span R a) (span R b)) t))
ends_of R (least a b) t = two_ends (span R (least a b)) (and_r (ok R a && ok R b) (ends (span R (least a b))) t)
ends_of R (most a b) t = two_ends (span R (most a b)) (and_r (ok R a && ok R b) (ends (span R (most a b))) t)

null-in : In null null null
null-in = unfold le in record { low = tt; high = tt }

var-in : (R : List Range) (ρ : List Float) (i : ℕ) → Known R ρ → In (pick (null, null) R i).0 (pick (null, null) R i).1 (pick null ρ i)
var-in [] [] i none = null-in
var-in [] (x ∷ ρ) i h = elim h [ ]
var-in (r ∷ R) [] i h = elim h [ ]
var-in (r ∷ R) (x ∷ ρ) zero (more h k) = h
var-in (r ∷ R) (x ∷ ρ) (suc i) (more h k) = var-in R ρ i k

lit-in : (x : Float) → T (finite x) → In x x x
lit-in x t = record { low = le_refl x (finite-no-nan x t); high = le_refl x (finite-no-nan x t) }

pub sound : (R : List Range) (ρ : List Float) (e : Ex) → Known R ρ → T (ok R e) → In (span R e).0 (span R e).1 (eval ρ e)
sound R ρ (var i) k t = var-in R ρ i k
sound R ρ (lit x) k t = lit-in x (two_ends (x, x) t).0
sound R ρ (plus f a b) k t =
    let u = and_l (ok R a && ok R b) (ends (span R (plus f a b))) t in
    let p = and_l (ok R a) (ok R b) u in
    let q = and_r (ok R a) (ok R b) u in
    let A = ends_of R a p in
    let B = ends_of R b q in
    add-in f (span R a).0 (span R a).1 (span R b).0 (span R b).1 (eval ρ a) (eval ρ b) A.0 A.1 B.0 B.1 (sound R ρ a k p) (sound R ρ b k q)
sound R ρ (less f a b) k t =
    let u = and_l (ok R a && ok R b) (ends (span R (less f a b))) t in
    let p = and_l (ok R a) (ok R b) u in
    let q = and_r (ok R a) (ok R b) u in
    let A = ends_of R a p in
    let B = ends_of R b q in
    sub_in f (span R a).0 (span R a).1 (span R b).0 (span R b).1 (eval ρ a) (eval ρ b) A.0 A.1 B.0 B.1 (sound R ρ a k p) (sound R ρ b k q)
sound R ρ (times f a b) k t =
    let v = ends (span R (times f a b)) && ok_times f (span R a) (span R b) in
    let u = and_l (ok R a && ok R b) v t in
    let p = and_l (ok R a) (ok R b) u in
    let q = and_r (ok R a) (ok R b) u in
    let A = ends_of R a p in
    let B = ends_of R b q in
    let w = and_r (ends (span R (times f a b))) (ok_times f (span R a) (span R b)) (and_r (ok R a && ok R b) v t) in
    let f1 = finite (mul f (span R a).0 (span R b).0) in
    let f2 = finite (mul f (span R a).0 (span R b).1) in
    let f3 = finite (mul f (span R a).1 (span R b).0) in
    let f4 = finite (mul f (span R a).1 (span R b).1) in
    product-in f (span R a).0 (span R a).1 (span R b).0 (span R b).1 (eval ρ a) (eval ρ b) A.0 A.1 B.0 B.1 (sound R ρ a k p) (sound R ρ b k q)
    (and_l f1 f2 (and_l (f1 && f2) (f3 && f4) w)) (and_r f1 f2 (and_l (f1 && f2) (f3 && f4) w)) (and_l f3 f4 (and_r (f1 && f2) (f3 && f4) w)) (and_r f3 f4 (and_r (f1 && f2) (f3 && f4) w))
sound R ρ (over f a b) k t =
    let v = ends (span R (over f a b)) && ok_over f (span R a) (span R b) in
    let u = and_l (ok R a && ok R b) v t in
    let p = and_l (ok R a) (ok R b) u in
    let q = and_r (ok R a) (ok R b) u in
    let A = ends_of R a p in
    let w = and_r (ends (span R (over f a b))) (ok_over f (span R a) (span R b)) (and_r (ok R a && ok R b) v t) in
    let f1 = finite (div f (span R a).0 (span R b).0) in
    let f2 = finite (div f (span R a).0 (span R b).1) in
    let f3 = finite (div f (span R a).1 (span R b).0) in
    let f4 = finite (div f (span R a).1 (span R b).1) in
    let g1 = positive (span R b).0 in
    let g2 = positive (span R b).1 in
    let w' = and_r (g1 && g2) ((f1 && f2) && (f3 && f4)) w in
    let g = and_l (g1 && g2) ((f1 && f2) && (f3 && f4)) w in
    quotient-in f (span R a).0 (span R a).1 (span R b).0 (span R b).1 (eval ρ a) (eval ρ b) A.0 A.1 (and_l g1 g2 g) (and_r g1 g2 g) (sound R ρ a k p) (sound R ρ b k q)
    (and_l f1 f2 (and_l (f1 && f2) (f3 && f4) w')) (and_r f1 f2 (and_l (f1 && f2) (f3 && f4) w')) (and_l f3 f4 (and_r (f1 && f2) (f3 && f4) w')) (and_r f3 f4 (and_r (f1 && f2) (f3 && f4) w'))
sound R ρ (least a b) k t =
    let u = and_l (ok R a && ok R b) (ends (span R (least a b))) t in
    let p = and_l (ok R a) (ok R b) u in
    let q = and_r (ok R a) (ok R b) u in
    let i = sound R ρ a k p in
    let j = sound R ρ b k q in
    let l = le-no-nan (span R a).0 (eval ρ a) i.low in
    let m = le-no-nan (span R b).0 (eval ρ b) j.low in
    subst (In (span R (least a b)).0 (span R (least a b)).1) (sym (min-is (eval ρ a) (eval ρ b) l.1))
    (record {
      low = min-mono (span R a).0 (span R b).0 (eval ρ a) (eval ρ b) l.0 m.0 i.low j.low;
      high = min-mono (eval ρ a) (eval ρ b) (span R a).1 (span R b).1 l.1 m.1 i.high j.high;
    })
sound R ρ (most a b) k t =
    let u = and_l (ok R a && ok R b) (ends (span R (most a b))) t in
    let p = and_l (ok R a) (ok R b) u in
    let q = and_r (ok R a) (ok R b) u in
    let i = sound R ρ a k p in
    let j = sound R ρ b k q in
    let l = le-no-nan (span R a).0 (eval ρ a) i.low in
    let m = le-no-nan (span R b).0 (eval ρ b) j.low in
    subst (In (span R (most a b)).0 (span R (most a b)).1) (sym (max-is (eval ρ a) (eval ρ b) l.1))
    (record {
      low = max-mono (span R a).0 (span R b).0 (eval ρ a) (eval ρ b) l.1 m.1 i.low j.low;
      high = max-mono (eval ρ a) (eval ρ b) (span R a).1 (span R b).1 (le-no-nan (eval ρ a) (span R a).1 i.high).1 (le-no-nan (eval ρ b) (span R b).1 j.high).1 i.high j.high;
    })

-- in a range that is stated: the ends are compared by computation too
pub within : (R : List Range) (ρ : List Float) (e : Ex) (lo hi : Float) → Known R ρ → T (ok R e && (le lo (span R e).0 && le (span R e).1 hi)) → In lo hi (eval ρ e)
within R ρ e lo hi k t =
    let a = le lo (span R e).0 in
    let b = le (span R e).1 hi in
    let i = sound R ρ e k (and_l (ok R e) (a && b) t) in
    record {
      low = le_trans lo (span R e).0 (eval ρ e) (and_l a b (and_r (ok R e) (a && b) t)) i.low;
      high = le_trans (eval ρ e) (span R e).1 hi i.high (and_r a b (and_r (ok R e) (a && b) t));
    }
