-- The kit's `round` keeps the rule of specs/Rounding for every format, sign and fraction, subnormal results and overflow included; and
-- the rule leaves no other value that the format holds.
-- Assumes nothing.
use mathlib.Core.Path.{◌≡◌, refl, sym, ap, ◌∙◌, subst}
use Prim.Native.Nat.{ℕ, suc, ◌+◌, ◌-◌, ◌*◌, ◌^◌, ◌≤◌, ◌<◌}
use native.Mathlib.Nat.{le_antisymm, eq_of_mul-eq-mul_right, lt_of_not-le, not-le_of_lt, lt_of_mul-lt-mul_right, mul-lt-mul_of_pos_right}
use native.Mathlib.Omega.{arith}
use mathlib.Core.Bool.{Bool, true, false, not}
use lib.Dec.{T, leb, ltb, eqb, eqb→eq, eqb_refl, leb→le, nleb→lt, lit<}
use lib.Arith.{le→nltb}
use lib.Pow.{pow-add, pow_pos}
use lib.Ieee.{Float, nan, inf, fin, Format, binary32, binary64, prec, emax, low, odd, units, round, le, up, down, fits}
use lib.Ieee.Bits.{cond_no}
use lib.Ieee.Fits.{round_is, round-fits, two}
use lib.Ieee.Exact.{HasValue, units_val}
use lib.Ieee.Order.{round_mono}
use Rattle.ieee.proofs.Representable.{unique}
use Rattle.rounding.specs.Rounding.{Written, off, Nearest, Overflows, Datum, Rounded, finite, infinite}
use Rattle.rounding.proofs.Kept.{k, u, q, v, Spot, Canon, spot, nearer, levels, neighbour, canon, canonical, not-over}

-- ---- the formats' exponents
height : Format → ℕ
height f = 2 * emax f - 2

top : (f : Format) → low f + suc (emax f) ≡ prec f + suc (height f)
unfolding height
top binary32 = refl
top binary64 = refl

pub top' : (f : Format) → low f + suc (emax f) ≡ prec f - 1 + 2 * emax f
top' binary32 = refl
top' binary64 = refl

scale : (f : Format) → emax f + low f ≡ prec f + height f
unfolding height
scale binary32 = refl
scale binary64 = refl

some : (f : Format) → 0 < 2 * emax f
some binary32 = lit< tt
some binary64 = lit< tt

-- the standard's bound itself rounds to an infinity
huge : (f : Format) → round f false (2 ^ emax f * (2 ^ suc (prec f) - 1)) (2 ^ prec f) ≡ inf false
unfolding round
huge binary32 = refl
huge binary64 = refl

no_above : (x : Float) (w c : ℕ) → HasValue x false w c → T (le (inf false) x) → ⊥
no_above nan w c h t = h
no_above (inf s) w c h t = h
no_above (fin s m e) w c h t = unfold le in t

pub datum : (f : Format) (x : Float) (s : Bool) (w : ℕ) → HasValue x s w (2 ^ low f) → Datum (prec f) (emax f) x s w
datum f nan s w h = h
datum f (inf t) s w h = h
datum f (fin t m e) s w h = h

module _ (f : Format) (a d : ℕ) (D : 0 < d) where
  n : ℕ
  n = a * 2 ^ low f

  -- `round`'s magnitude
  kept : ℕ
  unfolding n
  kept = v (prec f) n d (two f) D

  as-units : (s : Bool) → round f s a d ≡ units f s (q (prec f) n d (two f) D) (k (prec f) n d (two f) D)
  unfolding n q k u
  as-units s = round_is f s a d

  value : (s : Bool) → kept < 2 ^ (low f + suc (emax f)) → HasValue (round f s a d) s kept (2 ^ low f)
  unfolding kept v
  value s h = subst (λ (x : Float). HasValue x s kept (2 ^ low f)) (sym (as-units s))
      (units_val f s (q (prec f) n d (two f) D) (k (prec f) n d (two f) D) h)

  over : (s : Bool) → 2 ^ (low f + suc (emax f)) ≤ kept → round f s a d ≡ inf s
  unfolding kept v units
  over s h = as-units s ∙ cond_no (ltb kept (2 ^ (low f + suc (emax f))))
      (odd (suc (prec f)) s (q (prec f) n d (two f) D) (k (prec f) n d (two f) D) (low f)) (inf s)
      (le→nltb kept (2 ^ (low f + suc (emax f))) h)

  overflows : Overflows (prec f) (emax f) a d → 2 ^ (low f + suc (emax f)) ≤ kept
  overflows o = go (leb (2 ^ (low f + suc (emax f))) kept) (leb→le _ _) (nleb→lt _ _)
    where
      le-inf : T (le (inf false) (round f false a d))
      le-inf = subst (λ (x : Float). T (le x (round f false a d))) (huge f)
          (round_mono f (2 ^ emax f * (2 ^ suc (prec f) - 1)) (2 ^ prec f) a d (pow_pos (prec f)) D o)

      go : (b : Bool) → (T b → 2 ^ (low f + suc (emax f)) ≤ kept) → (T (not b) → kept < 2 ^ (low f + suc (emax f)))
          → 2 ^ (low f + suc (emax f)) ≤ kept
      go true h g = h tt
      go false h g = absurd (no_above (round f false a d) kept (2 ^ low f) (value false (g tt)) le-inf)

  stays : (Overflows (prec f) (emax f) a d → ⊥) → kept < 2 ^ (low f + suc (emax f))
  unfolding kept n
  stays o =
      subst (λ (x : ℕ). kept < 2 ^ x) (sym (top f))
      (not-over (prec f) n d (two f) D (height f)
      (lt_of_mul-lt-mul_right (2 ^ prec f)
      (turn (2 ^ prec f) (2 ^ low f) (2 ^ emax f) (2 ^ suc (prec f) - 1) (2 ^ height f)
      (sym (pow-add 2 (emax f) (low f)) ∙ ap (λ (x : ℕ). 2 ^ x) (scale f) ∙ pow-add 2 (prec f) (height f))
      (mul-lt-mul_of_pos_right (lt_of_not-le o) (pow_pos (low f))))))
    where
      turn : (x l m y h : ℕ) → m * l ≡ x * h → a * x * l < m * y * d * l → a * l * x < h * y * d * x
      turn x l m y h e g = omega (arith, ap (λ (z : ℕ). z * (y * d)) e)

  -- ---- no number of the format is nearer, and where one is as near the kept one is even
  spot_of : (w c j : ℕ) → Written (prec f) (emax f) w c j → Spot (prec f) n d (two f) D c w
  spot_of w c j x = subst (λ (y : ℕ). Spot (prec f) n d (two f) D c y) (sym x.magnitude) (spot (prec f) n d (two f) D c j x.digits)

  whole : kept < 2 ^ (low f + suc (emax f)) → Canon (prec f) n d (two f) D (2 * emax f)
  unfolding kept
  whole h = canonical (prec f) n d (two f) D (2 * emax f) (some f) (subst (λ (x : ℕ). kept < 2 ^ x) (top' f) h)

  nearest-kept : kept < 2 ^ (low f + suc (emax f)) → Nearest (prec f) (emax f) a d kept
  unfolding kept n
  nearest-kept h = go (whole h)
    where
      go : Canon (prec f) n d (two f) D (2 * emax f) → Nearest (prec f) (emax f) a d kept
      go (canon c j l b e z o) =
          let x : Written (prec f) (emax f) kept c j = record { digits = l; exponent = b; magnitude = e } in
          record {
            number = (c, j, x);
            nearest = λ w g. nearer (prec f) n d (two f) D g.0 w (spot_of w g.0 g.1 g.2);
            tie = λ w g ne i. elim (levels (prec f) n d (two f) D g.0 w (spot_of w g.0 g.1 g.2) ne i)
                [ neighbour even odd ↦ (c, j, x, z, o even) ];
          }

-- ---- the law: `round` keeps the rule
pub rounded : (f : Format) (s : Bool) (a d : ℕ) → 0 < d → Rounded (prec f) (emax f) s a d (round f s a d)
rounded f s a d D = go (leb (2 ^ emax f * (2 ^ suc (prec f) - 1) * d) (a * 2 ^ prec f)) (leb→le _ _) (nleb→lt _ _)
  where
    go : (b : Bool) → (T b → Overflows (prec f) (emax f) a d) → (T (not b) → a * 2 ^ prec f < 2 ^ emax f * (2 ^ suc (prec f) - 1) * d)
        → Rounded (prec f) (emax f) s a d (round f s a d)
    go true h g = infinite (h tt) (over f a d D s (overflows f a d D (h tt)))
    go false h g =
        let l = stays f a d D (not-le_of_lt (g tt)) in
        finite (not-le_of_lt (g tt)) (kept f a d D) (nearest-kept f a d D l) (datum f (round f s a d) s (kept f a d D) (value f a d D s l))

-- ---- and nothing else does
module _ (f : Format) (a d : ℕ) (D : 0 < d) (l : kept f a d D < 2 ^ (low f + suc (emax f))) (w : ℕ)
    (N : Nearest (prec f) (emax f) a d w) where
  one-magnitude : w ≡ kept f a d D
  unfolding kept n
  one-magnitude = go (eqb w m) (eqb→eq w m) (λ e. subst (λ (x : ℕ). T (eqb w x)) e (eqb_refl w))
    where
      m : ℕ
      m = kept f a d D

      K : Nearest (prec f) (emax f) a d m
      K = nearest-kept f a d D l

      level : off (prec f) (emax f) a d m ≡ off (prec f) (emax f) a d w
      level = le_antisymm (K.nearest w N.number) (N.nearest m K.number)

      go : (b : Bool) → (T b → w ≡ m) → (w ≡ m → T b) → w ≡ m
      go true h g = h tt
      go false h g =
          let e = N.tie m K.number (λ z. g (sym z)) level in
          absurd (elim (levels (prec f) (n f a d D) d (two f) D e.0 w (spot_of f a d D w e.0 e.1 e.2) g (sym level))
          [ neighbour x odd ↦ odd e.4 ])

one-datum : (f : Format) (x y : Float) (s : Bool) (w : ℕ) → T (fits f x) → T (fits f y) → Datum (prec f) (emax f) x s w
    → Datum (prec f) (emax f) y s w → x ≡ y
one-datum f nan y s w p q g h = absurd g
one-datum f (inf t) y s w p q g h = absurd g
one-datum f (fin t m e) nan s w p q g h = absurd h
one-datum f (fin t m e) (inf r) s w p q g h = absurd h
one-datum f (fin t m e) (fin r i z) s w p q g h =
    let x = subst (λ (b : Bool). T (fits f (fin b m e))) (g.0 ∙ sym h.0) p in
    ap (λ (b : Bool). fin b m e) (g.0 ∙ sym h.0)
    ∙ unique f r m e i z x q (go (m * up e) (down e) (i * up z) (down z) (2 ^ low f) (pow_pos (low f)) g.1 h.1)
  where
    go : (a b c d l : ℕ) → 0 < l → a * l ≡ w * b → c * l ≡ w * d → a * d ≡ c * b
    go a b c d l L g h = eq_of_mul-eq-mul_right l L (a * d) (c * b) (omega (arith, ap (λ (x : ℕ). x * d) g, ap (λ (x : ℕ). x * b) h))

pub determined : (f : Format) (s : Bool) (a d : ℕ) (x : Float) → 0 < d → T (fits f x) → Rounded (prec f) (emax f) s a d x
    → x ≡ round f s a d
determined f s a d x D t (infinite o e) = e ∙ sym (over f a d D s (overflows f a d D o))
determined f s a d x D t (finite o w N h) =
    let l = stays f a d D o in
    one-datum f x (round f s a d) s (kept f a d D) t (round-fits f s a d)
    (subst (λ (y : ℕ). Datum (prec f) (emax f) x s y) (one-magnitude f a d D l w N) h)
    (datum f (round f s a d) s (kept f a d D) (value f a d D s l))
