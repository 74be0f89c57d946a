-- Values above zero as whole numbers of the format's smallest value, 2 ^ -low: sums, differences and roundings. Assumes nothing.
use mathlib.Core.Path.{◌≡◌, refl, sym, ap, ◌∙◌, subst}
use Prim.Native.Nat.{ℕ, suc, ◌+◌, ◌-◌, ◌*◌, ◌/◌, ◌%◌, ◌^◌, ◌≤◌, ◌<◌, compare, Ordering}
use native.Mathlib.Nat
use native.Mathlib.Nat.{le_antisymm, lt_of_lt_of_le, mul-div_cancel, mul-pos, mul_assoc, add-mul-div_right, add-mul-mod_self_right, div-lt_iff_lt-mul, not-le_of_lt, le_of_mul-le-mul_right, mul-le-mul_right, eq_of_mul-eq-mul_right}
use native.Mathlib.Omega.{arith}
use mathlib.Core.Bool.{Bool, true, false, cond, true≢false}
use lib.Dec.{T, ltb, ltb→lt}
use lib.Pow.{pow-add, pow_pos, pow_mono, shr_lt}
use lib.Ieee.{Float, nan, inf, fin, Format, prec, low, up, down, size, nearest, round, units, sum, add, sub, fits}
use lib.Ieee.Digits.{size-lt, size-le}
use lib.Ieee.Fits.{round_is, down_pos}
use lib.Ieee.Exact.{HasValue}
use lib.Ieee.Nearest.{closest, closest_same}
use lib.Ieee.Scale.{round_same}
use Rattle.ieee.proofs.Representable.{unique}

-- ---- how many digits a shifted number has
cover : (z t : ℕ) → z ≤ z - t + t
cover z t = omega arith

less-le : (z s t : ℕ) → s ≤ z + t → s - t ≤ z
less-le z s t h = omega arith

pub size-shr : (n t : ℕ) → size (n / 2 ^ t) ≡ size n - t
size-shr n t =
    le_antisymm (size-le (n / 2 ^ t) (size n - t) (shr_lt (size n - t) t (lt_of_lt_of_le (size-lt n) (pow_mono (cover (size n) t)))))
    (less-le (size (n / 2 ^ t)) (size n) t (size-le n (size (n / 2 ^ t) + t) (subst (λ (x : ℕ). n < x) (sym (pow-add 2 (size (n / 2 ^ t)) t)) ((div-lt_iff_lt-mul (pow_pos t)).0 (size-lt (n / 2 ^ t))))))

-- 2 ^ h more than a number below 2 ^ h
pub size-more : (n h : ℕ) → n < 2 ^ h → size (n + 2 ^ h) ≡ suc h
size-more n h l =
    le_antisymm (size-le (n + 2 ^ h) (suc h) (omega arith))
    (Nat.lt_of_not-le (λ (g : size (n + 2 ^ h) ≤ h). clash (n + 2 ^ h) (2 ^ h) (lt_of_lt_of_le (size-lt (n + 2 ^ h)) (pow_mono g)) (Nat.le-add_left (2 ^ h) n)))
  where
    clash : (a b : ℕ) → a < b → b ≤ a → ⊥
    clash a b p q = omega arith

-- ---- an even multiple of the unit goes through the rounding
nearest-add : (c q : ℕ) (o : Ordering) → c % 2 ≡ 0 → nearest (q + c) o ≡ nearest q o + c
nearest-add c q Ordering.lt h = refl
nearest-add c q Ordering.eq h = omega arith
nearest-add c q Ordering.gt h = omega arith

pub closest-add : (a b c : ℕ) → 0 < b → c % 2 ≡ 0 → closest (a + c * b) b ≡ closest a b + c
closest-add a b c B h =
    ap (λ (x : ℕ). nearest x (compare ((a + c * b) % b * 2) b)) (add-mul-div_right a c B)
    ∙ ap (λ (x : ℕ). nearest (a / b + c) (compare (x * 2) b)) (add-mul-mod_self_right a c b)
    ∙ nearest-add c (a / b) (compare (a % b * 2) b) h

-- ---- a rounding of v units
pub round-units : (f : Format) (s : Bool) (v : ℕ) → round f s v (2 ^ low f) ≡ units f s (closest v (2 ^ (size v - prec f))) (size v - prec f)
round-units f s v =
    let l = 2 ^ low f in
    let L = pow_pos (low f) in
    let k = size v - prec f in
    round_is f s v l
    ∙ ap (λ (x : ℕ). units f s (closest (v * l) (l * 2 ^ (size x - prec f))) (size x - prec f)) (mul-div_cancel v L)
    ∙ ap (λ (x : ℕ). units f s x k) (closest_same (v * l) (l * 2 ^ k) v (2 ^ k) (mul-pos L (pow_pos k)) (pow_pos k) (mul_assoc v l (2 ^ k)))

-- ---- sums and differences of values that are v and w units
pick : (f : Format) (a b c : ℕ) → b ≤ a → cond (ltb a b) (round f true (b - a) c) (round f false (a - b) c) ≡ round f false (a - b) c
pick f a b c h = go (ltb a b) (ltb→lt a b)
  where
    go : (t : Bool) → (T t → a < b) → cond t (round f true (b - a) c) (round f false (a - b) c) ≡ round f false (a - b) c
    go true k = absurd (not-le_of_lt (k tt) h)
    go false k = refl

difference : (A B L v w D : ℕ) → B ≤ A → w ≤ v → A * L ≡ v * D → B * L ≡ w * D → (A - B) * L ≡ (v - w) * D
difference A B L v w D h k a b = go (A - B) (v - w) (Nat.add-sub_of_le h) (Nat.add-sub_of_le k)
  where
    go : (x y : ℕ) → B + x ≡ A → w + y ≡ v → x * L ≡ y * D
    go x y i j = omega (arith, a, b, ap (λ (z : ℕ). z * L) i, ap (λ (z : ℕ). z * D) j)

module _ (f : Format) where
  abbrev pub Units : Float → ℕ → Type 0
  Units x v = HasValue x false v (2 ^ low f)

  pub add-units : (x y : Float) (v w : ℕ) → Units x v → Units y w → add f x y ≡ round f false (v + w) (2 ^ low f)
  unfolding add sum
  add-units nan y v w p q = absurd p
  add-units (inf s) y v w p q = absurd p
  add-units (fin true m e) y v w p q = absurd (true≢false p.0)
  add-units (fin false m e) nan v w p q = absurd q
  add-units (fin false m e) (inf t) v w p q = absurd q
  add-units (fin false m e) (fin true n d) v w p q = absurd (true≢false q.0)
  add-units (fin false m e) (fin false n d) v w p q =
      let a = m * up e in
      let b = n * up d in
      round_same f false (a * down d + b * down e) (down e * down d) (v + w) (2 ^ low f) (mul-pos (down_pos e) (down_pos d)) (pow_pos (low f))
      (omega (arith, ap (λ (x : ℕ). x * down d) p.1, ap (λ (x : ℕ). x * down e) q.1))

  pub sub-units : (x y : Float) (v w : ℕ) → Units x v → Units y w → w ≤ v → sub f x y ≡ round f false (v - w) (2 ^ low f)
  unfolding sub sum
  sub-units nan y v w p q h = absurd p
  sub-units (inf s) y v w p q h = absurd p
  sub-units (fin true m e) y v w p q h = absurd (true≢false p.0)
  sub-units (fin false m e) nan v w p q h = absurd q
  sub-units (fin false m e) (inf t) v w p q h = absurd q
  sub-units (fin false m e) (fin true n d) v w p q h = absurd (true≢false q.0)
  sub-units (fin false m e) (fin false n d) v w p q h =
      let A = m * up e * down d in
      let B = n * up d * down e in
      let D = down e * down d in
      let L = 2 ^ low f in
      let a : A * L ≡ v * D = omega (arith, ap (λ (x : ℕ). x * down d) p.1) in
      let b : B * L ≡ w * D = omega (arith, ap (λ (x : ℕ). x * down e) q.1) in
      let l : B ≤ A = le_of_mul-le-mul_right {k = L} (omega (arith, a, b, mul-le-mul_right D h)) (pow_pos (low f)) in
      pick f A B D l ∙ round_same f false (A - B) D (v - w) L (mul-pos (down_pos e) (down_pos d)) (pow_pos (low f)) (difference A B L v w D l h a b)

-- ---- one value as another fraction of the same size
pub rescale : (x : Float) (s : Bool) (w l a c : ℕ) → 0 < l → a * l ≡ w * c → HasValue x s w l → HasValue x s a c
rescale nan s w l a c L h v = v
rescale (inf t) s w l a c L h v = v
rescale (fin t m e) s w l a c L h v = (v.0, go (m * up e) (down e) v.1)
  where
    go : (x d : ℕ) → x * l ≡ w * d → x * c ≡ a * d
    go x d k = eq_of_mul-eq-mul_right l L (x * c) (a * d) (omega (arith, ap (λ (z : ℕ). z * c) k, ap (λ (z : ℕ). z * d) h))

-- ---- two values that a format holds, by their fractions
pub same-value : (f : Format) (x y : Float) (a c b d : ℕ) → T (fits f x) → T (fits f y) → 0 < c → 0 < d → HasValue x false a c → HasValue y false b d → a * d ≡ b * c → x ≡ y
same-value f nan y a c b d p q C D v w e = absurd v
same-value f (inf s) y a c b d p q C D v w e = absurd v
same-value f (fin true m g) y a c b d p q C D v w e = absurd (true≢false v.0)
same-value f (fin false m g) nan a c b d p q C D v w e = absurd w
same-value f (fin false m g) (inf s) a c b d p q C D v w e = absurd w
same-value f (fin false m g) (fin true n h) a c b d p q C D v w e = absurd (true≢false w.0)
same-value f (fin false m g) (fin false n h) a c b d p q C D v w e =
    unique f false m g n h p q (go (m * up g) (down g) (n * up h) (down h) v.1 w.1)
  where
    go : (x G y H : ℕ) → x * c ≡ a * G → y * d ≡ b * H → x * H ≡ y * G
    go x G y H i j = eq_of_mul-eq-mul_right (c * d) (mul-pos C D) (x * H) (y * G) (omega (arith, ap (λ (z : ℕ). z * (H * d)) i, ap (λ (z : ℕ). z * (G * c)) j, ap (λ (z : ℕ). z * (G * H)) e))
