-- `total_le` is a total order, `sort` puts a list in it, and the median is one of the three. Assumes nothing.
use mathlib.Core.Path.{◌≡◌, refl, sym, ap, ◌∙◌, subst}
use mathlib.Core.Logic.{◌⊎◌, inl, inr}
use mathlib.Core.List.{List, [], ◌∷◌}
use Prim.Native.Nat.{◌*◌}
use mathlib.Core.Bool.{Bool, true, false, not, ◌&&◌, ◌||◌, cond}
use lib.Dec.{T, eqb, eqb→eq}
use lib.ListN.{get_or}
use lib.Ieee.{Float, nan, inf, fin, Format, up, down, lt, eq, le, fits, is_nan}
use lib.Ieee.Fits.{and_l, and_i}
use Rattle.laws.proofs.Picks.{either}
use Rattle.ieee.proofs.Value.{or_l, or_r, le_trans, lt→le, eq→le, lt_not_le, not-lt→le, le_antisym, le-lt, lt-le, le-no-nan, eq-sym}
use Rattle.ieee.proofs.Representable.{unique}
use Rattle.float.specs.Total.{sign, total_le, insert, sort, median_f}
use Rattle.float.proofs.order.TotalLaws.{second_is, median-is}

-- ---- what the test says
pub data Before (x y : Float) : Type 0 where
  no_number : T (is_nan x) → Before x y
  smaller : T (lt x y) → Before x y
  level : T (eq x y) → T (sign x || not (sign y)) → Before x y

pub before : (x y : Float) → T (total_le x y) → Before x y
unfolding total_le
before x y = go (is_nan x) (lt x y) (eq x y) (sign x || not (sign y)) no_number smaller level
  where
    go : (a b c d : Bool) {X : Type 0} → (T a → X) → (T b → X) → (T c → T d → X) → T (a || (b || (c && d))) → X
    go true b c d f g h t = f tt
    go false true c d f g h t = g tt
    go false false true d f g h t = h tt t
    go false false false d f g h t = absurd t

pub of-before : (x y : Float) → Before x y → T (total_le x y)
unfolding total_le
of-before x y (no_number t) = or_l (is_nan x) _ t
of-before x y (smaller t) = or_r (is_nan x) _ (or_l (lt x y) _ t)
of-before x y (level t u) = or_r (is_nan x) _ (or_r (lt x y) _ (and_i (eq x y) (sign x || not (sign y)) t u))

split : (b : Bool) {X : Type 0} → (T b → X) → (T (not b) → X) → X
split true f g = f tt
split false f g = g tt

no : (b : Bool) → T (not b) → T b → ⊥
no true p q = p
no false p q = q

-- ---- total
pub total : (x y : Float) → T (total_le x y) ⊎ T (total_le y x)
total x y =
    split (is_nan x) (λ a. inl (of-before x y (no_number a)))
    (λ a. split (is_nan y) (λ b. inr (of-before y x (no_number b)))
    (λ b. split (lt x y) (λ c. inl (of-before x y (smaller c)))
    (λ c. split (lt y x) (λ d. inr (of-before y x (smaller d)))
    (λ d. signs (sign x) (sign y)
    (λ s. inl (of-before x y (level (le_antisym x y (not-lt→le y x b a d) (not-lt→le x y a b c)) s)))
    (λ s. inr (of-before y x (level (le_antisym y x (not-lt→le x y a b c) (not-lt→le y x b a d)) s)))))))
  where
    signs : (s t : Bool) {X : Type 0} → (T (s || not t) → X) → (T (t || not s) → X) → X
    signs true t f g = f tt
    signs false true f g = g tt
    signs false false f g = f tt

-- of two numbers the order is `le` too
pub below : (x y : Float) → T (not (is_nan x)) → T (total_le x y) → T (le x y)
below x y n h = go (before x y h)
  where
    go : Before x y → T (le x y)
    go (no_number t) = absurd (no (is_nan x) n t)
    go (smaller t) = lt→le x y t
    go (level t u) = eq→le x y t

-- ---- transitive
pub trans : (x y z : Float) → T (total_le x y) → T (total_le y z) → T (total_le x z)
trans x y z h k = split (is_nan x) (λ a. of-before x z (no_number a)) (λ a. of-before x z (go (before x y h) (before y z k) a))
  where
    chain : (s t u : Bool) → T (s || not t) → T (t || not u) → T (s || not u)
    chain true t u p q = tt
    chain false true u p q = absurd p
    chain false false u p q = q

    go : Before x y → Before y z → T (not (is_nan x)) → Before x z
    go (no_number t) q a = absurd (no (is_nan x) a t)
    go (smaller t) (no_number v) a = absurd (no (is_nan y) (le-no-nan x y (lt→le x y t)).1 v)
    go (smaller t) (smaller v) a = smaller (lt-le x y z t (lt→le y z v))
    go (smaller t) (level v w) a = smaller (lt-le x y z t (eq→le y z v))
    go (level t u) (no_number v) a = absurd (no (is_nan y) (le-no-nan x y (eq→le x y t)).1 v)
    go (level t u) (smaller v) a = smaller (le-lt x y z (eq→le x y t) v)
    go (level t u) (level v w) a =
        level (le_antisym x z (le_trans x y z (eq→le x y t) (eq→le y z v)) (le_trans z y x (eq→le z y (eq-sym y z v)) (eq→le y x (eq-sym x y t)))) (chain (sign x) (sign y) (sign z) u w)

-- ---- antisymmetric, on the values that a format holds
same_sign : (s t : Bool) → T (s || not t) → T (t || not s) → s ≡ t
same_sign true true p q = refl
same_sign true false p q = absurd q
same_sign false true p q = absurd p
same_sign false false p q = refl

level-same : (f : Format) (x y : Float) → T (fits f x) → T (fits f y) → T (eq x y) → sign x ≡ sign y → x ≡ y
unfolding eq
level-same f nan y F G h s = absurd h
level-same f (inf a) nan F G h s = absurd h
level-same f (inf a) (inf b) F G h s = ap inf s
level-same f (inf a) (fin b n d) F G h s = absurd h
level-same f (fin a m e) nan F G h s = absurd h
level-same f (fin a m e) (inf b) F G h s = absurd h
level-same f (fin a m e) (fin b n d) F G h s =
    ap (λ (z : Bool). fin z m e) s
    ∙ unique f b m e n d (subst (λ (z : Bool). T (fits f (fin z m e))) s F) G (eqb→eq (m * up e * down d) (n * up d * down e) (and_l (eqb (m * up e * down d) (n * up d * down e)) _ h))

is-nan : (x : Float) → T (is_nan x) → x ≡ nan
unfolding is_nan
is-nan nan t = refl
is-nan (inf s) t = absurd t
is-nan (fin s m e) t = absurd t

pub antisym : (f : Format) (x y : Float) → T (fits f x) → T (fits f y) → T (total_le x y) → T (total_le y x) → x ≡ y
antisym f x y F G h k = go (before x y h) (before y x k)
  where
    go : Before x y → Before y x → x ≡ y
    go (no_number t) (no_number u) = is-nan x t ∙ sym (is-nan y u)
    go (no_number t) (smaller u) = absurd (no (is_nan x) (le-no-nan y x (lt→le y x u)).1 t)
    go (no_number t) (level u v) = absurd (no (is_nan x) (le-no-nan y x (eq→le y x u)).1 t)
    go (smaller t) (no_number u) = absurd (no (is_nan y) (le-no-nan x y (lt→le x y t)).1 u)
    go (smaller t) (smaller u) = absurd (lt_not_le x y t (lt→le y x u))
    go (smaller t) (level u v) = absurd (lt_not_le x y t (eq→le y x u))
    go (level t s) (no_number u) = absurd (no (is_nan y) (le-no-nan x y (eq→le x y t)).1 u)
    go (level t s) (smaller u) = absurd (lt_not_le y x u (eq→le x y t))
    go (level t s) (level u v) = level-same f x y F G t (same_sign (sign x) (sign y) s v)

-- ---- a list in order
abbrev pub Ordered : List Float → Type 0
Ordered [] = Unit {0}
Ordered (x ∷ []) = Unit {0}
Ordered (x ∷ y ∷ ys) = T (total_le x y) × Ordered (y ∷ ys)

after : (x y : Float) → T (not (total_le x y)) → T (total_le y x)
after x y h = go (total x y)
  where
    go : T (total_le x y) ⊎ T (total_le y x) → T (total_le y x)
    go (inl t) = absurd (no (total_le x y) h t)
    go (inr t) = t

chosen : (Q : List Float → Type 0) (b : Bool) (l r : List Float) → (T b → Q l) → (T (not b) → Q r) → Q (cond b l r)
chosen Q true l r f g = f tt
chosen Q false l r f g = g tt

-- behind a value that is not after it
insert-behind : (y x : Float) (ys : List Float) → T (total_le y x) → Ordered (y ∷ ys) → Ordered (y ∷ insert x ys)
unfolding insert
insert-behind y x [] h o = (h, tt)
insert-behind y x (z ∷ zs) h o =
    chosen (λ (l : List Float). Ordered (y ∷ l)) (total_le x z) (x ∷ z ∷ zs) (z ∷ insert x zs) (λ t. (h, (t, o.1))) (λ t. (o.0, insert-behind z x zs (after x z t) o.1))

insert-ordered : (x : Float) (xs : List Float) → Ordered xs → Ordered (insert x xs)
unfolding insert
insert-ordered x [] o = tt
insert-ordered x (y ∷ ys) o = chosen Ordered (total_le x y) (x ∷ y ∷ ys) (y ∷ insert x ys) (λ t. (t, o)) (λ t. insert-behind y x ys (after x y t) o)

pub sort-ordered : (xs : List Float) → Ordered (sort xs)
unfolding sort
sort-ordered [] = tt
sort-ordered (x ∷ xs) = insert-ordered x (sort xs) (sort-ordered xs)

-- ---- the median: what holds of all three holds of it, so it is one of them
pub median-keeps : (Q : Float → Type 0) (a b c : Float) → Q a → Q b → Q c → Q (median_f a b c)
median-keeps Q a b c A B C =
    subst Q (sym (median-is a b c)) (either Q (total_le b c) _ _ (second a b c A B C) (second a c b A C B))
  where
    second : (x p q : Float) → Q x → Q p → Q q → Q (get_or (insert x (p ∷ q ∷ [])) 1 nan)
    second x p q X R S = subst Q (sym (second_is x p q)) (either Q (total_le x p) _ _ R (either Q (total_le x q) _ _ X S))

pub median-one : (a b c : Float) → (median_f a b c ≡ a) ⊎ ((median_f a b c ≡ b) ⊎ (median_f a b c ≡ c))
median-one a b c = median-keeps (λ (m : Float). (m ≡ a) ⊎ ((m ≡ b) ⊎ (m ≡ c))) a b c (inl refl) (inr (inl refl)) (inr (inr refl))
