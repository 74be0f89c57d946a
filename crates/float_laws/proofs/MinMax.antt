-- What `min_f`, `max_f` and `clamp_f` pick, of values that are no NaN. Assumes nothing.
use mathlib.Core.Path.{◌≡◌, refl, sym, subst}
use mathlib.Core.Bool.{Bool, true, false, not, cond}
use lib.Dec.{T}
use lib.Ieee.{Float, lt, le, is_nan}
use Rattle.laws.proofs.Picks.{either}
use Rattle.ieee.specs.Range.{In}
use Rattle.ieee.proofs.Value.{le_refl, lt→le, not-lt→le, le-no-nan}
use Rattle.float.specs.Pick.{min_f, max_f, clamp_f}

-- the smaller and the larger by one test: what `min_f` and `max_f` are where the first is no NaN
abbrev pub lower : Float → Float → Float
lower x y = cond (lt y x) y x

abbrev pub upper : Float → Float → Float
upper x y = cond (lt x y) y x

tested : (b : Bool) (x y : Float) → T (not b) → cond b x y ≡ y
tested true x y h = absurd h
tested false x y h = refl

pub min-is : (x y : Float) → T (not (is_nan x)) → min_f x y ≡ lower x y
unfolding min_f
min-is x y X = tested (is_nan x) y (lower x y) X

pub max-is : (x y : Float) → T (not (is_nan x)) → max_f x y ≡ upper x y
unfolding max_f
max-is x y X = tested (is_nan x) y (upper x y) X

module _ (x y : Float) (X : T (not (is_nan x))) (Y : T (not (is_nan y))) where
  pub lower-le : T (le (lower x y) x) × T (le (lower x y) y)
  lower-le = go (lt y x) (lt→le y x) (not-lt→le y x Y X)
    where
      go : (b : Bool) → (T b → T (le y x)) → (T (not b) → T (le x y)) → T (le (cond b y x) x) × T (le (cond b y x) y)
      go true h k = (h tt, le_refl y Y)
      go false h k = (le_refl x X, k tt)

  pub upper-ge : T (le x (upper x y)) × T (le y (upper x y))
  upper-ge = go (lt x y) (lt→le x y) (not-lt→le x y X Y)
    where
      go : (b : Bool) → (T b → T (le x y)) → (T (not b) → T (le y x)) → T (le x (cond b y x)) × T (le y (cond b y x))
      go true h k = (h tt, le_refl y Y)
      go false h k = (le_refl x X, k tt)

  pub min-le : T (le (min_f x y) x) × T (le (min_f x y) y)
  min-le = subst (λ (z : Float). T (le z x) × T (le z y)) (sym (min-is x y X)) lower-le

  pub max-ge : T (le x (max_f x y)) × T (le y (max_f x y))
  max-ge = subst (λ (z : Float). T (le x z) × T (le y z)) (sym (max-is x y X)) upper-ge

-- what holds of both holds of the one that is picked, as `In lo hi`, `fits f` and `finite`
pub min-keeps : (Q : Float → Type 0) (x y : Float) → Q x → Q y → Q (min_f x y)
unfolding min_f
min-keeps Q x y p q = either Q (is_nan x) y (lower x y) q (either Q (lt y x) y x q p)

pub max-keeps : (Q : Float → Type 0) (x y : Float) → Q x → Q y → Q (max_f x y)
unfolding max_f
max-keeps Q x y p q = either Q (is_nan x) y (upper x y) q (either Q (lt x y) y x q p)

pub clamp-in : (x lo hi : Float) → T (not (is_nan x)) → T (le lo hi) → In lo hi (clamp_f x lo hi)
unfolding clamp_f
clamp-in x lo hi X h =
    let n = le-no-nan lo hi h in
    let m = upper x lo in
    let M = either (λ (z : Float). T (not (is_nan z))) (lt x lo) lo x n.0 X in
    record {
      low = either (λ (z : Float). T (le lo z)) (lt hi m) hi m h (upper-ge x lo X n.0).1;
      high = (lower-le m hi M n.1).1;
    }
