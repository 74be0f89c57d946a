-- What the tests of the code pick: `min_f` and `max_f` by one law, and `abs_f`. Assumes nothing.
use Rattle.std.proofs.Common.{◌≡◌, Bool, true, false, cond, ◌||◌, sym, refl, ap, ap₂, ◌∙◌}
use lib.Ieee.{Float, nan, inf, fin, is_nan}
use Rattle.std.specs.Float.{float_with_sign}
use Rattle.float.specs.Pick.{abs_f}

-- one test of two parts, a for `is_nan x` and b for c, is two tests
pub picked : (x y : Float) (a b c t : Bool) → a ≡ is_nan x → b ≡ c → (a || b) ≡ t → cond t y x ≡ cond (is_nan x) y (cond c y x)
picked x y a b c t e f h = ap (λ (s : Bool). cond s y x) (sym h ∙ ap₂ (λ (p q : Bool). p || q) e f) ∙ go (is_nan x)
  where
    go : (p : Bool) → cond (p || c) y x ≡ cond p y (cond c y x)
    go true = refl
    go false = refl

-- ---- `abs_f`: the library's `abs`
pub abs-is : (x : Float) → float_with_sign false x ≡ abs_f x
unfolding float_with_sign abs_f
abs-is nan = refl
abs-is (inf s) = refl
abs-is (fin s m e) = refl
