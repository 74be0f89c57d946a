-- The kit's operations on finite numbers, and the conversions that the sender uses, are the exact results rounded by the rule of
-- specs/Rounding. Assumes nothing.
use mathlib.Core.Path.{sym, subst}
use Prim.Native.Nat.{ℕ, suc, ◌+◌, ◌*◌, ◌<◌}
use native.Mathlib.Nat.{mul-pos, zero-lt-suc}
use native.Mathlib.Omega.{arith}
use mathlib.Core.Bool.{Bool, true, false, not, ◌&&◌, cond}
use lib.Dec.{T, eqb, eqb→eq, not_T}
use lib.IntN.{ℤ, pos, negsuc}
use lib.Ieee.{Float, nan, inf, fin, Format, binary32, binary64, prec, emax, up, down, unlike, round, neg, add, sub, mul, div, of_int, fits}
use lib.Ieee.Bits.{cond_no}
use lib.Ieee.Fits.{up_pos, down_pos, fits_widens}
use Rattle.ieee.proofs.Representable.{round-own}
use Rattle.exp.specs.Narrow.{narrow}
use Rattle.rounding.specs.Rounding.{dist, sign_of, positive_part, negative_part, Rounded, Sum}
use Rattle.rounding.proofs.Rule.{rounded}
use Rattle.rounding.proofs.Sums.{clash, sum_is}

module _ (f : Format) (s t : Bool) (m n : ℕ) (e d : ℤ) where
  -- the operands' magnitudes over one denominator
  abbrev left : ℕ
  left = m * up e * down d

  abbrev right : ℕ
  right = n * up d * down e

  pub add-rounded : Sum (prec f) (emax f) s left t right (down e * down d) (s && t) (add f (fin s m e) (fin t n d))
  unfolding add
  add-rounded =
      let plus = positive_part s left + positive_part t right in
      let minus = negative_part s left + negative_part t right in
      subst (λ (x : Float). Sum (prec f) (emax f) s left t right (down e * down d) (s && t) x)
      (sym (sum_is f s left t right (down e * down d)))
      (rounded f (sign_of plus minus (s && t)) (dist plus minus) (down e * down d) (mul-pos (down_pos e) (down_pos d)))

  pub mul-rounded : Rounded (prec f) (emax f) (unlike s t) (m * up e * (n * up d)) (down e * down d) (mul f (fin s m e) (fin t n d))
  unfolding mul
  mul-rounded = rounded f (unlike s t) (m * up e * (n * up d)) (down e * down d) (mul-pos (down_pos e) (down_pos d))

  pub div-rounded : 0 < n → Rounded (prec f) (emax f) (unlike s t) left right (div f (fin s m e) (fin t n d))
  unfolding div
  div-rounded h =
      subst (λ (x : Float). Rounded (prec f) (emax f) (unlike s t) left right x)
      (sym (cond_no (eqb n 0) (cond (eqb m 0) nan (inf (unlike s t))) (round f (unlike s t) left right)
      (not_T (eqb n 0) (λ z. clash 0 n h (omega (arith, eqb→eq n 0 z))))))
      (rounded f (unlike s t) left right (mul-pos (mul-pos h (up_pos d)) (down_pos e)))

pub sub-rounded : (f : Format) (s t : Bool) (m n : ℕ) (e d : ℤ)
    → Sum (prec f) (emax f) s (m * up e * down d) (not t) (n * up d * down e) (down e * down d) (s && not t)
    (sub f (fin s m e) (fin t n d))
unfolding sub neg
sub-rounded f s true m n e d = add-rounded f s false m n e d
sub-rounded f s false m n e d = add-rounded f s true m n e d

-- ---- conversions: a whole number to a float, an f64 to an f32, and an f32 to an f64, which is the same datum
pub whole-rounded : (f : Format) (n : ℕ) → Rounded (prec f) (emax f) false n 1 (of_int f (pos n))
unfolding of_int
whole-rounded f n = rounded f false n 1 (zero-lt-suc 0)

pub minus-rounded : (f : Format) (n : ℕ) → Rounded (prec f) (emax f) true (suc n) 1 (of_int f (negsuc n))
unfolding of_int
minus-rounded f n = rounded f true (suc n) 1 (zero-lt-suc 0)

pub narrow-rounded : (s : Bool) (m : ℕ) (e : ℤ) → Rounded (prec binary32) (emax binary32) s (m * up e) (down e) (narrow (fin s m e))
unfolding narrow
narrow-rounded s m e = rounded binary32 s (m * up e) (down e) (down_pos e)

pub wide-rounded : (s : Bool) (m : ℕ) (e : ℤ) → T (fits binary32 (fin s m e))
    → Rounded (prec binary64) (emax binary64) s (m * up e) (down e) (fin s m e)
wide-rounded s m e h =
    subst (λ (x : Float). Rounded (prec binary64) (emax binary64) s (m * up e) (down e) x)
    (round-own binary64 s m e (fits_widens (fin s m e) h)) (rounded binary64 s (m * up e) (down e) (down_pos e))
