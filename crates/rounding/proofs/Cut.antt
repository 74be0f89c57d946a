-- A float that is not negative and below 2 ^ w, as a whole number of w bits: cut toward zero. Assumes nothing.
use mathlib.Core.Path.{◌≡◌, sym, subst}
use Prim.Native.Nat.{ℕ, suc, ◌+◌, ◌-◌, ◌*◌, ◌/◌, ◌^◌, ◌<◌, min}
use native.Mathlib.Nat.{div-lt_iff_lt-mul, div-mul-le_self, lt-div-mul-add}
use native.Mathlib.Omega.{arith}
use mathlib.Core.Bool.{false}
use lib.IntN.{ℤ}
use lib.Ieee.{fin, up, down, to_unsigned}
use lib.Ieee.Fits.{down_pos}
use Rattle.rounding.specs.Rounding.{TowardZero}

pub cut-rounded : (w m : ℕ) (e : ℤ) → m * up e < 2 ^ w * down e → TowardZero (m * up e) (down e) (to_unsigned w (fin false m e))
unfolding to_unsigned
cut-rounded w m e h =
    subst (λ (c : ℕ). TowardZero (m * up e) (down e) c) (sym (whole (m * up e / down e) (2 ^ w) ((div-lt_iff_lt-mul (down_pos e)).1 h)))
    (record {
      no_more = div-mul-le_self (m * up e) (down e);
      closest =
          next (m * up e / down e) (down e) (lt-div-mul-add {a = m * up e} {b = down e} (down_pos e));
    })
  where
    whole : (q t : ℕ) → q < t → min q (t - 1) ≡ q
    whole q t h = omega arith

    next : (q d : ℕ) {a : ℕ} → a < q * d + d → a < suc q * d
    next q d h = omega arith
