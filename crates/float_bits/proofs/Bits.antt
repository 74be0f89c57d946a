-- Which patterns are no NaN's, and that the others are the NaN. Assumes nothing.
use mathlib.Core.Path.{◌≡◌, refl, subst, sym}
use mathlib.Core.Bool.{Bool, true, false, not, ◌&&◌, cond}
use Prim.Native.Nat.{ℕ, zero, suc, ◌%◌, ◌/◌, ◌+◌}
use native.Mathlib.Omega.{arith}
use lib.Dec.{T, eqb}
use borrow.Author.Tests.{eq-eqb, ne_eqb}
use lib.Ieee.{Format, inf, nan, nan_bits, of_bits, of_fields, odd, hid, top, ones, prec, low}

and-false : (a : Bool) → T (not (a && false))
and-false true = tt
and-false false = tt

pub no-digits : (f : Format) (n : ℕ) → n % hid f ≡ 0 → T (not (nan_bits f n))
unfolding nan_bits
no-digits f n e = subst (λ (b : Bool). T (not (eqb (n % top f / hid f) (ones f) && not b))) (sym (eq-eqb _ _ e)) (and-false (eqb (n % top f / hid f) (ones f)))

pub below-ones : (f : Format) (n : ℕ) → (n % top f / hid f ≡ ones f → ⊥) → T (not (nan_bits f n))
unfolding nan_bits
below-ones f n e = subst (λ (b : Bool). T (not (b && not (eqb (n % hid f) 0)))) (sym (ne_eqb _ _ e)) tt

no_ones : (n : ℕ) → 0 ≡ n + 1 → ⊥
no_ones n e = omega (arith, e)

fields : (f : Format) (s : Bool) (x t : ℕ) → x ≡ ones f → (t ≡ 0 → ⊥) → of_fields f s x t ≡ nan
unfolding of_fields
fields f s zero t e n = absurd (no_ones _ e)
fields f s (suc x) t e n =
    subst (λ (b : Bool). cond b (cond (eqb t 0) (inf s) nan) (odd (prec f) s (hid f + t) x (low f)) ≡ nan) (sym (eq-eqb _ _ e)) (subst (λ (b : Bool). cond b (inf s) nan ≡ nan) (sym (ne_eqb _ _ n)) refl)

pub all_ones : (f : Format) (n : ℕ) → n % top f / hid f ≡ ones f → (n % hid f ≡ 0 → ⊥) → nan ≡ of_bits f n
unfolding of_bits
all_ones f n e d = sym (fields f _ _ _ e d)
