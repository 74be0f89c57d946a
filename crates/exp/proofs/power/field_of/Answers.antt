-- `exp::power::field_of` meets its contract: the sum is `biased k`, which is no negative number. Assumes nothing.
use Rattle.std.proofs.Common.{◌≡◌, T, ℤ, pos, negsuc, ◌+ℤ◌, nat_abs, sym, ap, ◌∙◌, subst, lt_trans, lit<}
use Rattle.std.proofs.Common.{w64, Fits, SFits, to_z, of_z}
use lib.Signed.{non_neg, le_z}
use mir.ValLaws.{to_z-of_z}
use Rattle.ieee.specs.Power.{biased}
use Rattle.ieee.proofs.Power.{biased-in, biased-sum}
use Rattle.exp.proofs.power.field_of.Goals as goal

-- k as the machine reads it back, plus 1023
sum_is : (k : ℤ) → SFits w64 k → T (le_z (negsuc 1021) k) → to_z w64 (of_z w64 k) +ℤ pos 1023 ≡ pos (biased k)
sum_is k r p = ap (λ (z : ℤ). z +ℤ pos 1023) (to_z-of_z w64 k r) ∙ biased-sum k p

sum_fits : (k : ℤ) → T (le_z (negsuc 1021) k) → T (le_z k (pos 1023)) → SFits w64 (pos (biased k))
sum_fits k p q = record { sfits = lt_trans (biased-in k p q).1 (lit< tt) }

back_is : (k : ℤ) → SFits w64 k → T (le_z (negsuc 1021) k) → T (le_z k (pos 1023))
    → to_z w64 (of_z w64 (to_z w64 (of_z w64 k) +ℤ pos 1023)) ≡ pos (biased k)
back_is k r p q = ap (λ (z : ℤ). to_z w64 (of_z w64 z)) (sum_is k r p) ∙ to_z-of_z w64 (pos (biased k)) (sum_fits k p q)

pub overflow_add-result : goal.overflow_add-result
overflow_add-result c =
    subst (SFits w64) (sym (sum_is c.args.k c.ranges.k c.requires.fact_1)) (sum_fits c.args.k c.requires.fact_1 c.requires.fact_2)

pub overflow_cast-result : goal.overflow_cast-result
overflow_cast-result c =
    subst (λ (z : ℤ). T (non_neg z) × Fits w64 (nat_abs z)) (sym (back_is c.args.k c.ranges.k c.requires.fact_1 c.requires.fact_2))
    (tt, record { fits = lt_trans (biased-in c.args.k c.requires.fact_1 c.requires.fact_2).1 (lit< tt) })

pub returns : goal.returns
returns c = ap nat_abs (back_is c.args.k c.ranges.k c.requires.fact_1 c.requires.fact_2)
