use mathlib.Core.Bool.{Bool, ◌||◌}
use mathlib.Core.List.{List}
use mathlib.Core.Path.{◌≡◌, refl, sym, ap, ◌∙◌}
use Prim.Native.Nat.{ℕ, ◌<◌}
use native.Mathlib.Omega.{arith}
use lib.Dec.{ltb}
use lib.ListN.{take}
use Rattle.harq.specs.declared.Harq.{Harq}
use Rattle.limits.specs.Limits.{partial_max}
use Rattle.plan.specs.declared.Choice.{Choice}
use Rattle.plan.specs.PlanningCode.{parity_bits_of, too_big_for}
use Rattle.plan.proofs.Turns.{goes, bits-last, bits-all, pop-less, pop-stop, pop-end}
use Rattle.plan.proofs.pop.Goals as goal

-- the test
big : (q : Harq) (c : Choice) (bs : List ℕ) (n s : ℕ) (b : Bool) → s ≡ parity_bits_of q c (take n bs) → b ≡ too_big_for c n s
    → goes q c bs n ≡ (ltb partial_max n || b)
big q c bs n s b t h = sym (ap (λ (x : Bool). ltb partial_max n || x) (h ∙ ap (too_big_for c n) t))

pub loop-n-init : goal.loop-n-init
loop-n-init c = (c.parity_bits-sum.ensures.0 ∙ bits-all _ _ _, refl)

pub returns-then-not-n-too_big : goal.returns-then-not-n-too_big
returns-then-not-n-too_big c =
    let v = c.loop-n.invariant in
    let h : 0 < c.loop-n.n = omega arith in
    sym (v.1 ∙ pop-stop _ _ _ _ h (big _ _ _ _ _ _ v.0 c.too_big.ensures ∙ c.if-not-n-too_big.true))

pub overflow_sub-sum : goal.overflow_sub-sum
overflow_sub-sum c =
    let a = c.args in
    omega (arith, bits-last a.q a.c a.bits.now c.loop-n.n (omega arith) (omega arith), c.loop-n.invariant.0, c.increment-sum.ensures)

pub loop-n-preserved : goal.loop-n-preserved
loop-n-preserved c =
    let a = c.args in
    let v = c.loop-n.invariant in
    let h : 0 < c.loop-n.n = omega arith in (
      omega (arith, bits-last a.q a.c a.bits.now c.loop-n.n h (omega arith), v.0, c.increment-sum.ensures),
      v.1 ∙ pop-less _ _ _ _ h (big _ _ _ _ _ _ v.0 c.too_big.ensures ∙ c.if-not-n-too_big.false),
    )

pub returns : goal.returns
returns c = sym (c.loop-n.invariant.1 ∙ pop-end _ _ _ _ (omega arith))
