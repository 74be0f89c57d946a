use Rattle.harq.specs.Held.{increment_of}
use Rattle.plan.proofs.Turns.{bits-turn}
use Rattle.plan.proofs.Increments.{increment-range}
use Prim.Native.Nat.{◌≤◌}
use mathlib.Core.Path.{◌≡◌, refl, sym, ap, ◌∙◌}
use native.Mathlib.Nat.{zero-add}
use native.Mathlib.Omega.{arith}
use lib.ListN.{get_or, drop, drop_of_length-le}
use Rattle.limits.specs.Limits.{max_bits}
use Rattle.plan.specs.PlanningCode.{parity_bits_of}
use Rattle.plan.proofs.parity_bits.Goals as goal
use Rattle.plan.proofs.parity_bits.Goals.{After-increment-sum}

pub loop-held-init : goal.loop-held-init
loop-held-init c = (omega arith, λ k e. sym (zero-add _))

-- the increment added in a turn
small : (c : After-increment-sum) → c.increment-sum.result ≤ max_bits
small c = let a = c.args in omega (arith, c.increment-sum.ensures, (increment-range a.q a.c c.requires.0 (get_or a.bits.now c.loop-held.held-index 0)).1)

pub overflow_add-sum : goal.overflow_add-sum
overflow_add-sum c = omega (arith, small (goal.at.overflow_add-sum c).After-increment-sum, c.loop-held-test.true, c.loop-held.invariant.0, c.requires.1)

pub loop-held-preserved : goal.loop-held-preserved
loop-held-preserved c =
    let a = c.args in
    let i = c.loop-held.held-index in (
      omega (arith, small (goal.at.loop-held-preserved c).After-increment-sum, c.loop-held.invariant.0),
      λ k e.
          let t = bits-turn a.q k a.bits.now i c.loop-held-test.true in
          let m = c.increment-sum.ensures ∙ ap (increment_of a.q (get_or a.bits.now i 0)) (sym e) in
          c.loop-held.invariant.1 k e ∙ omega (arith, t, m),
    )

pub returns : goal.returns
unfolding parity_bits_of
returns c =
    let a = c.args in
    let i = c.loop-held.held-index in
    let z : parity_bits_of a.q a.c (drop i a.bits.now) ≡ 0 = ap (parity_bits_of a.q a.c) (drop_of_length-le _ c.loop-held-test.false) in
    (omega (arith, c.loop-held.invariant.1 a.c refl), omega (arith, c.loop-held.invariant.0))
