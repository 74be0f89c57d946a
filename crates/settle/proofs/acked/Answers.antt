-- `settle::acked` meets its contract.
use lib.ListN.{length-replicate, length-set}
use Rattle.settle.specs.Settle.{acked_in}
use Rattle.settle.proofs.Laws.{more, more-start, more-end, acked-yes, acked-no, acked-end}
use Prim.Native.Nat.{ℕ}
use mathlib.Core.Path.{sym, ap, ◌∙◌}
use native.Mathlib.Omega.{arith}
use Rattle.limits.specs.Limits.{max_slots}
use Rattle.settle.proofs.acked.Goals as goal
use Rattle.settle.proofs.acked.Goals.{then-b-eq1, else-b-eq1}

pub loop-o-init : goal.loop-o-init
loop-o-init c = (omega arith, length-replicate {A = ℕ} max_slots 0, more-start (acked_in c.args.bitmap c.args.offs.now))

pub loop-o-preserved : goal.loop-o-preserved
loop-o-preserved c =
    let v = c.loop-o.invariant in
    let i = c.loop-o.o-index in
    elim c.if-b-eq1.branch [
      | then-b-eq1 w ↦ rw (w.off-is, w.n-is) (
        omega (arith, v.0),
        simp length-set v.1,
        v.2 ∙ acked-yes c.loop-o.b c.args.offs.now i c.loop-o-test.true c.loop-o.off c.loop-o.n w.if-b-eq1.true,
      )
      | else-b-eq1 w ↦ rw (w.off-is, w.n-is) (
        omega (arith, v.0),
        v.1,
        v.2 ∙ ap (more c.loop-o.off c.loop-o.n) (acked-no c.loop-o.b c.args.offs.now i c.loop-o-test.true w.if-b-eq1.false),
      )
    ]

pub returns : goal.returns
returns c = sym (c.loop-o.invariant.2 ∙ more-end c.loop-o.off c.loop-o.n _ (acked-end c.loop-o.b _ c.loop-o.o-index c.loop-o-test.false))
