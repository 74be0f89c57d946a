-- `queuing::close_gaps` meets its contract. The invariant: what is left to do from row i on (Gaps.antt).
use mathlib.Core.Bool.{Bool, true, false, not, ◌&&◌, ◌||◌}
use mathlib.Core.Path.{◌≡◌, sym, ap, subst, ◌∙◌}
use mathlib.Core.List.{List}
use Prim.Native.Nat.{ℕ, ◌+◌, ◌≤◌, ◌<◌}
use native.Mathlib.Omega.{arith}
use lib.ListN.{get_or}
use Rattle.ledger.specs.Queue.{withdraws}
use Rattle.queuing.proofs.Gaps.{Closing, stays-test, entry-fits, closing-start, closing-gone, closing-kept, closing_end}
use Rattle.queuing.proofs.close_gaps.Goals as goal
use Rattle.queuing.proofs.close_gaps.Goals.{then-begun-withdraws, else-begun-withdraws}

pub loop-i-init : goal.loop-i-init
loop-i-init c = closing-start _ _ _ _ c.requires.1

pub shift_left-requires : goal.shift_left-requires
shift_left-requires c =
    let h : c.loop-i.i < c.args.m.n = omega arith in
    (c.loop-i.invariant.back, entry-fits _ _ _ _ _ _ _ _ _ c.loop-i.invariant h)

pub loop-i-preserved : goal.loop-i-preserved
loop-i-preserved c =
    let h : c.loop-i.i < c.args.m.n = omega arith in
    let a = c.args in
    let v = c.loop-i.invariant in
    let l = get_or a.m.left c.loop-i.i 0 in
    let test : (r : Bool) → (c.loop-i.begun || not c.withdraws.result) ≡ r → (not c.loop-i.begun && withdraws a.label (get_or a.m.label c.loop-i.i 0)) ≡ not r =
    λ r e. ap (λ (y : Bool). not c.loop-i.begun && y) (sym c.withdraws.ensures) ∙ stays-test c.loop-i.begun c.withdraws.result r e in
    let next : List ℕ → ℕ → Type 0 = λ y k. Closing a.m a.label a.first a.a.now y false k (c.loop-i.from + l) (c.loop-i.i + 1) in
    elim c.if-begun-withdraws.branch [
      | then-begun-withdraws w ↦
          subst (next c.if-begun-withdraws.a) (sym w.to-is)
          (closing-kept _ _ _ _ _ _ _ _ _ v h c.if-begun-withdraws.a (test true w.if-begun-withdraws.true) (w.a-is ∙ w.shift_left.ensures))
      | else-begun-withdraws w ↦
          subst (next c.if-begun-withdraws.a) (sym w.to-is)
          (subst (λ (y : List ℕ). next y c.loop-i.to) (sym w.a-is)
          (closing-gone _ _ _ _ _ _ _ _ _ v h (test false w.if-begun-withdraws.false)))
    ]

pub returns : goal.returns
returns c =
    let h : c.args.m.n ≤ c.loop-i.i = omega arith in
    let e = closing_end _ _ _ _ _ _ _ _ _ c.loop-i.invariant h in
    record { value = e.0; a_after = e.1 }
