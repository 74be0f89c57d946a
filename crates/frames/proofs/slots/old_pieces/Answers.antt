-- `frames::slots::old_pieces` meets its contract.
use Rattle.frames.specs.Slots.{slot_pushed}
use Rattle.frames.proofs.slots.Laws.{choosing-full, choosing-end, choosing-fits, choosing-held, choosing-unheld}
use Prim.Native.Nat.{◌≤◌, ◌<◌}
use mathlib.Core.Path.{refl, sym, ◌∙◌}
use native.Mathlib.Omega.{arith}
use Rattle.frames.proofs.slots.old_pieces.Goals as goal
use Rattle.frames.proofs.slots.old_pieces.Goals.{then-not-contains_hashed, else-not-contains_hashed}

pub returns-then-left-eq0 : goal.returns-then-left-eq0
returns-then-left-eq0 c = choosing-full _ _ _ _ _ _ _ _ _ _ c.loop-i.invariant c.if-left-eq0.true

pub overflow_add-start : goal.overflow_add-start
overflow_add-start c =
    let h : c.loop-i.i < c.args.n = omega arith in
    omega (arith, choosing-fits _ _ _ _ _ _ _ _ _ _ _ c.loop-i.invariant h c.load_row-r.ensures)

pub loop-i-preserved : goal.loop-i-preserved
unfolding slot_pushed
loop-i-preserved c =
    let h : c.loop-i.i < c.args.n = omega arith in
    let some : 0 < c.loop-i.left = omega arith in
    elim c.if-not-contains_hashed.branch [
      | then-not-contains_hashed w ↦
          rw (w.s-is, w.left-is) (choosing-unheld _ _ _ _ _ _ _ _ _ _ _ c.loop-i.invariant h c.load_row-r.ensures _ refl (sym c.contains_hashed.ensures ∙ w.if-not-contains_hashed.true) some)
      | else-not-contains_hashed w ↦
          rw (w.s-is, w.left-is) (choosing-held _ _ _ _ _ _ _ _ _ _ _ c.loop-i.invariant h c.load_row-r.ensures (sym c.contains_hashed.ensures ∙ w.if-not-contains_hashed.false))
    ]

pub returns : goal.returns
returns c = let h : c.args.n ≤ c.loop-i.i = omega arith in choosing-end _ _ _ _ _ _ _ _ _ _ c.loop-i.invariant h
