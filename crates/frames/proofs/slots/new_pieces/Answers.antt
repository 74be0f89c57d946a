-- `frames::slots::new_pieces` meets its contract.
use Rattle.frames.specs.Slots.{slot_pushed}
use Rattle.frames.specs.declared.slots.Added.{Added}
use Rattle.frames.proofs.slots.Laws.{adding-turn, adding-end}
use Prim.Native.Nat.{ℕ, ◌+◌, ◌-◌, ◌≤◌, ◌<◌}
use mathlib.Core.Logic.{inl, inr}
use mathlib.Core.List.{List}
use mathlib.Core.Path.{◌≡◌, refl, ap, ◌∙◌}
use native.Mathlib.Omega.{arith}
use Rattle.frames.proofs.slots.new_pieces.Goals as goal

pub loop-i-preserved : goal.loop-i-preserved
unfolding slot_pushed
loop-i-preserved c =
    let a = c.args in
    let p = c.loop-i in
    let more : 0 < a.n + a.room - p.i = omega arith in
    let some : p.done < a.w = omega (arith, p.invariant.within, c.if-done-w.false) in
    let e : a.n + a.room - (p.i + 1) ≡ a.n + a.room - p.i - 1 = omega arith in
    rw e (adding-turn _ _ _ _ _ _ _ _ _ _ _ _ _ _ p.invariant _ c.min-len.ensures more some c.requires.3 _ _ c.store_row.ensures refl)

pub returns-then-done-w : goal.returns-then-done-w
returns-then-done-w c =
    let e : c.args.w ≤ c.loop-i.done = omega arith in
    adding-end _ _ _ _ _ _ _ _ _ _ _ _ _ _ c.loop-i.invariant (inr e)

pub returns : goal.returns
returns c =
    let a = c.args in
    let p = c.loop-i in
    let z : a.n + a.room - p.i ≡ 0 = omega arith in
    let e : a.n + a.room ≡ p.i = omega arith in
    let at : ℕ → Added × List ℕ = λ k. (record { slots = p.s; rows = k; bytes = p.done }, p.a) in
    ap at e ∙ adding-end _ _ _ _ _ _ _ _ _ _ _ _ _ _ p.invariant (inl z)
