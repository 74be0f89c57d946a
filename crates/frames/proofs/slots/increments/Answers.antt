-- `frames::slots::increments` meets its contract.
use mathlib.Core.List.{List}
use mathlib.Core.Path.{◌≡◌, sym, ap₂, ◌∙◌}
use lib.ListN.{get_or, length}
use Rattle.area.specs.Table.{rows_from, total}
use Rattle.area.specs.Find.{find_from}
use Rattle.area.specs.declared.lookup.Found.{Found}
use Rattle.area.proofs.lookup.Laws.{find-within}
use Rattle.frames.specs.Slots.{slot_pushed}
use Rattle.frames.proofs.slots.Laws.{increments-turn, increments-end}
use Prim.Native.Nat.{ℕ, ◌+◌, ◌≤◌, ◌<◌}
use native.Mathlib.Omega.{arith}
use Rattle.frames.proofs.slots.increments.Goals as goal

within : (a : List ℕ) (n o : ℕ) (p : Found) → p ≡ find_from o 0 (rows_from a 0 n) → p.start + p.len ≤ 0 + total (rows_from a 0 n)
within a n o p e = rw e (find-within o 0 (rows_from a 0 n))

pub overflow_cast-s : goal.overflow_cast-s
overflow_cast-s c = omega (arith, within _ _ _ _ c.find-p.ensures)

pub overflow_cast-s-in-loop-i : goal.overflow_cast-s-in-loop-i
overflow_cast-s-in-loop-i c = omega (arith, within _ _ _ _ c.find-p.ensures)

pub loop-i-preserved : goal.loop-i-preserved
unfolding slot_pushed
loop-i-preserved c =
    let i : c.loop-i.i < length c.args.offs.now = omega arith in
    let o = get_or c.args.offs.now c.loop-i.i 0 in
    let h = get_or c.args.bits.now c.loop-i.i 0 in
    let q = ap₂ (λ (m : ℕ) (z : Found). slot_pushed c.loop-i.s (record { off = o; bits = m; held = h + m; start = z.start; len = z.len }))
    c.increment-more.ensures c.find-p.ensures in (
      omega arith,
      omega (arith, c.loop-i.invariant.1),
      c.loop-i.invariant.2 ∙ increments-turn _ _ _ _ _ _ _ _ i (omega (arith, c.requires.4)) q,
    )

pub returns : goal.returns
returns c = let h : length c.args.offs.now ≤ c.loop-i.i = omega arith in sym (c.loop-i.invariant.2 ∙ increments-end _ _ _ _ _ _ _ h)
