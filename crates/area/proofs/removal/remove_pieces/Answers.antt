-- `area::removal::remove_pieces` meets its contract.
use Rattle.area.proofs.removal.Laws.{row_fits, removing-gone, removing-kept, removing-end, removing-none}
use Rattle.area.specs.declared.removal.Kept.{Kept}
use Prim.Native.Nat.{ℕ, ◌≤◌, ◌<◌}
use mathlib.Core.Path.{sym, ap, ◌∙◌}
use mathlib.Core.List.{List}
use native.Mathlib.Omega.{arith}
use Rattle.area.proofs.removal.remove_pieces.Goals as goal
use Rattle.area.proofs.removal.remove_pieces.Goals.{then-not-contains_near, else-not-contains_near}

pub move_piece-requires : goal.move_piece-requires
move_piece-requires c =
    let v = c.loop-i.invariant in
    let h : c.loop-i.i < c.args.n = omega arith in
    let fits = row_fits _ _ _ _ _ _ _ _ _ _ v h c.load_row-r.ensures c.requires.2 c.requires.1 in
    (omega arith, omega (arith, v.long), v.low, v.back, omega (arith, fits), c.load_row-r.ensures, v.none)

pub loop-i-preserved : goal.loop-i-preserved
loop-i-preserved c =
    let v = c.loop-i.invariant in
    let h : c.loop-i.i < c.args.n = omega arith in
    elim c.if-not-contains_near.branch [
      | then-not-contains_near w ↦
          rw (w.to-is, w.w-is)
          (removing-kept _ _ _ _ _ _ _ _ _ _ v h c.load_row-r.ensures c.requires.2 c.requires.1 _
          (sym c.contains_near.ensures ∙ w.if-not-contains_near.true) (w.a-is ∙ w.move_piece.ensures))
      | else-not-contains_near w ↦
          rw (w.a-is, w.to-is, w.w-is)
          (removing-gone _ _ _ _ _ _ _ _ _ _ v h c.load_row-r.ensures c.requires.2 c.requires.1 (sym c.contains_near.ensures ∙ w.if-not-contains_near.false))
    ]

pub returns-then-w-n : goal.returns-then-w-n
returns-then-w-n c =
    let h : c.args.n ≤ c.loop-i.i = omega arith in
    removing-none _ _ _ _ _ _ _ _ _ c.loop-i.invariant h c.if-w-n.true

pub returns : goal.returns
returns c =
    let h : c.args.n ≤ c.loop-i.i = omega arith in
    let k : Kept = record { rows = c.loop-i.w; bytes = c.loop-i.to } in
    ap (λ (b : List ℕ). (k, b)) c.shift_left.ensures ∙ removing-end _ _ _ _ _ _ _ _ _ c.loop-i.invariant h
