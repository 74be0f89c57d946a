-- `take_all` meets its contract: what the frames left come to is what all come to.
use Prim.Native.Nat.{min, ◌+◌, ◌≤◌, ◌<◌}
use Rattle.receiver.proofs.Steps.{turn, turn_end, bounds-told, bounds-begun, bounds-weak}
use Rattle.receiver.specs.Taking.{all_taken, slotted}
use Rattle.receiver.specs.TakingCode.{InBounds}
use Rattle.receiver.specs.declared.Taking.{Taking}
use mathlib.Core.Path.{◌≡◌, subst, refl, sym, ap, ◌∙◌}
use native.Mathlib.Omega.{arith}
use lib.ListN.{length, get_or}
use Rattle.receiver.proofs.take_all.Goals as goal

pub loop-i-init : goal.loop-i-init
loop-i-init c = (
  omega arith,
  refl,
  subst (λ (x : Taking). InBounds x 0) (sym c.begin-k.ensures) bounds-begun,
  ap (λ (x : Taking). all_taken c.args.first (slotted c.args.bytes.now c.args.sizes.now c.args.slots.now) (x, c.args.w.now)) c.begin-k.ensures,
)

pub take_one-k-requires : goal.take_one-k-requires
take_one-k-requires c =
    let v = c.loop-i.invariant in
    let h : c.loop-i.i ≤ 18446744073709551614 = omega (arith, c.min-n.ensures) in
    (c.requires.0, v.1 ∙ c.requires.1, c.requires.2, bounds-weak c.loop-i.k c.loop-i.i 18446744073709551614 h v.2)

pub loop-i-preserved : goal.loop-i-preserved
loop-i-preserved c =
    let a = c.args in
    let v = c.loop-i.invariant in
    let h : c.loop-i.i < min (length a.sizes.now) (length a.slots.now) = omega (arith, c.min-n.ensures) in
    let e : c.min-end.result ≡ min (c.loop-i.at + get_or a.sizes.now c.loop-i.i 0) (length a.bytes.now) =
    omega (arith, c.min-end.ensures, c.saturating_add.ensures, c.from.ensures) in (
      omega (arith, e),
      c.take_one-k.auto.w ∙ v.1,
      bounds-told a.first _ c.loop-i.k _ c.loop-i.w _ c.loop-i.i c.take_one-k.ensures v.2,
      turn a.first a.bytes.now a.sizes.now a.slots.now c.loop-i.at c.loop-i.i h c.min-end.result _ _ e v.0 c.take_one-k.ensures ∙ v.3,
    )

pub shape_of-w : goal.shape_of-w
shape_of-w c = c.loop-i.invariant.1

pub returns : goal.returns
returns c =
    let a = c.args in
    sym (turn_end a.first a.bytes.now a.sizes.now a.slots.now c.loop-i.at c.loop-i.i (c.loop-i.k, c.loop-i.w) (omega (arith, c.min-n.ensures))) ∙ c.loop-i.invariant.3
