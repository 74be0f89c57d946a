use Rattle.plan.proofs.Choices.{air-longer}
use Rattle.plan.proofs.Down.{room-same, down-found, down-less, down-none}
use mathlib.Core.Path.{sym, ap, ◌∙◌}
use native.Mathlib.Omega.{arith}
use Rattle.plan.specs.PlanningCode.{room_down}
use Rattle.plan.proofs.room.Goals as goal

pub loop-r-init : goal.loop-r-init
loop-r-init c =
    let a = c.args in
    let same = room-same a.c a.bits (air-longer a.c c.requires.0) c.requires.1 c.requires.3 a.n a.stored in
    (c.most-most.ensures.1, sym same ∙ ap (room_down a.c a.bits) (sym c.most-most.ensures.0))

pub returns-then-fits_with : goal.returns-then-fits_with
returns-then-fits_with c =
    let v = c.loop-r.invariant in
    (sym (v.1 ∙ down-found _ _ c.loop-r.r (omega (arith, c.loop-r-test.true)) (sym c.fits_with.ensures ∙ c.if-fits_with.true)), v.0)

pub loop-r-preserved : goal.loop-r-preserved
loop-r-preserved c =
    let v = c.loop-r.invariant in
    (omega (arith, v.0), v.1 ∙ down-less _ _ c.loop-r.r (omega (arith, c.loop-r-test.true)) (sym c.fits_with.ensures ∙ c.if-fits_with.false))

pub returns : goal.returns
returns c = (sym (c.loop-r.invariant.1 ∙ down-none _ _ c.loop-r.r (omega (arith, c.loop-r-test.false))), omega arith)
