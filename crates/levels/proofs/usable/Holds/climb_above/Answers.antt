use Rattle.levels.specs.Usable.{climb_above}
use Rattle.laws.proofs.Span.{last-pass, last-miss, last_end, last_none}
use Rattle.std.proofs.Common.{sym, refl, ◌∙◌, arith}
use Rattle.laws.proofs.Picks.{told-yes, told-no}
use Rattle.levels.proofs.usable.Holds.climb_above.Goals.{then-climbs, else-climbs}
use Rattle.levels.proofs.usable.Holds.climb_above.Goals as goal

pub loop-k-init : goal.loop-k-init
unfolding climb_above
loop-k-init c = refl

pub returns-then-left-eq0 : goal.returns-then-left-eq0
returns-then-left-eq0 c = sym (rw c.if-left-eq0.true at c.loop-k.invariant ∙ last_none _ _ _)

pub loop-k-preserved : goal.loop-k-preserved
loop-k-preserved c =
    elim c.if-climbs.branch [
      | then-climbs w ↦ rw (w.left-is, w.to-is) (c.loop-k.invariant ∙ last-pass _ _ _ _ _ (omega arith) (omega arith) (told-yes _ _ c.climbs.ensures w.if-climbs.true))
      | else-climbs w ↦ rw (w.left-is, w.to-is) (c.loop-k.invariant ∙ last-miss _ _ _ _ _ (omega arith) (told-no _ _ c.climbs.ensures w.if-climbs.false))
    ]

pub returns : goal.returns
returns c = sym (c.loop-k.invariant ∙ last_end _ _ _ _ _ (omega arith))
