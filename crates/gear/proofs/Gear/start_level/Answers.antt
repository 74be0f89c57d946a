use Rattle.gear.specs.OtherReplies.{start_level}
use Rattle.gear.proofs.Gear.start_level.Goals as goal

pub returns-then-cfg : goal.returns-then-cfg
unfolding start_level
returns-then-cfg c =
    let b = c in
    simp (b.if-cfg.true, c.capped.ensures, b.level_for-l.ensures, b.heeded.ensures, b.marks.ensures)

pub returns : goal.returns
unfolding start_level
returns c = simp c.if-cfg.false
