use Rattle.gear.specs.Judging.{capped}
use Rattle.std.proofs.Common.{arith}
use Rattle.gear.proofs.Gear.capped.Goals as goal

pub usable_below-requires : goal.usable_below-requires
usable_below-requires c = omega (arith, c.min-2.ensures, c.requires.top)

pub returns : goal.returns
unfolding capped
returns c = simp (c.usable_below.ensures, c.min-2.ensures, c.min.ensures, c.heeded.ensures)
