use lib.Ieee.{of_int, of_bits}
use Rattle.gear.specs.Levels.{seen_chance}
use Rattle.gear.proofs.goodput.Seen.chance.Goals as goal

pub returns-then-self : goal.returns-then-self
unfolding seen_chance of_int of_bits
returns-then-self c = simp (c.remembered-w.ensures, c.if-self.true)

pub returns : goal.returns
unfolding seen_chance
returns c = simp c.if-self.false
