use Rattle.levels.specs.Memory.{aim_of}
use Rattle.levels.proofs.memory.Reports.aim.Goals as goal

pub returns-then-smooth-self : goal.returns-then-smooth-self
unfolding aim_of
returns-then-smooth-self c = simp (c.min.ensures, c.median32.ensures, c.if-smooth-self.true)

pub returns : goal.returns
unfolding aim_of
returns c = simp c.if-smooth-self.false
