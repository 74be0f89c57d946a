use Rattle.gear.specs.Judging.{judged}
use lib.Ieee.{of_int, of_bits}
use Rattle.gear.proofs.Gear.judge.Goals as goal

pub returns-then-cfg : goal.returns-then-cfg
unfolding judged of_int of_bits
returns-then-cfg c = simp (c.if-cfg.true, c.adapt_burst.ensures, c.by_goodput.ensures, c.note-self.ensures)

pub returns : goal.returns
unfolding judged of_int of_bits
returns c = simp (c.if-cfg.false, c.adapt_burst-2.ensures, c.by_ladder.ensures, c.note-self.ensures)
