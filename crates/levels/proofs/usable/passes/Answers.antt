use Rattle.levels.specs.Usable.{passes}
use Rattle.levels.proofs.usable.passes.Goals as goal

pub returns-then-now-until : goal.returns-then-now-until
unfolding passes
returns-then-now-until c = simp c.if-now-until.true

pub returns : goal.returns
unfolding passes
returns c = simp (c.if-now-until.false, c.guard_ms-2.ensures, c.wave_rank-2.ensures, c.guard_ms.ensures, c.wave_rank.ensures)
