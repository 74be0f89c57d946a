use Rattle.gear.specs.Judging.{blamed}
use Rattle.gear.proofs.blamed.Goals as goal

pub returns : goal.returns
unfolding blamed
returns c = simp (c.wave_rank.ensures, c.marks-m.ensures)
