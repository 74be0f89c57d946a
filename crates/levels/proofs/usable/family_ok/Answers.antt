use Rattle.levels.specs.Usable.{family_ok}
use Rattle.laws.proofs.Picks.{picks}
use Rattle.levels.proofs.usable.family_ok.Goals as goal

pub returns-in-0-to-2 : goal.returns-in-0-to-2
unfolding family_ok
returns-in-0-to-2 c = rw (← c.wave_rank.ensures) (search picks)

pub returns-in-4 : goal.returns-in-4
unfolding family_ok
returns-in-4 c = rw (← c.wave_rank.ensures) (search picks)

pub returns-in_default : goal.returns-in_default
unfolding family_ok
returns-in_default c = rw (← c.wave_rank.ensures) (search picks)
