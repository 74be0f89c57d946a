use Rattle.level.specs.Ladder.{is_step}
use Rattle.level.proofs.is_step.Goals as goal
use Rattle.std.proofs.Common.{arith}
use Rattle.std.proofs.lemmas.Bool.Decides.{nat_tests}

pub returns : goal.returns
unfolding is_step
returns c = simp (c.rate.ensures, c.wave_rank-w.ensures) (grind (arith, nat_tests))
