-- `size_now`: under the profile. Assumes nothing.
use Rattle.run_lines.specs.RunLines.{size_now}
use Rattle.run_lines.proofs.size_now.Goals as goal

pub profile_now-p-requires : goal.profile_now-p-requires
profile_now-p-requires c = tt

pub size_at-requires : goal.size_at-requires
size_at-requires c = tt

pub returns : goal.returns
unfolding size_now
returns c = rw (← c.profile_now-p.ensures) c.size_at.ensures
