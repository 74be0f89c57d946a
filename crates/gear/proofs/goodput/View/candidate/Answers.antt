use Rattle.gear.specs.Levels.{view_candidate}
use Rattle.gear.proofs.goodput.View.candidate.Goals as goal

pub returns : goal.returns
unfolding view_candidate
returns c = simp (c.in_reach.ensures, c.family_ok.ensures)
