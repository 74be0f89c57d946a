use Rattle.defaults.proofs.new_profile.Goals as goal

pub returns : goal.returns
returns c = cc
