use Rattle.float.proofs.gear.data_s.Goals as goal

pub returns : goal.returns
returns c = simp c.duration.ensures
