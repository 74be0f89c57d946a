use Rattle.gear.proofs.Gear.view.Goals as goal

pub returns : goal.returns
returns c = simp c.heeded-class.ensures
