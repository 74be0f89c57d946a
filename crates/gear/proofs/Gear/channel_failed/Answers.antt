use Rattle.gear.proofs.Gear.channel_failed.Goals as goal

pub returns : goal.returns
returns c = simp c.channel_failed-self.ensures
