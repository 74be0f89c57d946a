use Rattle.record.proofs.fresh.Goals as goal

pub returns : goal.returns
returns c = cc
