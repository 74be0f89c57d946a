-- `f32_at`: the number, and what it means. Assumes nothing.
use Rattle.profile_table.proofs.f32_at.Goals as goal

pub returns : goal.returns
returns c = cc
