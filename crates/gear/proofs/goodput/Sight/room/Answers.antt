use Rattle.std.proofs.Common.{refl}
use Rattle.gear.specs.Levels.{sight_room}
use Rattle.gear.proofs.goodput.Sight.room.Goals as goal

pub returns : goal.returns
unfolding sight_room
returns c = refl
