-- What a loop over frames keeps.
-- Follows the code or serves proofs: nothing here has to be believed.
use Rattle.std.specs.Prelude.{ℕ, ◌^◌, ◌≤◌, ◌<◌}
use Rattle.receiver.specs.declared.Taking.{Taking}

-- the slot numbers taken lie below `least`, and the counts are those of at most n frames
pub record InBounds (t : Taking) (n : ℕ) : Type 0 where
  pub few : t.least ≤ 64
  pub small : t.bitmap < 2 ^ t.least
  pub wrong : t.wrong ≤ n
  pub beyond : t.beyond ≤ n
