-- A profile's frame sizes, as the ledger needs them: what follows the code or serves proofs; nothing here has to be believed.
use Rattle.std.specs.Prelude.{◌≤◌}
use Rattle.limits.specs.Limits.{longest_payload, min_payload, max_top}
use Rattle.ledger.specs.Sizes.{Sizes}

-- and what holds of it where the profile is not refused by 1 or 2
pub record SizeRange (z : Sizes) : Type 0 where
  pub least : min_payload ≤ z.short
  pub order : z.short ≤ z.long
  pub most : z.long ≤ longest_payload
  pub bits : z.top ≤ max_top
