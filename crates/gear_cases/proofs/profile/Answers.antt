-- The profile is in range.
use Rattle.std.proofs.Common.{sym}
use Rattle.config.proofs.ranges.Ranged.{ranged}
use Rattle.gear_cases.proofs.profile.Goals as goal

pub replies-requires : goal.replies-requires
replies-requires g c = ranged c.profile_of-cfg.result (sym c.if-in_range.ensures)
