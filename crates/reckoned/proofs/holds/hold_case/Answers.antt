-- The profile is in range.
use Rattle.std.proofs.Common.{sym}
use Rattle.config.proofs.ranges.Ranged.{ranged}
use Rattle.reckoned.proofs.holds.hold_case.Goals as goal

pub on_ack-g-requires-clause-fact_2 : goal.on_ack-g-requires-clause-fact_2
on_ack-g-requires-clause-fact_2 g c = ranged c.ladder_profile-p.result (sym c.if-in_range.ensures)
