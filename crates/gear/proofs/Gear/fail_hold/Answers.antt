use Rattle.levels.proofs.memory.Laws.{others-le}
use Rattle.gear.specs.Judging.{fail_hold}
use Rattle.std.proofs.Common.{arith}
use Rattle.gear.proofs.Gear.fail_hold.Goals as goal

pub overflow_add-fails : goal.overflow_add-fails
overflow_add-fails c = omega (arith, c.next_fails-fails.ensures, c.others.ensures, others-le c.args.self.holds c.args.at c.args.now)

pub hold-requires : goal.hold-requires
hold-requires c = omega (arith, c.next_fails-fails.ensures, c.others.ensures, others-le c.args.self.holds c.args.at c.args.now)

pub returns-then-channel : goal.returns-then-channel
unfolding fail_hold
returns-then-channel c = simp (c.hold.ensures, c.others.ensures, c.if-channel.true, c.next_fails-fails.ensures)

pub returns : goal.returns
unfolding fail_hold
returns c = simp (c.hold-2.ensures, c.if-channel.false, c.next_fails-fails.ensures)
