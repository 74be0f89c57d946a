-- `refusals::reply_ok` meets its contract.
use mathlib.Core.Path.{sym, ap}
use Rattle.laws.specs.Tests.{all}
use Rattle.refusals.specs.Refusals.{reply_ok}
use Rattle.refusals.proofs.reply_ok.Goals as goal

pub returns-in-ConnAck : goal.returns-in-ConnAck
unfolding reply_ok
returns-in-ConnAck c = rw c.in-ConnAck.is (simp c.report_ok.ensures)

pub returns-in-Ack : goal.returns-in-Ack
unfolding all reply_ok
returns-in-Ack c = rw c.in-Ack.is (simp c.report_ok-in-Ack.ensures)

pub returns-in-LongAck : goal.returns-in-LongAck
unfolding reply_ok
returns-in-LongAck c = sym (ap reply_ok c.in-LongAck.is)

pub returns-in-Turn : goal.returns-in-Turn
unfolding reply_ok
returns-in-Turn c = rw c.in-Turn.is (simp c.report_ok-in-Turn.ensures)
