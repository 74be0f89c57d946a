-- `receive::accepted::hear_payload` meets its contract.
use mathlib.Core.Path.{ap, ◌∙◌}
use Rattle.std.proofs.Common.{Option}
use Rattle.report.specs.declared.ack.AckInfo.{AckInfo}
use Rattle.receive.specs.Accepted.{long_read}
use Rattle.receive.proofs.accepted.hear_payload.Goals as goal

pub returns-in-None : goal.returns-in-None
returns-in-None c = ap (λ (i : Option AckInfo). long_read c.args.p c.args.h c.args.r i c.args.s c.args.a.now) c.in-None.ensures

pub returns-in-Some : goal.returns-in-Some
returns-in-Some c =
    c.hear_long.ensures ∙ ap (λ (i : Option AckInfo). long_read c.args.p c.args.h c.args.r i c.args.s c.args.a.now) c.in-Some.ensures
