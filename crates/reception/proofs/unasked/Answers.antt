-- `reception::unasked` meets its contract.
use mathlib.Core.Path.{ap, ◌∙◌}
use Rattle.std.proofs.Common.{Option}
use Rattle.report.specs.declared.ack.AckInfo.{AckInfo}
use Rattle.reception.specs.ReceptionCode.{read_noted}
use Rattle.reception.proofs.unasked.Goals as goal

pub returns-in-None : goal.returns-in-None
returns-in-None c = ap (λ (i : Option AckInfo). read_noted c.args.k c.args.time c.args.r i) c.in-None.ensures

pub returns-in-Some : goal.returns-in-Some
returns-in-Some c =
    c.note.ensures ∙ ap (λ (i : Option AckInfo). read_noted c.args.k c.args.time c.args.r i) c.in-Some.ensures
