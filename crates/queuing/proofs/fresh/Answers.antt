-- `queuing::fresh` meets its contract.
use mathlib.Core.Path.{ap₂}
use Rattle.messages.specs.declared.Messages.{Messages}
use Rattle.record.specs.declared.Sender.{Sender}
use Rattle.queuing.proofs.fresh.Goals as goal

pub returns : goal.returns
returns c = ap₂ (λ (s : Sender) (m : Messages). record { sender = s; messages = m }) c.fresh-sender.ensures c.none-messages.ensures
