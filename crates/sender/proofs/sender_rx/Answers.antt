-- `sender::sender_rx` meets its contract.
use mathlib.Core.Path.{sym, ap, ◌∙◌}
use Rattle.refusals.specs.declared.Reply.{Reply}
use Rattle.sender.specs.Calls.{receive_of}
use Rattle.sender.specs.Numbered.{answer_number}
use Rattle.sender.proofs.Accepted.{connect-alone, short-alone, turn_alone}
use Rattle.sender.proofs.sender_rx.Goals as goal

pub connect-requires : goal.connect-requires
connect-requires c = tt

pub short_ack-requires : goal.short_ack-requires
short_ack-requires c = tt

pub long_ack-requires : goal.long_ack-requires
long_ack-requires c = tt

pub turn-requires : goal.turn-requires
turn-requires c = tt

pub returns-in-ConnAck : goal.returns-in-ConnAck
returns-in-ConnAck c =
    c.connect.ensures ∙ ap answer_number (connect-alone c.args.p c.args.t c.args.a.now c.args.h c.args.payload.now _)
    ∙ sym (ap (λ (r : Reply). answer_number (receive_of c.args.p c.args.t c.args.a.now c.args.h r c.args.payload.now)) c.in-ConnAck.is)

pub returns-in-Ack : goal.returns-in-Ack
returns-in-Ack c =
    c.short_ack.ensures ∙ ap answer_number (short-alone c.args.p c.args.t c.args.a.now c.args.h c.args.payload.now _)
    ∙ sym (ap (λ (r : Reply). answer_number (receive_of c.args.p c.args.t c.args.a.now c.args.h r c.args.payload.now)) c.in-Ack.is)

pub returns-in-LongAck : goal.returns-in-LongAck
returns-in-LongAck c =
    c.long_ack.ensures
    ∙ sym (ap (λ (r : Reply). answer_number (receive_of c.args.p c.args.t c.args.a.now c.args.h r c.args.payload.now)) c.in-LongAck.is)

pub returns-in-Turn : goal.returns-in-Turn
returns-in-Turn c =
    c.turn.ensures ∙ ap answer_number (turn_alone c.args.p c.args.t c.args.a.now c.args.h c.args.payload.now _)
    ∙ sym (ap (λ (r : Reply). answer_number (receive_of c.args.p c.args.t c.args.a.now c.args.h r c.args.payload.now)) c.in-Turn.is)
