-- `sender::short_ack` meets its contract.
use mathlib.Core.List.{[]}
use native.Mathlib.Omega.{arith}
use Rattle.record.proofs.View.{Arrays}
use Rattle.refusals.specs.declared.Reply.TheVariants as R
use Rattle.sender.proofs.Accepted.{judged-reply, reply-ready}
use Rattle.sender.proofs.short_ack.Goals as goal

pub standing-v-requires : goal.standing-v-requires
standing-v-requires c = tt

pub judged-requires : goal.judged-requires
judged-requires c =
    let arrays : Arrays c.args.t.sender = record {
      held_off = omega arith;
      held_bits = omega arith;
      sent_off = omega arith;
      sent_bits = omega arith;
      sent_held = omega arith;
    } in
    let a = c.args in
    reply-ready a.p a.t a.a.now arrays a.h (R.Ack a.r) 0 _ c.standing-v.ensures

pub returns : goal.returns
returns c =
    let a = c.args in
    judged-reply a.p a.t a.a.now a.h (R.Ack a.r) [] _ _ c.standing-v.ensures c.judged.ensures
