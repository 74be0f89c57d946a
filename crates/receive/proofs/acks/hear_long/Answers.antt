-- `receive::acks::hear_long` meets its contract.
use mathlib.Core.Path.{ap}
use native.Mathlib.Omega.{arith}
use Rattle.gear.specs.declared.Gear.{Gear}
use borrow.Author.Tests.{not-true, not-false}
use Rattle.record.proofs.View.{Arrays}
use Rattle.receive.proofs.acks.Replied.{settling, long-awaited, long-unasked}
use Rattle.receive.proofs.acks.hear_long.Goals as goal

pub returns-then-not-k : goal.returns-then-not-k
returns-then-not-k c = long-unasked _ _ _ _ _ _ _ c.note-k.ensures (not-true _ c.if-not-k.true)

pub ack_airtime-ms-requires : goal.ack_airtime-ms-requires
ack_airtime-ms-requires c = omega (arith, c.requires.fact_2.1)

pub ack_in-requires : goal.ack_in-requires
ack_in-requires c =
    let arrays : Arrays c.args.s = record {
      held_off = omega arith;
      held_bits = omega arith;
      sent_off = omega arith;
      sent_bits = omega arith;
      sent_held = omega arith;
    } in
    let gear = c.with_class-g.ensures in
    let ready = c.requires.fact_2.0 in record {
      fact_1 = c.requires.fact_1;
      fact_2 = (
        omega (arith, ap (λ (x : Gear). x.level) gear, ready.level),
        settling _ _ _ ready arrays
            (λ k. (c.slice_known-1.given k).fits) _ _ _,
      );
    }

pub returns : goal.returns
returns c =
    let arrays : Arrays c.args.s = record {
      held_off = omega arith;
      held_bits = omega arith;
      sent_off = omega arith;
      sent_bits = omega arith;
      sent_held = omega arith;
    } in
    long-awaited _ c.args.s c.args.a.now c.requires.fact_2.0 arrays (λ k. (c.slice_known-1.given k).fits) _ _ _ _ _ _ _ _ _ _
    c.report_or_none-c.ensures c.with_class-g.ensures c.note-k.ensures c.ack_airtime-ms.ensures c.long_db-db.ensures
    c.ack_in.ensures (not-false _ c.if-not-k.false)
