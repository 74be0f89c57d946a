-- `sender::data_burst` meets its contract.
use mathlib.Core.Path.{ap, ◌∙◌}
use mathlib.Core.List.{List}
use Prim.Native.Nat.{ℕ}
use native.Mathlib.Omega.{arith}
use lib.ListN.{length}
use Rattle.config.proofs.ranges.Ranged.{ranged}
use Rattle.record.proofs.View.{Arrays}
use Rattle.record.specs.declared.Sender.{Sender}
use Rattle.soundness.proofs.fields.Sound.{test-sound}
use Rattle.messages.proofs.Kept.{ok-sound}
use Rattle.outgoing.specs.declared.Outgoing.{Outgoing}
use Rattle.refusals.specs.Verdict.{Verdict}
use Rattle.verdicts.specs.Verdicts.{first_of, output_verdict, burst_verdict}
use Rattle.verdicts.proofs.Passed.{asked-passed, burst-passed}
use Rattle.sender.proofs.Bursting.{next_grows, burst-refused, burst-accepted}
use Rattle.sender.proofs.Numbers.{burst-numbered}
use Rattle.sender.proofs.data_burst.Goals as goal

pub returns-then-is_err : goal.returns-then-is_err
unfolding burst_verdict
returns-then-is_err c =
    let asked = c.burst_verdict-v.ensures ∙ ap
    (λ (u : Verdict). first_of u (output_verdict c.args.p.long_bytes (length c.args.out.now))) c.standing-v.ensures in
    burst-numbered _ _ _ _
    (burst-refused _ _ _ _ _ _ asked c.no_burst-outgoing.ensures (asked-passed _ _ _ _ asked c.is_err.ensures.value c.if-is_err.true))
    c.number-refusal.ensures

pub data_burst-b-requires : goal.data_burst-b-requires
unfolding burst_verdict
data_burst-b-requires c =
    let asked = c.burst_verdict-v.ensures ∙ ap
    (λ (u : Verdict). first_of u (output_verdict c.args.p.long_bytes (length c.args.out.now))) c.standing-v.ensures in
    let arrays : Arrays c.args.t.sender = record {
      held_off = omega arith;
      held_bits = omega arith;
      sent_off = omega arith;
      sent_bits = omega arith;
      sent_held = omega arith;
    } in
    let q = burst-passed c.args.p c.args.t c.args.a.now (length c.args.out.now)
    (asked-passed _ _ _ _ asked c.is_err.ensures.value c.if-is_err.false) in record {
      fact_1 = ranged c.args.p q.0;
      fact_2 = (q.1, test-sound c.args.p c.args.t.sender c.args.a.now arrays q.2, q.3);
    }

pub overflow_sub-k : goal.overflow_sub-k
overflow_sub-k c =
    let n = ap (λ (x : (Outgoing × Sender) × (List ℕ × List ℕ)). x.0.1.counts.next_offset) c.data_burst-b.ensures in
    omega (arith, n, next_grows c.args.p c.args.t.sender c.args.a.now c.args.out.now)

pub fly-messages-requires : goal.fly-messages-requires
unfolding burst_verdict
fly-messages-requires c =
    let asked = c.burst_verdict-v.ensures ∙ ap
    (λ (u : Verdict). first_of u (output_verdict c.args.p.long_bytes (length c.args.out.now))) c.standing-v.ensures in
    (ok-sound _ _ (burst-passed c.args.p c.args.t c.args.a.now (length c.args.out.now)
    (asked-passed _ _ _ _ asked c.is_err.ensures.value c.if-is_err.false)).4).few

pub returns : goal.returns
unfolding burst_verdict
returns c =
    let asked = c.burst_verdict-v.ensures ∙ ap
    (λ (u : Verdict). first_of u (output_verdict c.args.p.long_bytes (length c.args.out.now))) c.standing-v.ensures in
    let arrays : Arrays c.args.t.sender = record {
      held_off = omega arith;
      held_bits = omega arith;
      sent_off = omega arith;
      sent_bits = omega arith;
      sent_held = omega arith;
    } in
    burst-numbered _ _ _ _
    (burst-accepted c.args.p c.args.t c.args.a.now c.args.out.now arrays
    (asked-passed _ _ _ _ asked c.is_err.ensures.value c.if-is_err.false) _ _ _ asked c.data_burst-b.ensures
    c.fly-messages.ensures)
    c.number-refusal.ensures
