-- `sender::queue` meets its contract.
use mathlib.Core.Bool.{true, false}
use mathlib.Core.Path.{◌≡◌, sym, ap, ◌∙◌}
use lib.ListN.{length}
use Rattle.messages.specs.SoundCode.{Sized}
use Rattle.messages.proofs.Kept.{ok-sound}
use Rattle.queuing.specs.StationCode.{store_waiting}
use Rattle.queuing.proofs.Queuing.{queued-waiting}
use native.Mathlib.Omega.{arith}
use Rattle.record.proofs.View.{Arrays}
use Rattle.std.specs.Prelude.{Result}
use Rattle.refusals.specs.declared.Refusal.{Refusal}
use Rattle.refusals.specs.Verdict.{Verdict}
use Rattle.sender.specs.Numbered.{after_queue}
use Rattle.queuing.specs.declared.Waiting.{Waiting}
use Rattle.refusals.specs.Refusals.{number_of}
use Rattle.verdicts.specs.Verdicts.{passed, first_of, room_verdict, queue_verdict}
use Rattle.verdicts.proofs.Passed.{is-passed, not-passed, from-err, Stands, standing-three}
use Rattle.sender.proofs.Accepted.{queue-refused, queue-accepted, queue-fit}
use Rattle.sender.proofs.Numbers.{answer-numbered}
use Rattle.sender.proofs.queue.Goals as goal

pub queue_verdict-requires : goal.queue_verdict-requires
queue_verdict-requires c =
    let three : passed c.standing-v.result ≡ true → Stands c.args.p c.args.t c.args.a.now =
    λ e. standing-three c.args.p c.args.t c.args.a.now false (sym (ap (λ (u : Verdict). passed u) c.standing-v.ensures) ∙ e) in record {
      m_bound = λ e. (three e).4;
      sound_messages = λ e. ok-sound _ _ (three e).3;
    }

pub returns-in_err-queue_verdict : goal.returns-in_err-queue_verdict
unfolding queue_verdict
returns-in_err-queue_verdict c =
    let t = c.args.t in
    let asked = c.queue_verdict.ensures
    ∙ ap (λ (u : Verdict). first_of u (room_verdict t.sender.counts t.messages c.args.m.class c.args.m.label
    (length c.args.bytes.now))) c.standing-v.ensures in
    ap (λ (x : Result Waiting Refusal). (after_queue c.args.t x, c.args.a.now)) (from-err _ _ c.from_residual.ensures.1)
    ∙ answer-numbered _ _ _ _
    (queue-refused c.args.p c.args.t c.args.a.now c.args.m.class c.args.m.label c.args.bytes.now _ asked
    (not-passed _ _ _ asked c.in_err-queue_verdict.was))
    (sym (ap (λ (u : Verdict). number_of u) c.in_err-queue_verdict.was))

pub enqueue-w-requires : goal.enqueue-w-requires
unfolding queue_verdict
enqueue-w-requires c =
    let t = c.args.t in
    let asked = c.queue_verdict.ensures
    ∙ ap (λ (u : Verdict). first_of u (room_verdict t.sender.counts t.messages c.args.m.class c.args.m.label
    (length c.args.bytes.now))) c.standing-v.ensures in
    let arrays : Arrays c.args.t.sender = record {
      held_off = omega arith;
      held_bits = omega arith;
      sent_off = omega arith;
      sent_bits = omega arith;
      sent_held = omega arith;
    } in
    (queue-fit c.args.p c.args.t c.args.a.now c.args.m.class c.args.m.label c.args.bytes.now arrays
    (is-passed _ _ _ asked c.in_ok-queue_verdict.was)).space

pub returns : goal.returns
unfolding queue_verdict
returns c =
    let t = c.args.t in
    let asked = c.queue_verdict.ensures
    ∙ ap (λ (u : Verdict). first_of u (room_verdict t.sender.counts t.messages c.args.m.class c.args.m.label
    (length c.args.bytes.now))) c.standing-v.ensures in
    let sized : Sized c.args.t.messages = record {
      left = omega arith;
      class = omega arith;
      label = omega arith;
    } in
    let arrays : Arrays c.args.t.sender = record {
      held_off = omega arith;
      held_bits = omega arith;
      sent_off = omega arith;
      sent_bits = omega arith;
      sent_held = omega arith;
    } in
    let bs = c.args.bytes.now in
    answer-numbered _ _ _ _
    (queue-accepted c.args.p t c.args.a.now c.args.m.class c.args.m.label bs _ _ asked
    (is-passed _ _ _ asked c.in_ok-queue_verdict.was)
    (ap (store_waiting t) c.enqueue-w.ensures
    ∙ queued-waiting t c.args.a.now arrays (λ k. (c.slice_known-1.given k).fits) sized c.args.m.class c.args.m.label bs
    (queue-fit c.args.p c.args.t c.args.a.now c.args.m.class c.args.m.label c.args.bytes.now arrays
    (is-passed _ _ _ asked c.in_ok-queue_verdict.was))))
    (sym (ap (λ (u : Verdict). number_of u) c.in_ok-queue_verdict.was))
