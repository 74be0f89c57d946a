-- `sender::frames_rx` meets its contract.
use mathlib.Core.Path.{sym, ap, ◌∙◌}
use native.Mathlib.Omega.{arith}
use Rattle.record.proofs.View.{Arrays}
use Rattle.std.specs.Prelude.{Result}
use Rattle.refusals.specs.declared.Refusal.{Refusal}
use Rattle.refusals.specs.Verdict.{Verdict}
use Rattle.sender.specs.Numbered.{after_reply}
use Rattle.record.specs.declared.Sender.{Sender}
use Rattle.refusals.specs.Refusals.{number_of}
use Rattle.verdicts.specs.Verdicts.{first_of, frames_standing, hearing_verdict, frames_verdict}
use Rattle.verdicts.proofs.Passed.{is-passed, not-passed, from-err}
use Rattle.sender.proofs.Accepted.{frames-refused, frames-ranged, frames-ready, frames-accepted}
use Rattle.sender.proofs.Numbers.{answer-numbered}
use Rattle.sender.proofs.frames_rx.Goals as goal

pub returns-in_err-frames_verdict : goal.returns-in_err-frames_verdict
unfolding frames_verdict
returns-in_err-frames_verdict c =
    let asked = c.frames_verdict.ensures
    ∙ ap (λ (u : Verdict). first_of (frames_standing u c.args.r.n) (hearing_verdict c.args.t.sender.link.last_time c.args.h))
    c.standing-v.ensures in
    ap (λ (x : Result Sender Refusal). (after_reply c.args.t x, c.args.a.now)) (from-err _ _ c.from_residual.ensures.1)
    ∙ answer-numbered _ _ _ _
    (frames-refused c.args.p c.args.t c.args.a.now c.args.h c.args.r c.args.payloads.now _ asked
    (not-passed _ _ _ asked c.in_err-frames_verdict.was))
    (sym (ap (λ (u : Verdict). number_of u) c.in_err-frames_verdict.was))

pub hear_frames-sender-requires : goal.hear_frames-sender-requires
unfolding frames_verdict
hear_frames-sender-requires c =
    let asked = c.frames_verdict.ensures
    ∙ ap (λ (u : Verdict). first_of (frames_standing u c.args.r.n) (hearing_verdict c.args.t.sender.link.last_time c.args.h))
    c.standing-v.ensures in
    let arrays : Arrays c.args.t.sender = record {
      held_off = omega arith;
      held_bits = omega arith;
      sent_off = omega arith;
      sent_bits = omega arith;
      sent_held = omega arith;
    } in
    let ok = (is-passed _ _ _ asked c.in_ok-frames_verdict.was) in record {
      fact_1 = frames-ranged c.args.p c.args.t c.args.a.now c.args.h c.args.r c.args.payloads.now ok;
      fact_2 = frames-ready c.args.p c.args.t c.args.a.now c.args.h c.args.r c.args.payloads.now ok arrays;
    }

pub returns : goal.returns
unfolding frames_verdict
returns c =
    let asked = c.frames_verdict.ensures
    ∙ ap (λ (u : Verdict). first_of (frames_standing u c.args.r.n) (hearing_verdict c.args.t.sender.link.last_time c.args.h))
    c.standing-v.ensures in
    answer-numbered _ _ _ _
    (frames-accepted c.args.p c.args.t c.args.a.now c.args.h c.args.r c.args.payloads.now
    (is-passed _ _ _ asked c.in_ok-frames_verdict.was) _ _ asked
    c.hear_frames-sender.ensures)
    (sym (ap (λ (u : Verdict). number_of u) c.in_ok-frames_verdict.was))
