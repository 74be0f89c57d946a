-- `transcript::burst::frames` meets its contract.
use Prim.Native.Nat.{ℕ, ◌+◌, ◌*◌, min}
use mathlib.Core.Path.{◌≡◌, refl, ap, ◌∙◌}
use native.Mathlib.Omega.{arith}
use lib.ListN.{length, drop}
use native.Mathlib.Nat.{mul-add}
use Rattle.transcript.proofs.Laws.{frame-bytes, frame-next}
use Rattle.transcript.specs.Answers.{frame_entry, frame_line}
use Rattle.laws.proofs.Span.{upto-more, upto-none}
use Rattle.text.proofs.Texts.{told, begun, turn, ended}
use Rattle.transcript.proofs.burst.frames.Goals as goal

pub loop-i-init : goal.loop-i-init
loop-i-init c =
    let a = c.args in
    let e : 0 ≡ a.size * 0 = omega arith in
    (omega arith, ap (λ (k : ℕ). drop k a.out.now) e, begun _ refl)

pub loop-i-preserved : goal.loop-i-preserved
loop-i-preserved c =
    let a = c.args in
    let out = a.out.now in
    let i = c.loop-i.i in
    let from = c.loop-i.from in
    let to = c.min-to.result in
    let v = c.loop-i.invariant in
    let e : to ≡ min (from + a.size) (length out) = omega arith in
    let bytes = frame-bytes out from a.size (a.size * i) to v.0 v.1 e in
    let put = told c.frame.ensures (ap (frame_line _ _ _ _) bytes) in (
      omega arith,
      frame-next out from a.size (a.size * i) to v.0 v.1 e
          ∙ ap (λ (k : ℕ). drop k out) (let e : a.size * i + a.size ≡ a.size * (i + 1) = omega (arith, mul-add a.size i 1) in e),
      turn (frame_entry a.f a.size out) (upto-more i a.count (omega arith)) v.2 put,
    )

pub returns : goal.returns
returns c =
    let a = c.args in
    ended (frame_entry a.f a.size a.out.now) (upto-none c.loop-i.i a.count (omega arith)) c.loop-i.invariant.2
