-- `take_in`: its call, what is said of it, and what it leaves. Assumes nothing.
use mathlib.Core.Path.{◌∙◌, ap}
use mathlib.Core.List.{List}
use Prim.Native.Nat.{ℕ}
use Rattle.text.specs.Buffer.{appended}
use Rattle.box_lines.specs.BoxLines.{received_line}
use Rattle.box_calls.specs.BoxCalls.{taken_in}
use Rattle.box_calls.proofs.Laws.{taken-said}
use Rattle.box_calls.proofs.take_in.Goals as goal

pub returns : goal.returns
unfolding taken_in
returns c =
    let q = c.receiver_rx-q in
    let a = c.args in
    let t : ℕ × List ℕ = (a.n, a.t.now) in
    let words = ap (λ (l : List ℕ). appended t (received_line a.name.now q.result.answer l)) c.least-k.ensures.a_value in
    taken-said a.name.now a.heard a.b t q.ensures (c.received-text.ensures ∙ words) c.after-next.ensures
