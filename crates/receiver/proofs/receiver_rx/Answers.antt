-- `receiver_rx` meets its contract: an accepted call changes the first 32,768 places, a refused one nothing.
use Rattle.receiver.proofs.Calls.{accepts, sound-places, sound-first, joined, was-accepted, was-refused}
use Rattle.receiver.specs.declared.Listened.{Listened}
use lib.Seq.{length-take-le}
use mathlib.Core.Path.{sym, ap, ◌∙◌}
use lib.ListN.{length}
use Rattle.receiver.proofs.receiver_rx.Goals as goal

pub slice_bounds-receive-end : goal.slice_bounds-receive-end
slice_bounds-receive-end c =
    let a = c.args in
    sound-places a.r a.w.now (accepts a.r a.w.now a.number (length a.out.now) (sym c.refusal-n.ensures ∙ c.if-n-eq0.true)).0

pub slice_bounds-receive-end-then-n-eq0 : goal.slice_bounds-receive-end-then-n-eq0
slice_bounds-receive-end-then-n-eq0 c =
    let a = c.args in
    sym (length-take-le 32768 a.w.now (sound-places a.r a.w.now (accepts a.r a.w.now a.number (length a.out.now) (sym c.refusal-n.ensures ∙ c.if-n-eq0.true)).0))

pub receive-requires : goal.receive-requires
receive-requires c =
    let a = c.args in
    let k = accepts a.r a.w.now a.number (length a.out.now) (sym c.refusal-n.ensures ∙ c.if-n-eq0.true) in
    (length-take-le 32768 a.w.now (sound-places a.r a.w.now k.0), k.2, sound-first a.r a.w.now k.0)

pub returns-then-n-eq0 : goal.returns-then-n-eq0
returns-then-n-eq0 c =
    let a = c.args in
    let n = sym c.refusal-n.ensures ∙ c.if-n-eq0.true in
    let k = accepts a.r a.w.now a.number (length a.out.now) n in
    was-accepted a.r a.number a.bytes.now a.sizes.now a.slots.now a.db a.out.now a.w.now _ n
    (joined a.r a.number a.bytes.now a.sizes.now a.slots.now a.db a.out.now a.w.now _ _ _ (sound-places a.r a.w.now k.0) c.receive.ensures)

pub returns-else-n-eq0 : goal.returns-else-n-eq0
returns-else-n-eq0 c =
    let a = c.args in
    was-refused a.r a.number a.bytes.now a.sizes.now a.slots.now a.db a.out.now a.w.now _ c.refusal-n.result c.refusal-n.ensures c.if-n-eq0.false
    (ap (λ (x : Listened). (x, (a.w.now, a.out.now))) c.refused.ensures)
