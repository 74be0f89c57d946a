-- `queuing::enqueue` meets its contract: what `withdrawn` and `put_in` leave is what `queued_waiting` says.
use mathlib.Core.Path.{sym, ap, ap₂, subst, ◌∙◌}
use mathlib.Core.List.{List}
use Prim.Native.Nat.{ℕ}
use native.Mathlib.Omega.{arith}
use lib.ListN.{length}
use borrow.Author.Rules.{rules}
use Rattle.queuing.specs.StationCode.{Room, put_in}
use Rattle.queuing.specs.declared.Waiting.{Waiting}
use Rattle.queuing.proofs.Queuing.{queued-none, queued-steps, stayed-room}
use Rattle.queuing.proofs.enqueue.Goals as goal

pub returns-then-bytes-eq0 : goal.returns-then-bytes-eq0
returns-then-bytes-eq0 c =
    let a = c.args in
    queued-none a.class a.label a.m a.flying a.waiting a.a.now a.bytes.now c.if-bytes-eq0.true

pub withdrawn-w-requires : goal.withdrawn-w-requires
withdrawn-w-requires c =
    let f = c.requires in record {
      n_le_max_messages = f.messages.few;
      m_in_bounds = omega (arith, f.area, f.waits, f.messages.sum);
      m_bound = omega (arith, f.taken, f.messages.sum);
    }

pub put_in-requires : goal.put_in-requires
put_in-requires c =
    let a = c.args in
    subst (λ (x : Waiting × List ℕ). Room x.0.messages a.flying x.0.waiting x.1 (length a.bytes.now))
    (sym c.withdrawn-w.ensures)
    (stayed-room a.m a.flying a.waiting a.a.now a.label _ c.requires (omega arith) (record { left = search rules; class = search rules; label = search rules }))

pub returns : goal.returns
returns c =
    let a = c.args in
    let bs = a.bytes.now in
    ap₂ (λ (r : Waiting) (x : List ℕ). (r, x)) c.put_in.ensures.value c.put_in.ensures.a_after
    ∙ ap (λ (x : Waiting × List ℕ). put_in a.class a.label bs x.0.messages a.flying x.0.waiting x.1)
    c.withdrawn-w.ensures
    ∙ queued-steps a.class a.label a.m a.flying a.waiting a.a.now bs (omega arith)
