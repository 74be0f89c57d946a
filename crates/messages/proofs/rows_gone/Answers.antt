-- `messages::rows_gone` meets its contract. The invariant: what goes is what goes of the entries from `rows` on with the k bytes that are left.
use mathlib.Core.Bool.{false}
use Rattle.messages.specs.MessagesCode.{gone_in}
use Rattle.messages.proofs.Scan.{rest, gone-none, gone-cut, gone_whole, gone-end}
use Prim.Native.Nat.{ℕ, ◌+◌, ◌-◌}
use Rattle.messages.specs.declared.Gone.{Gone}
use mathlib.Core.Path.{◌≡◌, sym, ap, ◌∙◌}
use native.Mathlib.Omega.{arith}
use Rattle.messages.proofs.rows_gone.Goals as goal

pub returns-then-k-eq0 : goal.returns-then-k-eq0
returns-then-k-eq0 c =
    let a = c.args in
    sym (c.loop-rows.invariant ∙ gone-none a.m a.m.n c.loop-rows.rows (omega arith) _ _ c.if-k-eq0.true)

pub returns-then-k-from : goal.returns-then-k-from
returns-then-k-from c =
    let a = c.args in
    sym (c.loop-rows.invariant ∙ gone-cut a.m a.m.n c.loop-rows.rows (omega arith) _ _ c.if-k-eq0.false (omega (arith, c.from.ensures)))

pub loop-rows-preserved : goal.loop-rows-preserved
loop-rows-preserved c =
    let a = c.args in
    let k = c.loop-rows.k in
    let j = c.loop-rows.rows in
    c.loop-rows.invariant ∙ gone_whole a.m a.m.n j (omega arith) k _ c.if-k-eq0.false (omega (arith, c.from.ensures, c.if-k-from.false))
    ∙ ap (λ (l : ℕ). gone_in (k - l) (j + 1) false (rest a.m a.m.n (j + 1))) (sym c.from-k.ensures)

pub returns : goal.returns
returns c =
    let a = c.args in
    let e : a.m.n ≡ c.loop-rows.rows = omega arith in
    let at : ℕ → Gone = λ r. record { rows = r; left = 0; begun = false } in
    ap at e ∙ sym (c.loop-rows.invariant ∙ gone-end a.m a.m.n c.loop-rows.rows (omega arith) _ _)
