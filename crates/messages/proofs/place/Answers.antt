-- `messages::place` meets its contract. The invariant: the place is that among the entries from `row` on, with `bytes` before them.
use mathlib.Core.Bool.{false}
use Rattle.messages.specs.MessagesCode.{place_in}
use Rattle.messages.proofs.Scan.{rest, place-stop, place-pass, place_end}
use Prim.Native.Nat.{ℕ, ◌+◌}
use Rattle.messages.specs.declared.Position.{Position}
use mathlib.Core.Path.{◌≡◌, sym, ap, ◌∙◌}
use native.Mathlib.Omega.{arith}
use Rattle.messages.proofs.place.Goals as goal

pub returns-then-begun-class : goal.returns-then-begun-class
returns-then-begun-class c =
    let a = c.args in
    sym (c.loop-row.invariant.1 ∙ place-stop a.m a.m.n c.loop-row.row (omega arith) _ _ _ c.if-begun-class.true)

pub loop-row-preserved : goal.loop-row-preserved
loop-row-preserved c =
    let a = c.args in
    let j = c.loop-row.row in (
      omega (arith, c.from-bytes.ensures),
      c.loop-row.invariant.1 ∙ place-pass a.m a.m.n j (omega arith) _ _ _ c.if-begun-class.false
          ∙ ap (λ (l : ℕ). place_in a.class (j + 1) (c.loop-row.bytes + l) false (rest a.m a.m.n (j + 1))) (sym c.from-bytes.ensures),
    )

pub returns : goal.returns
returns c =
    let a = c.args in
    let e : a.m.n ≡ c.loop-row.row = omega arith in
    let at : ℕ → Position = λ r. record { row = r; bytes = c.loop-row.bytes } in
    ap at e ∙ sym (c.loop-row.invariant.1 ∙ place_end a.m a.m.n c.loop-row.row (omega arith) _ _ _)
