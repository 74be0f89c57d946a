-- `messages::withdraw` meets its contract. The invariant: what is left to do from row i on (Withdrawn.antt), where `to` entries stay so far.
use Rattle.ledger.specs.Queue.{withdraws}
use Rattle.messages.specs.declared.Messages.{Messages}
use Rattle.messages.specs.Messages.{Entry, entry_in_row, begun_in}
use Rattle.messages.proofs.Entries.{entries-step, entries_none}
use Rattle.messages.proofs.Scan.{rest, total-turn}
use Rattle.messages.proofs.Withdrawn.{more, leaves, leaves-start, leaves-go, leaves-stay, leaves-end}
use Prim.Native.Nat.{ℕ, ◌+◌}
use mathlib.Core.Bool.{Bool, true, false, not, ◌&&◌}
use mathlib.Core.List.{List}
use mathlib.Core.Path.{◌≡◌, ap, ap₂, sym, ◌∙◌}
use lib.ListN.{get_or}
use native.Mathlib.Omega.{arith}
use native.Mathlib.Nat.{sub-zero}
use Rattle.messages.proofs.withdraw.Goals as goal
use Rattle.messages.proofs.withdraw.Goals.{then-begun-withdraws, else-begun-withdraws}

pub loop-i-init : goal.loop-i-init
loop-i-init c = let a = c.args in (omega arith, simp sub-zero c.requires.1, simp sub-zero (leaves-start a.label a.m))

pub overflow_add-out : goal.overflow_add-out
overflow_add-out c =
    let a = c.args in
    omega (arith, c.from.ensures, c.loop-i.invariant.1, total-turn a.m a.m.n c.loop-i.i (omega arith))

pub loop-i-preserved : goal.loop-i-preserved
loop-i-preserved c =
    let a = c.args in
    let m = a.m in
    let i = c.loop-i.i in
    let later = rest m m.n (i + 1) in
    let go : Messages → ℕ → Messages = λ o t. leaves o t a.label false later (begun_in m) in
    let turn = total-turn m m.n i (omega arith) in
    let step = c.loop-i.invariant.2 ∙ ap (λ (es : List Entry). leaves c.loop-i.out c.loop-i.to a.label c.loop-i.begun es (begun_in m)) (entries-step m i m.n (omega arith)) in
    let test : (r : Bool) → (not c.loop-i.begun && c.withdraws.result) ≡ r → (not c.loop-i.begun && withdraws a.label (get_or m.label i 0)) ≡ r =
    λ r e. ap (λ (b : Bool). not c.loop-i.begun && b) (sym c.withdraws.ensures) ∙ e in
    elim c.if-begun-withdraws.branch [
      | then-begun-withdraws w ↦ (
        omega (arith, w.to-is),
        omega (arith, w.from.ensures, ap (λ (o : Messages). o.withdrawn) w.out-is, c.loop-i.invariant.1, turn),
        step ∙ leaves-go c.loop-i.out c.loop-i.to a.label c.loop-i.begun (entry_in_row m i) later (begun_in m) (test true w.if-begun-withdraws.true)
            ∙ ap (λ (k : ℕ). go (more c.loop-i.out k) c.loop-i.to) (sym w.from.ensures) ∙ sym (ap₂ go w.out-is w.to-is),
      )
      | else-begun-withdraws w ↦ (
        omega (arith, w.to-is),
        omega (arith, ap (λ (o : Messages). o.withdrawn) w.out-is, c.loop-i.invariant.1, turn),
        step ∙ leaves-stay c.loop-i.out c.loop-i.to a.label c.loop-i.begun (entry_in_row m i) later (begun_in m) (test false w.if-begun-withdraws.false)
            ∙ sym (ap₂ go w.out-is w.to-is),
      )
    ]

pub returns : goal.returns
returns c =
    let a = c.args in
    sym (c.loop-i.invariant.2 ∙ leaves-end c.loop-i.out c.loop-i.to a.label c.loop-i.begun (rest a.m a.m.n c.loop-i.i) (begun_in a.m) (entries_none a.m c.loop-i.i a.m.n (omega arith)))
