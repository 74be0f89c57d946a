-- `messages::superseded` meets its contract. The invariant: what goes of all entries is what has gone, and what goes of those from row i on.
use Rattle.laws.proofs.Picks.{or_left}
use Rattle.ledger.specs.Queue.{withdraws}
use Rattle.messages.specs.Messages.{entry_in_row, entries_in, total_left}
use Rattle.messages.specs.MessagesCode.{go_in}
use Rattle.messages.proofs.Entries.{entries-step, entries_none}
use Rattle.messages.proofs.Scan.{rest}
use Rattle.messages.proofs.Withdrawn.{go-yes, go-no, total-one, superseded-start, superseded-end, superseded-none}
use Prim.Native.Nat.{ℕ, ◌+◌}
use mathlib.Core.Bool.{Bool, true, false, not, ◌&&◌, ◌||◌, false≢true}
use mathlib.Core.List.{◌∷◌}
use mathlib.Core.Path.{◌≡◌, ap, sym, ◌∙◌}
use lib.ListN.{length, get_or}
use lib.Dec.{eqb}
use borrow.Author.Tests.{eq-eqb}
use native.Mathlib.Omega.{arith}
use Rattle.messages.proofs.superseded.Goals as goal
use Rattle.messages.proofs.superseded.Goals.{then-begun-withdraws, else-begun-withdraws}

-- no early return: there are bytes
bytes-some : (n : ℕ) (b : Bool) → (eqb n 0 || b) ≡ false → n ≡ 0 → ⊥
bytes-some n b h e = absurd (false≢true (sym h ∙ or_left _ _ (eq-eqb _ _ e)))

pub returns-then-n-label : goal.returns-then-n-label
returns-then-n-label c = let a = c.args in sym (superseded-none a.label a.n a.m c.if-n-label.true)

pub loop-i-preserved : goal.loop-i-preserved
loop-i-preserved c =
    let a = c.args in
    let m = a.m in
    let i = c.loop-i.i in
    let b = c.loop-i.begun in
    let later = rest m m.n (i + 1) in
    let step : go_in a.label b (rest m m.n i) ≡ go_in a.label b (entry_in_row m i ∷ later) = ap (go_in a.label b) (entries-step m i m.n (omega arith)) in
    let test : (r : Bool) → (not b && c.withdraws.result) ≡ r → (not b && withdraws a.label (get_or m.label i 0)) ≡ r =
    λ r e. ap (λ (y : Bool). not b && y) (sym c.withdraws.ensures) ∙ e in
    elim c.if-begun-withdraws.branch [
      | then-begun-withdraws w ↦
          let e = step ∙ go-yes a.label b (entry_in_row m i) later (test true w.if-begun-withdraws.true) in
          let t = total-one (entry_in_row m i) (go_in a.label false later) in (
            omega (arith, w.gone-is),
            omega (arith, w.from-bytes.ensures, w.bytes-is),
            omega (arith, w.gone-is, ap length e, c.loop-i.invariant.2),
            omega (arith, w.from-bytes.ensures, w.bytes-is, ap total_left e, c.loop-i.invariant.3, t),
          )
      | else-begun-withdraws w ↦
          let e = step ∙ go-no a.label b (entry_in_row m i) later (test false w.if-begun-withdraws.false) in (
            omega (arith, w.gone-is),
            omega (arith, w.bytes-is),
            omega (arith, w.gone-is, ap length e, c.loop-i.invariant.2),
            omega (arith, w.bytes-is, ap total_left e, c.loop-i.invariant.3),
          )
    ]

pub returns : goal.returns
returns c =
    let a = c.args in
    let m = a.m in
    let e = superseded-end a.label c.loop-i.begun (rest m m.n c.loop-i.i) (entries_none m c.loop-i.i m.n (omega arith)) in
    let n : c.loop-i.gone ≡ length (go_in a.label m.begun (entries_in m)) = omega (arith, c.loop-i.invariant.2, e.0) in
    let k : c.loop-i.bytes ≡ total_left (go_in a.label m.begun (entries_in m)) = omega (arith, c.loop-i.invariant.3, e.1) in
    (λ j. record { n = n j; bytes = k j }) ∙ sym (superseded-start a.label a.n m (bytes-some _ _ c.if-n-label.false))
