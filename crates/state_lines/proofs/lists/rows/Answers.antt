-- `state_lines::lists::rows` meets its contract.
use Prim.Native.Nat.{ℕ, ◌-◌}
use mathlib.Core.Path.{◌≡◌, refl, ap}
use native.Mathlib.Omega.{arith}
use Rattle.state_lines.specs.State.{piece_word}
use Rattle.text.specs.Buffer.{each}
use Rattle.area.proofs.table.Laws.{rows-turn, rows_none}
use Rattle.area.specs.Table.{rows_from}
use Rattle.text.proofs.Texts.{begun, turn, ended}
use Rattle.state_lines.proofs.lists.rows.Goals as goal

pub loop-i-init : goal.loop-i-init
loop-i-init c =
    let a = c.args in
    let e : a.count ≡ a.count - 0 = omega arith in
    begun _ (ap (λ (k : ℕ). each piece_word (rows_from a.area.now 0 k)) e)

pub row-requires : goal.row-requires
row-requires c = omega arith

pub loop-i-preserved : goal.loop-i-preserved
loop-i-preserved c =
    let a = c.args in
    turn piece_word (rows-turn a.area.now c.loop-i.i a.count _ (omega arith) refl) c.loop-i.invariant c.row.ensures

pub returns : goal.returns
returns c =
    let a = c.args in
    ended piece_word (rows_none a.area.now c.loop-i.i a.count (omega arith)) c.loop-i.invariant
