-- `area::splitting::store_cut` meets its contract.
use Rattle.laws.specs.Bytes.{overwrite}
use Rattle.area.specs.Layout.{place}
use Rattle.area.specs.Table.{table_bytes}
use Rattle.area.proofs.splitting.Laws.{cut-turn, cut-end, cut-some, store-turn}
use Rattle.area.specs.declared.table.Row.{Row}
use mathlib.Core.Path.{sym, ap, ◌∙◌}
use mathlib.Core.List.{List}
use native.Mathlib.Omega.{arith}
use lib.ListN.{length}
use Rattle.area.proofs.splitting.store_cut.Goals as goal

pub store_row-requires : goal.store_row-requires
store_row-requires c =
    let p = c in
    let a = p.args in
    omega (arith, cut-some a.max p.loop-left.o p.loop-left.left p.requires.2)

pub loop-left-preserved : goal.loop-left-preserved
loop-left-preserved c =
    let d = c in
    let p = d in
    let a = p.args in
    let m = p.requires.2 in
    let t = d.loop-left-test.true in (
      omega (arith, ap length (cut-turn a.max p.loop-left.o p.loop-left.left m t)),
      omega arith,
      d.store_row.auto.a ∙ p.loop-left.invariant.2,
      p.loop-left.invariant.3 ∙ store-turn p.loop-left.a p.loop-left.i a.max p.loop-left.o p.loop-left.left m t ∙ cc,
    )

pub store_row-requires-2 : goal.store_row-requires-2
store_row-requires-2 c =
    let p = c in
    let a = p.args in
    omega (arith, cut-some a.max p.loop-left.o p.loop-left.left p.requires.2)

pub returns : goal.returns
returns c =
    let d = c in
    let p = d in
    let a = p.args in
    sym (p.loop-left.invariant.3 ∙ ap (λ (x : List Row). overwrite p.loop-left.a (place p.loop-left.i) (table_bytes x)) (cut-end a.max p.loop-left.o p.loop-left.left d.loop-left-test.false)
    ∙ sym d.store_row-2.ensures)
