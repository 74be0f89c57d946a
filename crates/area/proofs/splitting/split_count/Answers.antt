-- `area::splitting::split_count` meets its contract.
use Rattle.area.proofs.splitting.Laws.{split-count-turn}
use Prim.Native.Nat.{ℕ, ◌-◌}
use Rattle.area.specs.Table.{rows_from}
use Rattle.area.specs.Recut.{split_rows}
use mathlib.Core.Path.{◌≡◌, ap}
use native.Mathlib.Omega.{arith}
use lib.ListN.{length}
use Rattle.area.proofs.splitting.split_count.Goals as goal

pub loop-i-preserved : goal.loop-i-preserved
loop-i-preserved c =
    let p = c in
    let a = p.args in
    omega (arith, split-count-turn a.max a.a.now p.loop-i.i a.n c.load_row-r.result p.requires.2 (omega arith) c.load_row-r.ensures)

pub returns : goal.returns
unfolding split_rows
returns c =
    let p = c in
    let a = p.args in
    let e : a.n - p.loop-i.i ≡ 0 = omega arith in
    omega (arith, ap (λ (k : ℕ). length (split_rows a.max (rows_from a.a.now p.loop-i.i k))) e)
