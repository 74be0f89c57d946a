-- `area_check::flying::flies_near` meets its contract.
use Rattle.area_check.proofs.flying.Laws.{found_here}
use Prim.Native.Nat.{◌-◌, ◌<◌}
use native.Mathlib.Omega.{arith}
use Rattle.area_check.proofs.flying.flies_near.Goals as goal

pub returns-then-r-off : goal.returns-then-r-off
returns-then-r-off c =
    let i : c.args.n - 1 - c.args.behind < c.args.n = omega (arith, c.if-behind-n.true) in
    found_here _ _ _ _ _ i c.load_row-r.ensures c.if-r-off.true
