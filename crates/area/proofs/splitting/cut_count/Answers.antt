-- `area::splitting::cut_count` meets its contract.
use Prim.Native.Nat.{◌/◌, ℕ, ◌-◌}
use native.Mathlib.Nat.{div-le_self, zero-div}
use mathlib.Core.Path.{◌≡◌, ap}
use native.Mathlib.Omega.{arith}
use Rattle.area.proofs.splitting.cut_count.Goals as goal

pub returns-then-n-eq0 : goal.returns-then-n-eq0
returns-then-n-eq0 c =
    let n = c.args.n in
    let m = c.args.max in
    let e : n - 1 ≡ 0 = omega arith in
    (omega (arith, ap (λ (x : ℕ). x / m) e, zero-div m), omega arith)

pub overflow_cast-result : goal.overflow_cast-result
overflow_cast-result c = omega (arith, div-le_self (c.args.n - 1) c.args.max)

pub overflow_add-result : goal.overflow_add-result
overflow_add-result c = omega (arith, div-le_self (c.args.n - 1) c.args.max)

pub returns : goal.returns
returns c = omega (arith, div-le_self (c.args.n - 1) c.args.max)
