-- `burst_sent`: as much of the output as there is room for. Assumes nothing.
use mathlib.Core.Path.{ap}
use mathlib.Core.List.{List}
use Prim.Native.Nat.{ℕ}
use native.Mathlib.Omega.{arith}
use lib.ListN.{length, length-take}
use Rattle.box_calls.specs.BoxCalls.{burst_sent}
use Rattle.box_calls.proofs.burst_sent.Goals as goal

pub copy_in-requires : goal.copy_in-requires
copy_in-requires c =
    let a = c.args in
    omega (arith, ap (λ (l : List ℕ). length l) c.least-k.ensures.a_value, length-take (length a.sent.now) a.out.now)

pub returns : goal.returns
unfolding burst_sent
returns c =
    rw (c.copy_in.ensures, c.least-k.ensures.a_value)
