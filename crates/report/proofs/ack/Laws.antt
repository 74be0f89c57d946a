-- Numbers within a long ack.
-- Assumes nothing.
use mathlib.Core.Path.{◌≡◌, ap}
use mathlib.Core.List.{List}
use Prim.Native.Nat.{ℕ, ◌+◌, ◌*◌, ◌/◌, ◌≤◌}
use native.Mathlib.Omega.{arith}
use lib.ListN.{length, get_or}
use Rattle.laws.specs.Bytes.{part, Bytes}
use Rattle.laws.proofs.Bytes.{part-cons}
use Rattle.laws.specs.Little.{num, load}

-- the three bytes after the first of four
pub upper : (l : List ℕ) (at : ℕ) → Bytes l → at + 4 ≤ length l → load l at / 256 ≡ num (part l (at + 1) 3)
unfolding load num
upper l at b h =
    let e : num (part l at 4) ≡ get_or l at 0 + 256 * num (part l (at + 1) 3) = ap num (part-cons l at 3 (omega arith)) in
    omega (arith, e, b at)
