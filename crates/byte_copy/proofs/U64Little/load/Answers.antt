-- Eight bytes are the number that they spell. Assumes nothing.
use Prim.Native.Nat.{◌+◌}
use native.Mathlib.Nat.{add_assoc}
use native.Mathlib.Omega.{arith}
use Rattle.laws.proofs.Little.{load4, load8}
use Rattle.byte_copy.proofs.U64Little.load.Goals as goal

pub returns : goal.returns
returns c =
    let l = c.args.a.now in
    let at = c.args.at in
    let low = load4 l at (omega (arith, c.requires)) in
    let high = rw (add_assoc at 4 1, add_assoc at 4 2, add_assoc at 4 3) at (load4 l (at + 4) (omega (arith, c.requires))) in
    omega (arith, c.from_le_bytes.ensures, load8 l at c.requires, low, high)
