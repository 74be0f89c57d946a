-- `shift_left` meets its contract. Assumes nothing.
use Prim.Native.Nat.{◌+◌, ◌-◌, ◌≤◌}
use mathlib.Core.Path.{◌≡◌, ap, ◌∙◌}
use native.Mathlib.Omega.{arith}
use lib.ListN.{length, drop, length-drop}
use lib.Seq.{paste}
use Rattle.byte_copy.proofs.Moves.{over-paste}
use Rattle.byte_copy.proofs.shift_left.Goals as goal

pub returns : goal.returns
returns c =
    let a = c.args in
    let e : a.from + a.n - a.from ≡ a.n = omega arith in
    let h : a.n ≤ length (drop a.from a.s.now) = simp length-drop (omega (arith, c.requires)) in
    c.copy_within.ensures.after ∙ ap (paste a.s.now a.to (drop a.from a.s.now)) e ∙ over-paste a.s.now a.to (drop a.from a.s.now) a.n h (omega (arith, c.requires))
