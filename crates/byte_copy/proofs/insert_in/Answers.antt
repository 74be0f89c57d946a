-- `insert_in` meets its contract: the bytes that move up and those that are put in before them are one run. Assumes nothing.
use Prim.Native.Nat.{ℕ, ◌+◌, ◌-◌, ◌≤◌}
use mathlib.Core.Path.{ap, ◌∙◌}
use mathlib.Core.List.{List}
use native.Mathlib.Omega.{arith}
use lib.ListN.{length, drop, length-drop}
use Rattle.laws.specs.Bytes.{overwrite, part}
use Rattle.laws.proofs.Bytes.{over-front}
use Rattle.byte_copy.proofs.Moves.{over-paste}
use Rattle.byte_copy.proofs.insert_in.Goals as goal

pub returns : goal.returns
returns c =
    let a = c.args in
    let n = a.end - a.at in
    let h : n ≤ length (drop a.at a.dst.now) = simp length-drop (omega (arith, c.requires)) in
    c.copy_in.ensures
    ∙ ap (λ (l : List ℕ). overwrite l a.at a.src.now)
    (c.copy_within.ensures.after ∙ over-paste a.dst.now (a.at + length a.src.now) (drop a.at a.dst.now) n h (omega (arith, c.requires)))
    ∙ over-front a.dst.now a.at a.src.now (part a.dst.now a.at n)
