-- `fill` meets its contract. Assumes nothing.
use Prim.Native.Nat.{ℕ, ◌+◌, ◌-◌, ◌≤◌}
use mathlib.Core.Path.{◌≡◌, ap, ◌∙◌}
use native.Mathlib.Omega.{arith}
use lib.ListN.{length, take, drop, replicate, length-drop, length-replicate}
use lib.Seq.{length-take-le}
use Rattle.byte_copy.proofs.Moves.{over-put}
use Rattle.byte_copy.proofs.fill.Goals as goal

pub returns : goal.returns
returns c =
    let a = c.args in
    let m = length-replicate a.n a.v in
    let h : a.at + a.n - a.at ≤ length (drop a.at a.s.now) = simp length-drop (omega (arith, c.requires)) in
    let e : length (take (a.at + a.n - a.at) (drop a.at a.s.now)) ≡ a.n = length-take-le _ (drop a.at a.s.now) h ∙ omega arith in
    over-put a.s.now a.at _ c.fill.new.self (replicate a.n a.v) (c.fill.ensures.after (λ y f. f) ∙ ap (λ (k : ℕ). replicate k a.v) e)
    (omega (arith, m)) (omega (arith, m, c.requires))
