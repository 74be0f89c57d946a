-- `taken`: what is lent of window and output. Assumes nothing.
use Prim.Native.Nat.{ℕ, ◌≤◌}
use mathlib.Core.Path.{◌≡◌, ap, ◌∙◌}
use native.Mathlib.Omega.{arith}
use lib.ListN.{length, take, drop}
use Rattle.box_calls.specs.BoxCalls.{taken_said}
use Rattle.box_calls.proofs.Laws.{lent-said}
use Rattle.box_calls.proofs.Parts.{drop-as, take_least}
use Rattle.box_calls.proofs.taken.Goals as goal

pub returns : goal.returns
unfolding taken_said
returns c =
    let a = c.args in
    let w = a.w.now in
    let places = c.min-places.result in
    let few : places ≤ length w = omega arith in
    let same : take places w ≡ take a.b.lent w = ap (λ (k : ℕ). take k w) c.min-places.ensures ∙ take_least a.b.lent w in
    let rest = drop-as w places a.b.lent few same in
    rw (← c.least-room.ensures.a_value, ← same, ← rest) (lent-said (drop places w) c.take_in.ensures)
