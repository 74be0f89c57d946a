-- `area::removal::contains` meets its contract.
use lib.ListN.{length, drop_of_length-le}
use mathlib.Core.Bool.{Bool, true, false, ◌||◌}
use Rattle.laws.specs.Lists.{listed}
use Rattle.area.proofs.removal.Laws.{listed-turn}
use Prim.Native.Nat.{◌<◌, ◌≤◌}
use mathlib.Core.Path.{◌≡◌, refl, sym, ap, ◌∙◌}
use native.Mathlib.Omega.{arith}
use Rattle.area.proofs.removal.contains.Goals as goal

or_assoc : (x y z : Bool) → (x || (y || z)) ≡ ((x || y) || z)
or_assoc true y z = refl
or_assoc false y z = refl

or-none : (x : Bool) → (x || false) ≡ x
or-none true = refl
or-none false = refl

pub loop-o-preserved : goal.loop-o-preserved
loop-o-preserved c =
    let p = c in
    let h : c.loop-o.o-index < length c.args.offs.now = omega arith in
    (omega arith, p.loop-o.invariant.1 ∙ ap (λ (b : Bool). p.loop-o.found || b) (listed-turn _ _ _ h) ∙ or_assoc p.loop-o.found _ _)

pub returns : goal.returns
returns c =
    let p = c in
    let h : length c.args.offs.now ≤ c.loop-o.o-index = omega arith in
    sym (p.loop-o.invariant.1 ∙ ap (λ (b : Bool). p.loop-o.found || b) (ap (listed p.args.off) (drop_of_length-le _ h)) ∙ or-none p.loop-o.found)
