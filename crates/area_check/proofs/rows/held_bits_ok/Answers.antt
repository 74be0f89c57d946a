-- `area_check::rows::held_bits_ok` meets its contract.
use Prim.Native.Nat.{ℕ}
use mathlib.Core.Bool.{Bool, true, false, ◌&&◌}
use mathlib.Core.List.{List, [], ◌∷◌}
use mathlib.Core.Path.{◌≡◌, refl, ap, ◌∙◌}
use lib.Dec.{ltb}
use Rattle.std.proofs.Common.{rules, tests}
use Rattle.std.specs.List.{list_all}
use Rattle.std.proofs.lemmas.Iterator.{YieldsList-from_slice}
use Rattle.std.proofs.lemmas.Iterator.Search.{all_from_yields_List}
use Rattle.area_check.specs.Rows.{held_bits_ok}
use Rattle.area_check.proofs.rows.held_bits_ok.Goals as goal

and_assoc : (x y z : Bool) → ((x && y) && z) ≡ (x && (y && z))
and_assoc true y z = refl
and_assoc false y z = refl

each : (top : ℕ) (bs : List ℕ) → list_all (λ b. ltb 0 b && ltb b top) bs ≡ held_bits_ok top bs
unfolding held_bits_ok
each top [] = refl
each top (b ∷ bs) = ap (λ (r : Bool). (ltb 0 b && ltb b top) && r) (each top bs) ∙ and_assoc (ltb 0 b) (ltb b top) (held_bits_ok top bs)

pub returns : goal.returns
returns c =
    let bs = c.args.bits.now in
    all_from_yields_List (λ b. ltb 0 b && ltb b c.args.top) _ _ _ c.all.ensures.ran (YieldsList-from_slice bs cc) (λ x b q k. search (rules, tests)) ∙ each c.args.top bs
