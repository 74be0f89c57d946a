-- `area_check::unlisted::none_listed` meets its contract.
use lib.ListN.{length}
use Rattle.area.proofs.removal.Laws.{hashed-by}
use Rattle.area_check.proofs.unlisted.Laws.{unlisted-pass, unlisted-hit, unlisted-end, unlisted-none}
use Prim.Native.Nat.{◌<◌, ◌≤◌}
use native.Mathlib.Omega.{arith}
use mathlib.Core.Path.{refl, sym, ◌∙◌}
use Rattle.area_check.proofs.unlisted.none_listed.Goals as goal

pub returns-then-ys-eq0 : goal.returns-then-ys-eq0
returns-then-ys-eq0 c = sym (unlisted-none _ _ c.if-ys-eq0.true)

pub contains_hashed-requires : goal.contains_hashed-requires
contains_hashed-requires c = hashed-by _ _ _ c.hash.ensures refl

pub returns-then-contains_hashed : goal.returns-then-contains_hashed
returns-then-contains_hashed c = let h : c.loop-x.x-index < length c.args.xs.now = omega arith in sym (c.loop-x.invariant ∙ unlisted-hit _ _ _ h (sym c.contains_hashed.ensures ∙ c.if-contains_hashed.true))

pub loop-x-preserved : goal.loop-x-preserved
loop-x-preserved c = let h : c.loop-x.x-index < length c.args.xs.now = omega arith in c.loop-x.invariant ∙ unlisted-pass _ _ _ h (sym c.contains_hashed.ensures ∙ c.if-contains_hashed.false)

pub returns : goal.returns
returns c = let h : length c.args.xs.now ≤ c.loop-x.x-index = omega arith in sym (c.loop-x.invariant ∙ unlisted-end _ _ _ h)
