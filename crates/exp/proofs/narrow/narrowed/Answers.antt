-- `exp::narrow::narrowed` meets its contract: by the sign (`proofs/NarrowPlace.antt`). Assumes nothing.
use Rattle.std.proofs.Common.{◌≡◌, sym, ap, ◌∙◌}
use lib.Ieee.{Float, nan, neg, of_bits, of_int, div}
use lib.Ieee.Compare.{differs_from_itself}
use Rattle.exp.specs.Narrow.{narrow}
use Rattle.ieee.proofs.Tests.{yes, nope}
use Rattle.ieee.proofs.Value.{same-no-nan, neg-above}
use Rattle.exp.proofs.NarrowPlace.{narrow-neg, narrow-zero}
use Rattle.exp.proofs.narrow.narrowed.Goals as goal

pub narrow_above-requires : goal.narrow_above-requires
unfolding of_bits of_int
narrow_above-requires c = yes c.if-x.true

pub returns-then-x : goal.returns-then-x
returns-then-x c = c.narrow_above.ensures

pub narrow_above-requires-then-x-2 : goal.narrow_above-requires-then-x-2
unfolding of_bits of_int
narrow_above-requires-then-x-2 c = neg-above c.args.x (yes c.if-x-2.true)

pub returns-then-x-2 : goal.returns-then-x-2
returns-then-x-2 c = ap neg c.narrow_above-then-x-2.ensures ∙ narrow-neg c.args.x

-- a NaN
at-nan : (x : Float) → x ≡ nan → nan ≡ narrow x
unfolding narrow
at-nan x e = sym (ap narrow e)

pub returns-then-x-3 : goal.returns-then-x-3
unfolding of_bits div
returns-then-x-3 c = at-nan c.args.x (differs_from_itself c.args.x (yes c.if-x-3.true))

pub float_to_float-result : goal.float_to_float-result
unfolding of_bits of_int
float_to_float-result c =
    let s = c in
    (narrow-zero s.args.x (yes s.well_formed.0.1) (nope c.if-x.false) (nope c.if-x-2.false) (same-no-nan s.args.x (nope c.if-x-3.false))).0

pub returns : goal.returns
unfolding of_bits of_int
returns c =
    let s = c in
    (narrow-zero s.args.x (yes s.well_formed.0.1) (nope c.if-x.false) (nope c.if-x-2.false) (same-no-nan s.args.x (nope c.if-x-3.false))).1
