-- `exp::narrow::narrow_above` meets its contract: what `rounded` ensures, by the test on its result. Assumes nothing.
use Rattle.std.proofs.Common.{◌≡◌, Bool, true, false, cond, not, T, pos, sym, ap, ◌∙◌, subst}
use lib.Ieee.{Float, fin, inf, binary32, lt, fits, is_nan, of_bits, div}
use lib.Ieee.Fits.{and_i}
use Rattle.exp.specs.Narrow.{narrow}
use Rattle.ieee.proofs.Tests.{yes, nope}
use Rattle.ieee.proofs.Value.{le-no-nan, lt→le}
use Rattle.exp.proofs.NarrowPlace.{narrow-fits, narrow-huge}
use Rattle.exp.proofs.narrow.narrow_above.Goals as goal

pub rounded-y-requires : goal.rounded-y-requires
unfolding of_bits
rounded-y-requires c = record {
  fact_1 = c.requires;
  fact_2 = yes c.if-a.true;
}

-- the result of `rounded`, below 2 ^ 128, is `narrow a`
same : (a y : Float) → narrow a ≡ cond (lt y (fin false 1 (pos 128))) y (inf false) → lt y (fin false 1 (pos 128)) ≡ true → y ≡ narrow a
same a y h t = sym (h ∙ ap (λ (b : Bool). cond b y (inf false)) t)

pub float_to_float-result : goal.float_to_float-result
unfolding of_bits
float_to_float-result c =
    let y = c.rounded-y.result in
    let a = c.args.a in
    let t = c.if-y.true in
    and_i (fits binary32 y) (not (is_nan y)) (subst (λ (z : Float). T (fits binary32 z)) (sym (same a y c.rounded-y.ensures t)) (narrow-fits a))
    (le-no-nan y (fin false 1 (pos 128)) (lt→le y (fin false 1 (pos 128)) (yes t))).0

pub returns-then-y : goal.returns-then-y
unfolding of_bits
returns-then-y c = same c.args.a c.rounded-y.result c.rounded-y.ensures c.if-y.true

pub returns-then-a : goal.returns-then-a
unfolding of_bits div
returns-then-a c =
    let y = c.rounded-y.result in
    sym (c.rounded-y.ensures ∙ ap (λ (b : Bool). cond b y (inf false)) c.if-y.false)

pub returns : goal.returns
unfolding of_bits div
returns c = narrow-huge c.args.a c.requires (nope c.if-a.false)
