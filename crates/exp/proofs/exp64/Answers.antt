-- `exp::exp64` meets its contract: each way out is a case of `E` (`proofs/ExpLaws.antt`). Assumes nothing.
use lib.Ieee.{Float, binary64, mul, to_signed, is_nan}
use Rattle.std.proofs.Common.{◌≡◌, ap, ◌∙◌, w64 as W64, to_z, of_z}
use mir.ValLaws.{to_z-of_z}
use Rattle.ieee.specs.Range.{w64}
use Rattle.exp.specs.Exp.{horner, reduced, shifted}
use Rattle.ieee.specs.Power.{power}
use Rattle.ieee.proofs.Value.{same-no-nan, not-lt→le}
use lib.Ieee.{of_int, of_bits, neg, div}
use lib.Ieee.Compare.{differs_from_itself}
use Rattle.ieee.proofs.Tests.{yes, nope}
use Rattle.exp.proofs.ExpLaws.{E-low, E-high, E-within, E-nan}
use Rattle.exp.proofs.exp64.Goals as goal

pub returns-then-x : goal.returns-then-x
unfolding of_int of_bits neg
returns-then-x c = E-low c.args.x (yes c.if-x.true)

pub returns-then-x-2 : goal.returns-then-x-2
unfolding of_int of_bits neg
returns-then-x-2 c = (unfold div in E-high c.args.x (nope c.if-x.false) (yes c.if-x-2.true))

pub returns-then-x-3 : goal.returns-then-x-3
returns-then-x-3 c = E-nan c.args.x (differs_from_itself c.args.x (yes c.if-x-3.true))

pub whole_shift-k-requires : goal.whole_shift-k-requires
unfolding of_int of_bits neg
whole_shift-k-requires c =
    let x = c.args.x in
    let n = same-no-nan x (nope c.if-x-3.false) in
    record {
      low = not-lt→le x (neg (w64 708)) n (unfold is_nan in tt) (nope c.if-x.false);
      high = not-lt→le (w64 709) x (unfold is_nan in tt) n (nope c.if-x-2.false);
    }

pub returns : goal.returns
unfolding of_int of_bits neg
returns c =
    let at = c in
    let s = at in
    let x = s.args.x in
    let k = at.whole_shift-k.result in
    let back : to_z W64 (of_z W64 k) ≡ to_signed 63 (shifted x) = to_z-of_z W64 k (record { sfits = at.whole_shift-k.type_inv }) ∙ at.whole_shift-k.ensures.0 in
    let kf = c.nearest_i64_to_f64.ensures ∙ ap (of_int binary64) back in
    let r = c.reduce.ensures ∙ ap (reduced x) kf in
    let p = c.taylor.ensures ∙ ap horner r in
    let q = c.power_of_two.ensures ∙ ap power back in
    ap (λ (z : Float). mul binary64 z c.power_of_two.result) p
    ∙ ap (mul binary64 (horner (reduced x (of_int binary64 (to_signed 63 (shifted x)))))) q
    ∙ E-within x (nope at.if-x.false) (nope at.if-x-2.false)
