-- `float::whole::floor64` meets its contract, by the laws of `proofs/whole/FloorLaws.antt`, one for each way out. Assumes nothing.
use Rattle.std.proofs.Common.{ℕ, ◌+◌, not, T, pos, ap, ◌∙◌, subst, arith}
use lib.Ieee.{binary64, of_int, of_bits, neg, lt}
use Rattle.ieee.specs.Range.{w64}
use Rattle.ieee.proofs.Tests.{yes, nope, in-float}
use Rattle.ieee.proofs.Cut.{cut_below}
use Rattle.float.proofs.whole.FloorLaws.{floor-small, floor-large, floor-large-neg, floor-minus-one, floor-minus-same, floor-zero}
use Rattle.float.proofs.whole.floor64.Goals as goal

pub int_to_float-result : goal.int_to_float-result
unfolding of_int of_bits
int_to_float-result c = in-float binary64 _ (omega (arith, cut_below _ _ c.cut64.ensures (yes c.if-x-2.true)))

pub returns-then-x-2 : goal.returns-then-x-2
unfolding of_int of_bits
returns-then-x-2 c =
    let at = c in
    ap (λ (k : ℕ). of_int binary64 (pos k)) c.cut64.ensures ∙ floor-small at.args.x (yes at.if-x.true) (yes at.if-x-2.true)

pub returns-then-x : goal.returns-then-x
unfolding of_int of_bits
returns-then-x c = floor-large c.args.x (yes c.well_formed.0.1) (yes c.if-x.true) (nope c.if-x-2.false)

pub int_to_float-t : goal.int_to_float-t
unfolding of_int of_bits
int_to_float-t c = in-float binary64 _ (omega (arith, cut_below _ _ c.cut64-t.ensures (yes c.if-y.true)))

pub overflow_add-result : goal.overflow_add-result
unfolding of_int of_bits
overflow_add-result c = omega (arith, cut_below _ _ c.cut64-t.ensures (yes c.if-y.true))

pub int_to_float-result-then-t-y : goal.int_to_float-result-then-t-y
unfolding of_int of_bits
int_to_float-result-then-t-y c = in-float binary64 _ (omega (arith, cut_below _ _ c.cut64-t.ensures (yes c.if-y.true)))

pub returns-then-t-y : goal.returns-then-t-y
unfolding of_int of_bits
returns-then-t-y c =
    let at = c in
    let x = at.args.x in
    let e = c.cut64-t.ensures in
    ap (λ (k : ℕ). neg (of_int binary64 (pos (k + 1)))) e
    ∙ floor-minus-one x (yes at.if-x-3.true) (yes at.if-y.true) (subst (λ (k : ℕ). T (lt (w64 k) (neg x))) e (yes c.if-t-y.true))

pub int_to_float-result-then-y : goal.int_to_float-result-then-y
unfolding of_int of_bits
int_to_float-result-then-y c = in-float binary64 _ (omega (arith, cut_below _ _ c.cut64-t.ensures (yes c.if-y.true)))

pub returns-then-y : goal.returns-then-y
unfolding of_int of_bits
returns-then-y c =
    let at = c in
    let x = at.args.x in
    let e = c.cut64-t.ensures in
    ap (λ (k : ℕ). neg (of_int binary64 (pos k))) e
    ∙ floor-minus-same x (yes at.if-x-3.true) (yes at.if-y.true) (subst (λ (k : ℕ). T (not (lt (w64 k) (neg x)))) e (nope c.if-t-y.false))

pub returns-else-y : goal.returns-else-y
unfolding of_int of_bits
returns-else-y c =
    let s = c in
    floor-large-neg s.args.x (yes s.well_formed.0.1) (yes c.if-x-3.true) (nope c.if-y.false)

pub returns-else-x-3 : goal.returns-else-x-3
unfolding of_int of_bits
returns-else-x-3 c =
    let s = c in
    floor-zero s.args.x (yes s.well_formed.0.1) (nope c.if-x.false) (nope c.if-x-3.false)
