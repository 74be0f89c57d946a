-- `float::whole::ceil_to_u64` meets its contract, by the laws of `proofs/whole/FloorLaws.antt`, one for each way out. Assumes nothing.
use Rattle.std.proofs.Common.{ℕ, ◌+◌, not, T, ap, ◌∙◌, subst, arith}
use lib.Ieee.{binary64, of_int, of_bits, lt}
use Rattle.ieee.specs.Range.{w64}
use Rattle.ieee.proofs.Tests.{yes, nope, in-float}
use Rattle.ieee.proofs.Cut.{cut_below}
use Rattle.float.proofs.whole.FloorLaws.{ceil-plus-one, ceil-whole, ceil-large}
use Rattle.float.proofs.whole.ceil_to_u64.Goals as goal

pub int_to_float-t : goal.int_to_float-t
unfolding of_int of_bits
int_to_float-t c = in-float binary64 _ (omega (arith, cut_below _ _ c.cut64-t.ensures (yes c.if-x.true)))

pub overflow_add-result : goal.overflow_add-result
unfolding of_int of_bits
overflow_add-result c = omega (arith, cut_below _ _ c.cut64-t.ensures (yes c.if-x.true))

pub returns-then-t-x : goal.returns-then-t-x
unfolding of_int of_bits
returns-then-t-x c =
    let at = c in
    let x = at.args.x in
    let e = at.cut64-t.ensures in
    ap (λ (k : ℕ). k + 1) e ∙ ceil-plus-one x (yes at.if-x.true) (subst (λ (k : ℕ). T (lt (w64 k) x)) e (yes c.if-t-x.true))

pub returns-then-x : goal.returns-then-x
unfolding of_int of_bits
returns-then-x c =
    let at = c in
    let x = at.args.x in
    let e = at.cut64-t.ensures in
    e ∙ ceil-whole x (yes at.if-x.true) (subst (λ (k : ℕ). T (not (lt (w64 k) x))) e (nope c.if-t-x.false))

pub returns : goal.returns
unfolding of_int of_bits
returns c =
    let s = c in
    c.cut64-t.ensures ∙ ceil-large s.args.x (yes s.well_formed.0.1) (nope c.if-x.false)
