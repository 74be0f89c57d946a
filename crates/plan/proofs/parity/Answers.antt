use mathlib.Core.Bool.{true, false}
use lib.ListN.{length}
use Rattle.plan.proofs.Turns.{parity-none, parity-all, parity-fewer, pop-le}
use mathlib.Core.Path.{sym, ◌∙◌}
use native.Mathlib.Omega.{arith}
use Rattle.plan.proofs.parity.Goals as goal

pub returns-then-not-c : goal.returns-then-not-c
returns-then-not-c c = (sym (parity-none _ _ _ c.if-not-c.true), omega arith)

pub returns-then-not-too_big : goal.returns-then-not-too_big
returns-then-not-too_big c =
    let t = c in
    let m = t in
    let q = parity-all _ _ _ m.if-not-c.false _ m.parity_bits-sum.ensures.0 (sym t.too_big.ensures ∙ c.if-not-too_big.true) in
    (sym q, omega arith)

pub returns-then-c : goal.returns-then-c
returns-then-c c =
    let d = c in
    let t = d in
    let m = t in
    let a = m.args in
    let big = sym t.too_big.ensures ∙ d.if-not-too_big.false in
    let q = parity-fewer a.q a.c a.bits.now m.if-not-c.false _ m.parity_bits-sum.ensures.0 big true d.if-c.true in
    (c.pop.ensures ∙ sym q, omega (arith, c.pop.ensures, pop-le a.q a.c a.bits.now (length a.bits.now)))

pub returns : goal.returns
returns c =
    let t = c in
    let m = t in
    let big = sym t.too_big.ensures ∙ c.if-not-too_big.false in
    let q = parity-fewer _ _ _ m.if-not-c.false _ m.parity_bits-sum.ensures.0 big false c.if-c.false in
    (sym q, omega arith)
