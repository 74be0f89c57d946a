-- `settle::outcome::tally` meets its contract.
use mathlib.Core.Path.{refl, sym, ap, ◌∙◌}
use Prim.Native.Nat.{ℕ, ◌+◌, ◌/◌, ◌%◌}
use mathlib.Core.Bool.{◌&&◌}
use native.Mathlib.Omega.{arith}
use lib.Dec.{eqb}
use lib.ListN.{drop, get_or}
use Rattle.settle.specs.declared.outcome.Came.{Came}
use Rattle.settle.proofs.outcome.Counts.{tally-turn, tally-end, byte-one, one-few, counted_is}
use Rattle.settle.specs.OutcomesCode.{tallied_from}
use Rattle.settle.proofs.outcome.tally.Goals as goal

pub loop-i-init : goal.loop-i-init
loop-i-init c = (omega arith, omega arith, omega arith, refl)

pub loop-i-preserved : goal.loop-i-preserved
loop-i-preserved c =
    let bs = c.args.bits.now in
    let hs = c.args.held.now in
    let i = c.loop-i.i in
    let t = c.loop-i.t in
    let v = c.loop-i.invariant in
    let fresh = eqb (get_or bs i 0) (get_or hs i 0) in
    let got = eqb (c.loop-i.b % 2) 1 in
    let e₁ = ap (λ (k : ℕ). t.fresh + k) (c.from.ensures ∙ byte-one fresh) in
    let e₂ = ap (λ (k : ℕ). t.fresh_got + k) (c.from-in-loop-i.ensures ∙ byte-one (fresh && got)) in
    let e₃ = ap (λ (k : ℕ). t.got + k) (c.from-in-loop-i-2.ensures ∙ byte-one got) in (
      omega (arith, e₁, one-few fresh, v.0),
      omega (arith, e₂, one-few (fresh && got), v.1),
      omega (arith, e₃, one-few got, v.2),
      v.3 ∙ tally-turn t c.loop-i.b bs hs i c.loop-i-test.true (omega (arith, c.loop-i-test.true, c.requires.1))
          ∙ ap (λ (x : Came). tallied_from x (c.loop-i.b / 2) (drop (i + 1) bs) (drop (i + 1) hs)) (counted_is t fresh got _ _ _ e₁ e₂ e₃),
    )

pub returns : goal.returns
returns c =
    sym (c.loop-i.invariant.3 ∙ tally-end c.loop-i.t c.loop-i.b c.args.bits.now c.args.held.now c.loop-i.i c.loop-i-test.false)
