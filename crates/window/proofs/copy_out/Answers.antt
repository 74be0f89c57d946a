-- `copy_out` meets its contract: the places passed are all kept, and their bytes are in the output.
use borrow.Author.Tests.{lt-leb, le-leb}
use Rattle.window.proofs.Turns.{lead-more, lead-stop, lead-end, copy_more, copied}
use Rattle.window.specs.Window.{lead}
use Rattle.laws.proofs.Bytes.{over-nil}
use lib.ListN.{length}
use mathlib.Core.Path.{◌≡◌, sym, ◌∙◌}
use native.Mathlib.Omega.{arith}
use Rattle.window.proofs.copy_out.Goals as goal

pub loop-n-init : goal.loop-n-init
loop-n-init c = (omega arith, sym (over-nil _ _))

pub returns-then-v-lt256 : goal.returns-then-v-lt256
returns-then-v-lt256 c =
    let w = c.args.w.now in
    let e : c.loop-n.n ≡ lead w = omega (arith, c.loop-n.invariant.0, lead-stop w c.loop-n.n c.loop-n-test.true (lt-leb _ _ c.if-v-lt256.true)) in
    (e, c.loop-n.invariant.1 ∙ copied w _ _ e)

pub loop-n-preserved : goal.loop-n-preserved
loop-n-preserved c =
    let w = c.args.w.now in
    let h = c.loop-n-test.true in (
      omega (arith, c.loop-n.invariant.0, lead-more w c.loop-n.n h (le-leb _ _ c.if-v-lt256.false)),
      rw c.loop-n.invariant.1 (copy_more w c.args.out.now c.loop-n.n h),
    )

pub returns : goal.returns
returns c =
    let w = c.args.w.now in
    let e : c.loop-n.n ≡ lead w = omega (arith, c.loop-n.invariant.0, lead-end w c.loop-n.n c.loop-n-test.false) in
    let all : length w ≡ lead w = omega (arith, e) in
    (all, c.loop-n.invariant.1 ∙ copied w _ _ e)
