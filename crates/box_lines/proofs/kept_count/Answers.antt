-- `kept_count` meets its contract: the bytes counted so far, and those ahead.
use Prim.Native.Nat.{ℕ, ◌+◌, min}
use Rattle.receiver.specs.Frames.{box_bytes}
use mathlib.Core.Path.{◌≡◌, sym, ap}
use mathlib.Core.List.{List}
use native.Mathlib.Omega.{arith}
use lib.ListN.{length, get_or}
use Rattle.laws.specs.Span.{upto, count}
use Rattle.laws.proofs.Span.{counted-hit, counted-miss, counted-end}
use borrow.Author.Tests.{lt-leb, le-leb}
use Rattle.window.specs.Window.{is_kept}
use Rattle.box_lines.specs.BoxLines.{kept_count}
use Rattle.box_lines.proofs.kept_count.Goals as goal

starts : (w : List ℕ) {end : ℕ} → end ≡ min (length w) box_bytes → kept_count w ≡ 0 + count (λ (j : ℕ). is_kept (get_or w j 0)) (upto 0 end)
unfolding kept_count
starts w e = omega (arith, ap (λ (k : ℕ). count (λ (j : ℕ). is_kept (get_or w j 0)) (upto 0 k)) (sym e))

pub loop-i-init : goal.loop-i-init
loop-i-init c =
    let w = c.args.w.now in
    (starts w c.places_of-end.ensures, omega arith)

pub loop-i-preserved-then-w-i-lt256 : goal.loop-i-preserved-then-w-i-lt256
loop-i-preserved-then-w-i-lt256 c =
    let v = c.loop-i.invariant in
    (counted-miss _ _ _ _ _ v.0 (omega arith) (lt-leb _ _ c.if-w-i-lt256.true), omega (arith, v.1))

pub loop-i-preserved : goal.loop-i-preserved
loop-i-preserved c =
    let v = c.loop-i.invariant in
    (counted-hit _ _ _ _ _ v.0 (omega arith) (le-leb _ _ c.if-w-i-lt256.false), omega (arith, v.1))

pub returns : goal.returns
returns c = sym (counted-end _ _ _ _ _ c.loop-i.invariant.0 (omega arith))
