-- `frame::crc::rest` meets its contract: the register after the bytes. The loop's invariant: what is left to feed in gives the same.
use mathlib.Core.Path.{refl, sym, ap, ◌∙◌}
use Prim.Native.Nat.{ℕ, ◌+◌, ◌≤◌}
use native.Mathlib.Omega.{arith}
use lib.ListN.{length, drop, drop_of_length-le}
use Rattle.frame.specs.Crc.{feed_bytes}
use Rattle.frame.proofs.crc.Laws.{feed-one}
use Rattle.frame.proofs.crc.rest.Goals as goal

pub loop-b-init : goal.loop-b-init
loop-b-init c = refl

pub one-c-requires : goal.one-c-requires
one-c-requires c = c.requires

pub loop-b-preserved : goal.loop-b-preserved
loop-b-preserved c =
    let l = c.args.bytes.now in
    let p = c.loop-b in
    p.invariant ∙ feed-one p.c l p.b-index (omega arith) ∙ ap (λ (x : ℕ). feed_bytes x (drop (p.b-index + 1) l)) (sym c.one-c.ensures)

pub returns : goal.returns
unfolding feed_bytes
returns c =
    let h : length c.args.bytes.now ≤ c.loop-b.b-index = omega arith in
    sym (c.loop-b.invariant ∙ ap (feed_bytes c.loop-b.c) (drop_of_length-le _ h))
