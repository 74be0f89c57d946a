-- `frame::crc::crc32_by` meets its contract. The loop's invariant: the bytes that are left, fed into the register, give what all bytes
use mathlib.Core.Path.{◌≡◌, refl, sym, ap, ◌∙◌}
use Prim.Native.Nat.{ℕ, ◌+◌, ◌*◌, ◌-◌, ◌/◌, ◌≤◌}
use native.Mathlib.Omega.{arith}
use lib.Bits.{bit_xor}
use lib.ListN.{length, drop, length-drop}
use lib.Seq.{take_all}
use Rattle.frame.specs.Crc.{shifts, feed_bytes, crc32}
use Rattle.frame.proofs.crc.Laws.{feed-eight}
use Rattle.frame.proofs.crc.Rule.{v42}
use Rattle.frame.proofs.crc.crc32_by.Goals as goal

pub loop-i-init : goal.loop-i-init
loop-i-init c = refl

pub eight-c-requires : goal.eight-c-requires
eight-c-requires c = c.requires

pub loop-i-preserved : goal.loop-i-preserved
loop-i-preserved c =
    let l = c.args.bytes.now in
    let p = c.loop-i in
    let h : 8 * p.i + 8 ≤ length l = omega arith in
    let e : 8 * p.i + 8 ≡ 8 * (p.i + 1) = omega arith in
    p.invariant ∙ feed-eight p.c l (8 * p.i) (λ i. (c.type_inv.bytes i).fits) h
    ∙ ap (λ (x : ℕ). feed_bytes x (drop (8 * p.i + 8) l)) (ap (λ (x : ℕ). shifts 64 (bit_xor p.c x)) (sym c.load.ensures) ∙ sym c.eight-c.ensures)
    ∙ ap (λ (k : ℕ). feed_bytes c.eight-c.result (drop k l)) e

pub rest-requires : goal.rest-requires
rest-requires c = c.requires

pub returns : goal.returns
unfolding crc32
returns c =
    let l = c.args.bytes.now in
    let e : length l / 8 ≡ c.loop-i.i = omega arith in
    let k = 8 * (length l / 8) in
    let n : length (drop k l) ≤ length l - k = simp length-drop (omega arith) in
    ap (λ (x : ℕ). 4294967295 - x) (c.rest.ensures ∙ ap (feed_bytes c.loop-i.c) (take_all (length l - k) (drop k l) n) ∙ ap (λ (k : ℕ). feed_bytes c.loop-i.c (drop (8 * k) l)) e ∙ sym c.loop-i.invariant)
    ∙ v42 l (λ i. (c.type_inv.bytes i).fits)
