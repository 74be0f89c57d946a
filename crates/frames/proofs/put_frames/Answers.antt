-- `frames::put_frames` meets its contract.
use native.Mathlib.Nat.{add-sub_cancel_left}
use Rattle.laws.specs.Bytes.{overwrite, part}
use Rattle.laws.proofs.Bytes.{over-nil, length_over}
use Rattle.frame.specs.Frame.{frame_of}
use Rattle.frames.specs.Slots.{nth_slot, slots_from}
use Rattle.frames.specs.Frames.{frames_written}
use Rattle.frames.proofs.Laws.{fit-turn, frames-long, frames-turn}
use Prim.Native.Nat.{ℕ, ◌-◌, ◌<◌}
use mathlib.Core.Path.{◌≡◌, sym, ap, ◌∙◌}
use native.Mathlib.Omega.{arith}
use lib.ListN.{length}
use Rattle.frames.proofs.put_frames.Goals as goal

pub encode-requires : goal.encode-requires
encode-requires c = let h : c.loop-i.i < c.args.s.n = omega arith in (
  c.requires.0,
  omega (arith, frames-long c.args.size c.args.a.now c.args.s _ _ c.requires.2 h c.loop-i.invariant.3),
  c.requires.2,
  omega (arith, fit-turn c.args.size c.args.a.now c.args.s _ _ c.requires.2 h c.loop-i.invariant.3),
)

pub overflow_add-at : goal.overflow_add-at
overflow_add-at c = let h : c.loop-i.i < c.args.s.n = omega arith in omega (arith, frames-long c.args.size c.args.a.now c.args.s _ _ c.requires.2 h c.loop-i.invariant.3)

pub loop-i-preserved : goal.loop-i-preserved
loop-i-preserved c =
    let h : c.loop-i.i < c.args.s.n = omega arith in
    let g = c.args in
    let x = nth_slot g.s c.loop-i.i in
    let v = c.encode.ensures
    ∙ ap (λ (k : ℕ). overwrite c.loop-i.out c.loop-i.at (frame_of g.size x.off (part g.a.now x.start k)))
    (add-sub_cancel_left x.start x.len) in (
      omega arith,
      ap length v ∙ length_over c.loop-i.out c.loop-i.at _ ∙ c.loop-i.invariant.1,
      omega (arith, frames-long c.args.size c.args.a.now c.args.s _ _ c.requires.2 h c.loop-i.invariant.3),
      (fit-turn c.args.size c.args.a.now c.args.s _ _ c.requires.2 h c.loop-i.invariant.3).2,
      rw v
          (c.loop-i.invariant.4
          ∙ frames-turn g.size g.a.now g.s c.loop-i.i g.s.n c.requires.2 h c.loop-i.invariant.3 c.loop-i.out c.loop-i.at),
    )

pub returns : goal.returns
unfolding frames_written
returns c =
    let g = c.args in
    let z : g.s.n - c.loop-i.i ≡ 0 = omega arith in
    sym (c.loop-i.invariant.4 ∙ ap (λ (k : ℕ). overwrite c.loop-i.out c.loop-i.at (frames_written g.size (slots_from g.s c.loop-i.i k) g.a.now)) z ∙ over-nil _ _)
