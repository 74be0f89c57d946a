-- `frames_words`: the invariant says what is left to read from frame i on. Assumes nothing.
use mathlib.Core.Path.{refl, sym, ap, ◌∙◌}
use Prim.Native.Nat.{ℕ, ◌+◌, ◌-◌}
use native.Mathlib.Omega.{arith}
use mathlib.Core.List.{List}
use Rattle.call_lines.specs.declared.FrameWords.{FrameWords}
use Rattle.call_lines.specs.CallLines.{frame_words_from}
use Rattle.call_lines.proofs.Frames.{frames-left, frames-over, frames-start, frames-said}
use Rattle.call_lines.proofs.frames_words.Goals as goal

pub loop-i-init : goal.loop-i-init
loop-i-init c =
    let a = c.args in
    let g : FrameWords = record { read = c.whole-count.result; reception = c.no_frames-reception.result; used = 0 } in
    (omega arith, (refl, frames-start a.line.now c.frame_count-n.result (g, a.bytes.now)))

pub frame_words-g-requires : goal.frame_words-g-requires
frame_words-g-requires c = c.loop-i.invariant.0

pub loop-i-preserved : goal.loop-i-preserved
loop-i-preserved c =
    let w = c.frame_words-g in
    let l = c.loop-i in
    let line : List ℕ = c.args.line.now in
    let n : ℕ = c.frame_count-n.result in
    let t = c.loop-i-test.true in (
      w.ensures.used_in_bounds,
      (
        w.auto.bytes ∙ l.invariant.1.0,
        ap (λ (g : FrameWords × List ℕ). frame_words_from line (n - (l.i + 1)) (l.i + 1) g) w.ensures.bytes_after
            ∙ frames-left line n l.i (l.g, l.bytes) (omega arith) ∙ l.invariant.1.1,
      ),
    )

pub shape_of-bytes : goal.shape_of-bytes
shape_of-bytes c = c.loop-i.invariant.1.0

pub returns : goal.returns
returns c =
    let a = c.args in
    let l = c.loop-i in
    let n : ℕ = c.frame_count-n.result in
    frames-said a.line.now a.r a.bytes.now _ _ n _ l.g l.bytes _ c.heard_first-h.ensures
    c.whole-count.ensures c.frame_count-n.ensures c.no_frames-reception.ensures
    (sym (frames-over a.line.now n l.i (l.g, l.bytes) (omega arith)) ∙ l.invariant.1.1) c.done.ensures
