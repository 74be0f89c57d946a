-- `outgoing::spans::frames_out` meets its contract.
use mathlib.Core.Path.{refl, sym, ◌∙◌}
use native.Mathlib.Nat.{sub-zero}
use Rattle.outgoing.proofs.Laws.{slots_length}
use Rattle.outgoing.proofs.spans.Laws.{stored-turn, stored-end}
use Rattle.outgoing.specs.OutgoingCode.{slot_frames}
use Rattle.outgoing.proofs.spans.frames_out.Invariants.{bits_of, len_of, off_of, start-of}
use Rattle.outgoing.proofs.spans.frames_out.Goals as goal

pub loop-i-init : goal.loop-i-init
loop-i-init c = (rw sub-zero refl, rw sub-zero refl, rw sub-zero refl, rw sub-zero refl)

pub overflow_sub-before : goal.overflow_sub-before
overflow_sub-before c = let d = c in d.requires.2 d.loop-i.i d.loop-i-test.true

pub loop-i-preserved : goal.loop-i-preserved
loop-i-preserved c =
    let d = c in
    let p = d in
    let s = p.args.s in
    let h = d.loop-i-test.true in
    let i = p.loop-i.i in (
      p.loop-i.invariant.0 ∙ stored-turn off_of s s.n i p.loop-i.off _ h refl,
      p.loop-i.invariant.1 ∙ stored-turn len_of s s.n i p.loop-i.len _ h refl,
      p.loop-i.invariant.2 ∙ stored-turn (start-of p.args.q) s s.n i p.loop-i.start _ h c.start.ensures,
      p.loop-i.invariant.3 ∙ stored-turn bits_of s s.n i p.loop-i.bits _ h refl,
    )

pub returns : goal.returns
unfolding slot_frames
returns c =
    let p = c in
    let s = p.args.s in
    let h = c.loop-i-test.false in
    let i = p.loop-i.i in
    let o = sym (p.loop-i.invariant.0 ∙ stored-end off_of s s.n i p.loop-i.off h) in
    let l = sym (p.loop-i.invariant.1 ∙ stored-end len_of s s.n i p.loop-i.len h) in
    let f = sym (p.loop-i.invariant.2 ∙ stored-end (start-of p.args.q) s s.n i p.loop-i.start h) in
    let b = sym (p.loop-i.invariant.3 ∙ stored-end bits_of s s.n i p.loop-i.bits h) in
    let n = sym (slots_length s 0 s.n) in
    λ j. record { off = o j; len = l j; start = f j; bits = b j; n = n j }
