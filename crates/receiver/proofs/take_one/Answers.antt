-- `take_one` meets its contract: each way out is a case of the definition.
use Rattle.receiver.specs.Frames.{len_of, head_ok, sum_ok}
use Rattle.receiver.proofs.Steps.{out-slot, out-frame, out-far, taken}
use Rattle.receiver.proofs.Reading.{head-size, head-room, slot-low, slot-high, slot-in, past-window, past-offsets, within}
use Rattle.receiver.specs.declared.Taking.{Taking}
use Rattle.window.specs.Window.{keep_from}
use Rattle.laws.proofs.Picks.{and_first}
use Rattle.laws.specs.Bytes.{part}
use lib.Pow.{pow_mono}
use mathlib.Core.Path.{ap₂, ◌≡◌, sym, ap, ◌∙◌}
use Prim.Native.Nat.{ℕ, ◌+◌, ◌-◌}
use native.Mathlib.Omega.{arith}
use Rattle.receiver.proofs.take_one.Goals as goal

pub returns-then-slot-k : goal.returns-then-slot-k
returns-then-slot-k c =
    let w = c.args.w.now in
    ap (λ (r : Taking). (r, w)) c.left_out.ensures ∙ out-slot c.args.first _ c.args.k w (slot-low _ _ c.if-slot-k.true)

pub returns-then-slot-gt63 : goal.returns-then-slot-gt63
returns-then-slot-gt63 c =
    let w = c.args.w.now in
    ap (λ (r : Taking). (r, w)) c.left_out-then-slot-gt63.ensures ∙ out-slot c.args.first _ c.args.k w (slot-high c.args.k.least _ c.if-slot-gt63.true)

pub offset-off-requires : goal.offset-off-requires
offset-off-requires c =
    let f = c.args.f.now in
    omega (arith, head-size f (and_first (head_ok f) (sum_ok f) (sym c.frame_ok.ensures ∙ c.if-frame_ok.true)))

pub bounds-f-5 : goal.bounds-f-5
bounds-f-5 c =
    let f = c.args.f.now in
    omega (arith, head-size f (and_first (head_ok f) (sum_ok f) (sym c.frame_ok.ensures ∙ c.if-frame_ok.true)))

pub returns-then-first-off : goal.returns-then-first-off
returns-then-first-off c =
    let w = c.args.w.now in
    ap (λ (r : Taking). (r, w)) c.too_far.ensures
    ∙ out-far c.args.first _ c.args.k w (slot-in _ _ c.if-slot-k.false c.if-slot-gt63.false) (sym c.frame_ok.ensures ∙ c.if-frame_ok.true)
    (past-window c.args.first c.args.f.now _ _ c.offset-off.ensures.0 c.from-len.ensures c.if-first-off.true)

pub returns-then-off-len-gt-OFFSETS : goal.returns-then-off-len-gt-OFFSETS
returns-then-off-len-gt-OFFSETS c =
    let w = c.args.w.now in
    ap (λ (r : Taking). (r, w)) c.too_far-then-off-len-gt-OFFSETS.ensures
    ∙ out-far c.args.first _ c.args.k w (slot-in _ _ c.if-slot-k.false c.if-slot-gt63.false) (sym c.frame_ok.ensures ∙ c.if-frame_ok.true)
    (past-offsets c.args.first c.args.f.now _ _ c.offset-off.ensures.0 c.from-len.ensures c.if-off-len-gt-OFFSETS.true)

pub took_slot-requires : goal.took_slot-requires
took_slot-requires c =
    (omega (arith, c.requires.3.small, pow_mono c.if-slot-k.false), omega (arith, c.if-slot-gt63.false))

pub returns-else-off-len-gt-OFFSETS : goal.returns-else-off-len-gt-OFFSETS
returns-else-off-len-gt-OFFSETS c =
    let w = c.args.w.now in
    let f = c.args.f.now in
    let n : 6 + c.from-len.result - 6 ≡ len_of f = omega (arith, c.from-len.ensures) in
    ap (λ (r : Taking). (r, c.keep_from.new.w)) c.took_slot.ensures
    ∙ taken c.args.first (record { slot = c.args.slot; frame = f }) c.args.k w (slot-in _ _ c.if-slot-k.false c.if-slot-gt63.false) (sym c.frame_ok.ensures ∙ c.if-frame_ok.true) _
    (within c.args.first f _ _ c.offset-off.ensures.0 c.from-len.ensures c.if-first-off.false c.if-off-len-gt-OFFSETS.false)
    (c.keep_from.ensures ∙ ap₂ (λ (x k : ℕ). keep_from c.args.first x (part f 6 k) w) c.offset-off.ensures.0 n)

pub returns-else-frame_ok : goal.returns-else-frame_ok
returns-else-frame_ok c =
    let w = c.args.w.now in
    ap (λ (r : Taking). (r, w)) c.left_out-else-frame_ok.ensures ∙ out-frame c.args.first _ c.args.k w (sym c.frame_ok.ensures ∙ c.if-frame_ok.false)

pub slice_bounds-keep_from-end : goal.slice_bounds-keep_from-end
slice_bounds-keep_from-end c =
    let f = c.args.f.now in
    omega (arith, c.from-len.ensures, head-room f (and_first (head_ok f) (sum_ok f) (sym c.frame_ok.ensures ∙ c.if-frame_ok.true)))
