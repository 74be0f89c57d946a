use mathlib.Core.Path.{◌≡◌}
use mathlib.Core.List.{List, map}
use Prim.Native.Nat.{ℕ, ◌-◌}
use Rattle.laws.specs.Bytes.{overwrite}
use Rattle.harq.specs.Held.{start_of}
use Rattle.harq.specs.declared.Harq.{Harq}
use Rattle.frames.specs.Slots.{slots_from}
use Rattle.frames.specs.declared.slots.Slot.{Slot}
use Rattle.frames.specs.declared.slots.Slots.{Slots}
use Rattle.outgoing.proofs.spans.frames_out.Given as goal

-- what is stored before place i, and from there on
abbrev pub Same : (Slot → ℕ) → Slots → List ℕ → ℕ → List ℕ → Type 0
Same f s l₀ i l = overwrite l₀ 0 (map f (slots_from s 0 s.n)) ≡ overwrite l i (map f (slots_from s i (s.n - i)))

abbrev pub off_of : Slot → ℕ
off_of x = x.off

abbrev pub len_of : Slot → ℕ
len_of x = x.len

abbrev pub start-of : Harq → Slot → ℕ
start-of q x = start_of q (x.held - x.bits)

abbrev pub bits_of : Slot → ℕ
bits_of x = x.bits

abbrev pub invariant-loop-i : goal.invariant-loop-i
invariant-loop-i l =
    Same off_of l.s l.initial.off l.i l.off × Same len_of l.s l.initial.len l.i l.len × Same (start-of l.q) l.s l.initial.start l.i l.start × Same bits_of l.s l.initial.bits l.i l.bits
