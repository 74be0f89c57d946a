-- A burst: what it answers, and what it leaves (`data_burst` of sender.rs; document 01, module 6): what follows the code or serves proofs; nothing here has to be believed.
use Rattle.std.specs.Prelude.{List, map, ℕ, ◌+◌, ◌-◌, ◌*◌, length}
use Rattle.harq.specs.Held.{start_of}
use Rattle.harq.specs.declared.Harq.{Harq}
use Rattle.frames.specs.declared.slots.Slot.{Slot}
use Rattle.plan.specs.declared.Planned.{Planned}
use Rattle.outgoing.specs.declared.Frames.{Frames}
use Rattle.outgoing.specs.Outgoing.{padded}

-- the same of a burst's slots
unfoldable pub slot_frames : Harq → List Slot → Frames
slot_frames q xs =
    record {
      off = padded (map (λ (x : Slot). x.off) xs);
      len = padded (map (λ (x : Slot). x.len) xs);
      start = padded (map (λ (x : Slot). start_of q (x.held - x.bits)) xs);
      bits = padded (map (λ (x : Slot). x.bits) xs);
      n = length xs;
    }

-- the bits of so many frames: those that are no increments have a slot's bits each
abbrev pub burst_bits : Planned → ℕ → ℕ → ℕ
burst_bits pl slot frames = pl.parity_bits + (frames - pl.parity) * slot
