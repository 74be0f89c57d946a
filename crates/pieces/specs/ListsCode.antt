-- Lists side by side, and a burst's slots, as the ledger's entries: what follows the code or serves proofs; nothing here has to be believed.
use Rattle.std.specs.Prelude.{List, [], ◌∷◌, map, Bool, cond, ℕ, suc}
use Rattle.ledger.specs.Ledger.{Sent}
use Rattle.frames.specs.declared.slots.Slot.{Slot}

-- what the outstanding burst keeps of its slots
abbrev pub sent_slots : List Slot → List Sent
sent_slots xs = map (λ (x : Slot). record { off = x.off; bits = x.bits; held = x.held }) xs

-- the offsets of the frames whose bit is set, the first frame at place i
abbrev pub acked_offs : (ℕ → Bool) → ℕ → List Sent → List ℕ
acked_offs b i [] = []
acked_offs b i (f ∷ fs) = cond (b i) (f.off ∷ acked_offs b (suc i) fs) (acked_offs b (suc i) fs)
