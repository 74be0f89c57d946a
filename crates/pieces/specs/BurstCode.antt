-- The slots of a burst out of the re-cut rows, and where their bytes lie: what follows the code or serves proofs; nothing here has to be believed.
use Rattle.std.specs.Prelude.{◌≡◌, List, [], ◌∷◌, ◌++◌, true, cond, ℕ, ◌-◌, length, take}
use Rattle.harq.specs.declared.Harq.{Harq}
use Rattle.ledger.specs.Ledger.{Plan}
use Rattle.area.specs.declared.table.Row.{Row}
use Rattle.area.specs.Table.{total}
use Rattle.area.specs.Find.{find_from}
use Rattle.area.specs.Recut.{split_rows, merge_rows}
use Rattle.frames.specs.Slots.{unheld_slots, chunk_rows, increment_slots}
use Rattle.frames.specs.declared.slots.Slot.{Slot}

-- "Splitting comes before merging; merging passes over held pieces": the rows re-cut, where the burst keeps the held offsets os
abbrev pub recut_rows : Plan → List ℕ → List Row → List Row
recut_rows g os rs = cond g.merging (merge_rows os g.payload (split_rows g.payload rs)) (split_rows g.payload rs)

module _ (g : Plan) (rs : List Row) (os : List ℕ) where
  -- the oldest pieces that go whole
  abbrev pub old_slots : List Slot
  old_slots = take g.room (unheld_slots os g.slot 0 rs)

  -- the rows of new pieces, of w waiting bytes
  abbrev pub new_rows : ℕ → ℕ → List Row
  new_rows next w = chunk_rows (g.room - length old_slots) g.payload next w

  -- and their slots: the bytes lie behind those of the rows
  abbrev pub new_slots : ℕ → ℕ → List Slot
  new_slots next w = unheld_slots [] g.slot (total rs) (new_rows next w)

  -- "Parity first, then oldest pieces, then new"
  abbrev pub burst_slots : Harq → List ℕ → ℕ → ℕ → List Slot
  burst_slots q hs next w =
      increment_slots q g.slot rs (take g.parity os) (take g.parity hs) ++ (old_slots ++ new_slots next w)

-- each slot has its bytes where the first row with its offset has them
abbrev pub Placed : List Row → List Slot → Type 0
Placed rs [] = Unit {0}
Placed rs (x ∷ xs) = (find_from x.off 0 rs ≡ record { here = true; start = x.start; len = x.len }) × Placed rs xs
