-- The frames of a burst as a list, arrays with a count that hold it, and where each frame's bytes lie (`data_burst` of sender.rs). Follows the code or serves proofs: nothing here has to be believed.
use Rattle.std.specs.Prelude.{List, [], ◌∷◌, cond, ℕ, zero, suc, ◌+◌, ◌-◌, min, length, get_or, set, replicate}
use Rattle.laws.specs.Lists.{listed}
use Rattle.harq.specs.Held.{increment_of}
use Rattle.harq.specs.declared.Harq.{Harq}
use Rattle.area.specs.Table.{total}
use Rattle.area.specs.declared.table.Row.{Row}
use Rattle.area.specs.Find.{find_from}
use Rattle.area.specs.declared.lookup.Found.{Found}
use Rattle.frames.specs.declared.slots.Slot.{Slot}
use Rattle.frames.specs.declared.slots.Slots.{Slots}
use Rattle.frames.specs.declared.slots.Added.{Added}
use Rattle.limits.specs.Limits.{max_slots}
use Rattle.area.specs.TableCode.{with_rows}

-- ---- arrays with a count

-- `slots.push(x)`
unfoldable pub slot_pushed : Slots → Slot → Slots
slot_pushed s x = record {
  off = set s.off s.n x.off;
  bits = set s.bits s.n x.bits;
  held = set s.held s.n x.held;
  start = set s.start s.n x.start;
  len = set s.len s.n x.len;
  n = s.n + 1;
}

-- pushed one after the other
unfoldable pub push_all : Slots → List Slot → Slots
push_all s [] = s
push_all s (x ∷ xs) = push_all (slot_pushed s x) xs

-- no slot
abbrev pub no_slots : Slots
no_slots = record { off = replicate max_slots 0; bits = replicate max_slots 0; held = replicate max_slots 0; start = replicate max_slots 0; len = replicate max_slots 0; n = 0 }

abbrev pub nth_slot : Slots → ℕ → Slot
nth_slot s i = record { off = get_or s.off i 0; bits = get_or s.bits i 0; held = get_or s.held i 0; start = get_or s.start i 0; len = get_or s.len i 0 }

-- k slots from place i on
abbrev pub slots_from : Slots → ℕ → ℕ → List Slot
slots_from s i zero = []
slots_from s i (suc k) = nth_slot s i ∷ slots_from s (i + 1) k

-- ---- whole pieces

-- a slot of a whole piece of b bits: `(off, slot, 0, slot)`
abbrev pub whole_slot : ℕ → ℕ → Row → Slot
whole_slot b at r = record { off = r.off; bits = b; held = b; start = at; len = r.len }

-- the rows that are not held; the first row's bytes lie at `at`
unfoldable pub unheld_slots : List ℕ → ℕ → ℕ → List Row → List Slot
unheld_slots held b at [] = []
unheld_slots held b at (r ∷ rs) = cond (listed r.off held) (unheld_slots held b (at + r.len) rs) (whole_slot b at r ∷ unheld_slots held b (at + r.len) rs)

-- at most k new rows of at most m bytes, from offset o and w waiting bytes: the loop `while pieces.len() < room`
unfoldable pub chunk_rows : ℕ → ℕ → ℕ → ℕ → List Row
chunk_rows zero m o w = []
chunk_rows (suc k) m o zero = []
chunk_rows (suc k) m o (suc w) = record { off = o; len = min m (suc w) } ∷ chunk_rows k m (o + min m (suc w)) (suc w - min m (suc w))

-- new rows behind the first n, of the w waiting bytes that lie from `at` on: the slots with them, how many rows there are and how many bytes went, and the work area
unfoldable pub added_pieces : List ℕ → ℕ → ℕ → ℕ → ℕ → ℕ → ℕ → ℕ → Slots → Added × List ℕ
added_pieces a n room max next at w bits s = (
  record {
    slots = push_all s (unheld_slots [] bits at (chunk_rows room max next w));
    rows = n + length (chunk_rows room max next w);
    bytes = total (chunk_rows room max next w);
  },
  with_rows a n (chunk_rows room max next w),
)

-- ---- increments: each piece is looked for by its offset

-- a slot of parity: `(off, h + bits, from, bits)`
abbrev pub increment_slot : Harq → ℕ → ℕ → ℕ → Found → Slot
increment_slot q slot o h p = record { off = o; bits = increment_of q h slot; held = h + increment_of q h slot; start = p.start; len = p.len }

unfoldable pub increment_slots : Harq → ℕ → List Row → List ℕ → List ℕ → List Slot
increment_slots q slot rs [] hs = []
increment_slots q slot rs (o ∷ os) [] = []
increment_slots q slot rs (o ∷ os) (h ∷ hs) = increment_slot q slot o h (find_from o 0 rs) ∷ increment_slots q slot rs os hs
