-- A new entry at the row that `place` finds stands in the order of going.
-- Assumes nothing.
use Prim.Native.Nat.{ℕ, suc, ◌+◌, ◌≤◌}
use mathlib.Core.Path.{◌≡◌, sym, ap, ap₂, ◌∙◌}
use mathlib.Core.Bool.{Bool, true, false, cond, ◌||◌}
use mathlib.Core.List.{List, [], ◌∷◌, ◌++◌, append_assoc}
use native.Mathlib.Omega.{arith}
use lib.ListN.{length, length-append}
use lib.Seq.{take_at, drop_at}
use lib.Dec.{leb}
use Rattle.laws.proofs.Picks.{by, by₂}
use Rattle.ledger.specs.Queue.{first_if_begun, behind}
use Rattle.messages.specs.declared.Messages.{Messages}
use Rattle.messages.specs.declared.Position.{Position}
use Rattle.messages.specs.Messages.{Entry, entries_in, total_left}
use Rattle.messages.specs.MessagesCode.{place_in, insert_row}
use Rattle.messages.specs.SoundCode.{SoundMessages}
use Rattle.messages.proofs.Entries.{length-entries}

-- `insert` of the ledger's queue, on entries
abbrev pub insert_entry : Entry → List Entry → List Entry
insert_entry e [] = e ∷ []
insert_entry e (x ∷ xs) = cond (leb x.class e.class) (x ∷ insert_entry e xs) (e ∷ x ∷ xs)

abbrev pub placed : Entry → Bool → List Entry → List Entry
placed e b es = first_if_begun b es ++ insert_entry e (behind b es)

put-at : (pre es : List Entry) (r : ℕ) (e : Entry) → length pre ≡ r → insert_row r e (pre ++ es) ≡ pre ++ (e ∷ es)
put-at pre es r e h = ap₂ (λ (u v : List Entry). u ++ (e ∷ v)) (take_at pre es r h) (drop_at pre es r h)

-- what `place` finds behind x
abbrev past : Entry → Entry → List Entry → ℕ → ℕ → Position
past e x es r y = place_in e.class (r + 1) (y + x.left) false es

put-past : (e x : Entry) (es pre : List Entry) (k : ℕ) → insert_row k e ((pre ++ (x ∷ [])) ++ es) ≡ (pre ++ (x ∷ [])) ++ insert_entry e es → insert_row k e (pre ++ (x ∷ es)) ≡ pre ++ (x ∷ insert_entry e es)
put-past e x es pre k h = ap (insert_row k e) (sym (append_assoc pre (x ∷ []) es)) ∙ h ∙ append_assoc pre (x ∷ []) (insert_entry e es)

pub row-placed : (e : Entry) (es pre : List Entry) (r y : ℕ) (b : Bool) → length pre ≡ r → insert_row (place_in e.class r y b es).row e (pre ++ es) ≡ pre ++ placed e b es
unfolding place_in
row-placed e [] pre r y true h = put-at pre [] r e h
row-placed e [] pre r y false h = put-at pre [] r e h
row-placed e (x ∷ es) pre r y true h = put-past e x es pre (past e x es r y).row (row-placed e es (pre ++ (x ∷ [])) (r + 1) (y + x.left) false (omega (arith, length-append pre (x ∷ []), h)))
row-placed e (x ∷ es) pre r y false h =
    by₂ (λ (p : Position) (xs : List Entry). insert_row p.row e (pre ++ (x ∷ es)) ≡ pre ++ xs) (leb x.class e.class)
    (λ _. put-past e x es pre (past e x es r y).row (row-placed e es (pre ++ (x ∷ [])) (r + 1) (y + x.left) false (omega (arith, length-append pre (x ∷ []), h))))
    (λ _. put-at pre (x ∷ es) r e h)

-- ---- within the messages

within : (c r y : ℕ) (b : Bool) (es : List Entry) → ((place_in c r y b es).row ≤ r + length es) × ((place_in c r y b es).bytes ≤ y + total_left es)
unfolding place_in total_left
within c r y b [] = (omega arith, omega arith)
within c r y b (e ∷ es) =
    by (λ (p : Position). (p.row ≤ r + suc (length es)) × (p.bytes ≤ y + (e.left + total_left es))) (b || leb e.class c)
    (λ _. let i = within c (r + 1) (y + e.left) false es in (omega (arith, i.0), omega (arith, i.1))) (λ _. (omega arith, omega arith))

pub place-within : (m : Messages) (w c : ℕ) → SoundMessages m w → ((place_in c 0 0 m.begun (entries_in m)).row ≤ m.n) × ((place_in c 0 0 m.begun (entries_in m)).bytes ≤ w)
place-within m w c s = let i = within c 0 0 m.begun (entries_in m) in (omega (arith, i.0, length-entries m 0 m.n), omega (arith, i.1, s.sum))
