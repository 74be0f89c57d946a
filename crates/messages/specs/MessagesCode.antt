-- The code's steps over the messages (document 02, Changes 1 and 6): what follows the code or serves proofs; nothing here has to be believed.
use Rattle.std.specs.Prelude.{ℕ, ◌+◌, ◌-◌, Bool, true, false, cond, not, ◌||◌, List, [], ◌∷◌, ◌++◌, leb, eqb, length, take, drop}
use Rattle.ledger.specs.Queue.{Message, Queue, insert_by_class, first_if_begun, behind, those, withdraws, stays_by}
use Rattle.messages.specs.declared.Messages.{Messages}
use Rattle.messages.specs.declared.Position.{Position}
use Rattle.messages.specs.declared.Gone.{Gone}
use Rattle.messages.specs.declared.Withdrawal.{Withdrawal}
use Rattle.messages.specs.Messages.{Entry, entry_of, entries_in, store_entries, with_withdrawn, total_left, begun_in, withdrawn_in}

-- ---- a queuing

-- where a message of class c goes: behind the begun one, and behind those of its class and of lower ones
unfoldable pub place_in : ℕ → ℕ → ℕ → Bool → List Entry → Position
place_in c row bytes b [] = record { row = row; bytes = bytes }
place_in c row bytes b (e ∷ es) =
    cond (b || leb e.class c) (place_in c (row + 1) (bytes + e.left) false es) (record { row = row; bytes = bytes })

abbrev pub insert_row : ℕ → Entry → List Entry → List Entry
insert_row row e es = take row es ++ (e ∷ drop row es)

-- ---- withdrawal

-- how many messages a queuing of n bytes with label l withdraws, and their bytes
abbrev pub superseded_in : ℕ → ℕ → Messages → Withdrawal
superseded_in l n m = record { n = length (withdrawn_in l n m); bytes = total_left (withdrawn_in l n m) }

-- the entries that go, and those that stay: the begun one, and those that label l does not withdraw
abbrev pub go_in : ℕ → Bool → List Entry → List Entry
go_in l b es = those (λ (e : Entry). withdraws l e.label) (behind b es)

abbrev pub stay_in : ℕ → Bool → List Entry → List Entry
stay_in l b es = first_if_begun b es ++ those (λ (e : Entry). not (withdraws l e.label)) (behind b es)

unfoldable pub withdrawn : ℕ → Messages → Messages
withdrawn l m =
    with_withdrawn (m.withdrawn + total_left (go_in l (begun_in m) (entries_in m))) (store_entries (begun_in m) (stay_in l (begun_in m) (entries_in m)) m)

-- the ledger's queue where these are gone, and where a message is put in: a queuing is the one and then the other
abbrev pub stay_queue : ℕ → Queue → Queue
stay_queue l q = record { begun = q.begun; messages = first_if_begun q.begun q.messages ++ stays_by l q }

abbrev pub put_queue : Message → Queue → Queue
put_queue x q =
    record { begun = q.begun; messages = first_if_begun q.begun q.messages ++ insert_by_class x (behind q.begun q.messages) }

-- ---- a burst

-- k waiting bytes begin to fly: the messages that go whole, the bytes left of the one behind them, and whether it has begun
unfoldable pub gone_in : ℕ → ℕ → Bool → List Entry → Gone
gone_in k rows b [] = record { rows = rows; left = 0; begun = false }
gone_in k rows b (e ∷ es) =
    cond (eqb k 0) (record { rows = rows; left = e.left; begun = b })
    (cond (leb e.left k) (gone_in (k - e.left) (rows + 1) false es)
    (record { rows = rows; left = e.left - k; begun = true }))

-- the first entry has `left` bytes left
abbrev pub with_left : ℕ → List Entry → List Entry
with_left left [] = []
with_left left (e ∷ es) = entry_of left e.class e.label ∷ es

abbrev pub cut_to : ℕ → ℕ → List Entry → List Entry
cut_to rows left es = with_left left (drop rows es)

-- entries, and whether the first has begun
pub record EntryQueue : Type 0 where
  pub begun : Bool
  pub entries : List Entry

-- what is left where k waiting bytes begin to fly
abbrev pub flown_from : ℕ → Bool → List Entry → EntryQueue
flown_from k b [] = record { begun = false; entries = [] }
flown_from k b (e ∷ es) =
    cond (eqb k 0) (record { begun = b; entries = e ∷ es })
    (cond (leb e.left k) (flown_from (k - e.left) false es)
    (record { begun = true; entries = entry_of (e.left - k) e.class e.label ∷ es }))

abbrev pub store_entry_queue : EntryQueue → Messages → Messages
store_entry_queue x m = store_entries x.begun x.entries m

unfoldable pub flown : ℕ → Messages → Messages
flown k m = store_entry_queue (flown_from k m.begun (entries_in m)) m
