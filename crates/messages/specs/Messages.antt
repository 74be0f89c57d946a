-- The record's messages as a list of entries, and the queue that they show (document 02, Changes 1 and 6). Definitions only.
use Rattle.std.specs.Prelude.{ℕ, zero, suc, ◌+◌, Bool, true, false, cond, ◌&&◌, List, [], ◌∷◌, map, leb, ltb, eqb, length, get_or, take, drop, replicate}
use Rattle.laws.specs.Bytes.{overwrite}
use Rattle.limits.specs.Limits.{max_class, max_messages}
use Rattle.ledger.specs.Queue.{Message, Queue, behind, those, withdraws}
use Rattle.messages.specs.declared.Messages.{Messages}

abbrev pub no_messages : Messages
no_messages =
    record {
      left = replicate max_messages 0;
      class = replicate max_messages 0;
      label = replicate max_messages 0;
      n = 0;
      withdrawn = 0;
      begun = false;
    }

-- ---- the record's entries

-- a message's class, its label, and how many bytes of it wait
pub record Entry : Type 0 where
  pub class : ℕ
  pub label : ℕ
  pub left : ℕ

abbrev pub entry_of : ℕ → ℕ → ℕ → Entry
entry_of left class label = record { class = class; label = label; left = left }

abbrev pub entry_in_row : Messages → ℕ → Entry
entry_in_row m i = entry_of (get_or m.left i 0) (get_or m.class i 0) (get_or m.label i 0)

-- k entries from row i on
abbrev pub entries_from : Messages → ℕ → ℕ → List Entry
entries_from m i zero = []
entries_from m i (suc k) = entry_in_row m i ∷ entries_from m (i + 1) k

abbrev pub entries_in : Messages → List Entry
entries_in m = entries_from m 0 m.n

abbrev pub lefts : List Entry → List ℕ
lefts es = map (λ (e : Entry). e.left) es

abbrev pub classes : List Entry → List ℕ
classes es = map (λ (e : Entry). e.class) es

abbrev pub labels : List Entry → List ℕ
labels es = map (λ (e : Entry). e.label) es

-- the record with these entries; those past them stay as they are, and the bytes withdrawn
unfoldable pub store_entries : Bool → List Entry → Messages → Messages
store_entries b es m =
    record {
      left = overwrite m.left 0 (lefts es);
      class = overwrite m.class 0 (classes es);
      label = overwrite m.label 0 (labels es);
      n = length es;
      withdrawn = m.withdrawn;
      begun = b;
    }

abbrev pub with_withdrawn : ℕ → Messages → Messages
with_withdrawn w m =
    record { left = m.left; class = m.class; label = m.label; n = m.n; withdrawn = w; begun = m.begun }

-- the waiting bytes of all
unfoldable pub total_left : List Entry → ℕ
total_left [] = 0
total_left (e ∷ es) = e.left + total_left es

-- ---- the sound record

-- "of classes 0 to 3, each has 1 byte or more left"
unfoldable pub entries_ok : List Entry → Bool
entries_ok [] = true
entries_ok (e ∷ es) = ltb 0 e.left && (leb e.class max_class && entries_ok es)

-- "at most 256 messages", and "the lengths left sum to the waiting bytes". That at most one is begun needs no test: it is the first
unfoldable pub messages_ok : ℕ → Messages → Bool
messages_ok w m = leb m.n max_messages && (entries_ok (entries_in m) && eqb (total_left (entries_in m)) w)

-- whether a message has begun: the first, where there is one
abbrev pub begun_in : Messages → Bool
begun_in m = m.begun && ltb 0 m.n

-- ---- withdrawal

-- the entries that a queuing of n bytes with label l withdraws: of messages that have not begun; "A queuing of no bytes withdraws nothing"
unfoldable pub withdrawn_in : ℕ → ℕ → Messages → List Entry
withdrawn_in l n m = cond (eqb n 0) [] (those (λ (e : Entry). withdraws l e.label) (behind (begun_in m) (entries_in m)))

-- ---- the queue that a record and the waiting bytes show, and the record that holds a queue

-- entries cut out of the waiting bytes
abbrev pub messages_of : List Entry → List ℕ → List Message
messages_of [] w = []
messages_of (e ∷ es) w = record { class = e.class; label = e.label; bytes = take e.left w } ∷ messages_of es (drop e.left w)

unfoldable pub queue_in : Messages → List ℕ → Queue
queue_in m w = record { begun = begun_in m; messages = messages_of (entries_in m) w }

abbrev pub entries_of : List Message → List Entry
entries_of ms = map (λ (x : Message). entry_of (length x.bytes) x.class x.label) ms

unfoldable pub store_queue : Queue → Messages → Messages
store_queue q m = store_entries q.begun (entries_of q.messages) m
