-- What a station's record and work area show, and what a queuing leaves of them (document 02, Changes 1 and 6). Definitions only.
use Rattle.std.specs.Prelude.{List, [], ◌∷◌, ℕ}
use Rattle.ledger.specs.Station as L
use Rattle.ledger.specs.Station.{take_in}
use Rattle.messages.specs.Messages.{no_messages, queue_in, store_queue, with_withdrawn}
use Rattle.messages.specs.declared.Messages.{Messages}
use Rattle.record.specs.Fresh.{fresh}
use Rattle.record.specs.Setters.{with_counts, with_waiting}
use Rattle.record.specs.View.{view, store, store_area}
use Rattle.record.specs.declared.Sender.{Sender}
use Rattle.queuing.specs.declared.Station.{Station}

abbrev pub fresh_station : Station
fresh_station = record { sender = fresh; messages = no_messages }

abbrev pub with_sender : Station → Sender → Station
with_sender t s = record { sender = s; messages = t.messages }

-- these messages wait, n bytes in all
abbrev pub with_messages : Station → Messages → ℕ → Station
with_messages t m n = record { sender = with_counts t.sender (with_waiting t.sender.counts n); messages = m }

-- the ledger's sender, the queue of messages cut out of its waiting bytes, and the bytes withdrawn
unfoldable pub view_station : Station → List ℕ → L.Station
view_station t a =
    record { sender = view t.sender a; queue = queue_in t.messages (view t.sender a).waiting; withdrawn = t.messages.withdrawn }

-- the record, where the rest of it is as in t
unfoldable pub store_station : L.Station → Station → Station
store_station l t =
    record { sender = store l.sender t.sender; messages = with_withdrawn l.withdrawn (store_queue l.queue t.messages) }

-- record and work area after bytes of class c and label l are queued; "a queuing of no bytes makes no message": then both stay as they are
unfoldable pub queued_in : ℕ → ℕ → List ℕ → Station → List ℕ → Station × List ℕ
queued_in c l [] t a = (t, a)
queued_in c l (b ∷ bs) t a = let after = take_in c l (b ∷ bs) (view_station t a) in (store_station after t, store_area after.sender a)
