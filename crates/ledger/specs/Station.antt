-- The sender's ledger, with the messages of which bytes wait (document 02, Changes 1 and 6). Definitions only.
use Rattle.std.specs.Prelude.{ℕ, ◌+◌, List, length}
use Rattle.ledger.specs.Ledger.{Sender, Plan, size, new_pieces, data_burst, requeue}
use Rattle.ledger.specs.Queue.{Queue, message_bytes, goes, enqueue, superseded, flies}

pub record Station : Type 0 where
  pub sender : Sender
  pub queue : Queue
  -- bytes withdrawn
  pub withdrawn : ℕ

-- "Each queuing is one message": what waits then is the bytes of the messages, in the order in which they will go.
-- The bytes of those that it withdraws are counted
unfoldable pub take_in : ℕ → ℕ → List ℕ → Station → Station
take_in c l bs s =
    record {
      sender = requeue (goes (enqueue c l bs s.queue)) s.sender;
      queue = enqueue c l bs s.queue;
      withdrawn = s.withdrawn + length (message_bytes (superseded l bs s.queue));
    }

-- "Bursts cut the waiting bytes in that order as the Rust cuts its queue": the bytes of its new pieces leave the queue
unfoldable pub send_off : Plan → Station → Station
send_off g s =
    record { sender = data_burst g s.sender; queue = flies (size (new_pieces g s.sender)) s.queue; withdrawn = s.withdrawn }
