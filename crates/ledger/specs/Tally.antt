-- The tally of document 01: what the calls' arguments and answers alone say of each byte. Definitions only.
use Rattle.std.specs.Prelude.{ℕ, suc, ◌+◌, ◌-◌, max, Bool, true, false, cond, ◌&&◌, List, [], ◌∷◌, ◌++◌, map, leb, ltb, eqb, length, take}
use Rattle.ledger.specs.Reply.{Reply}
use Rattle.ledger.specs.Ledger.{Frame}
use Rattle.ledger.specs.Queue.{Message, Queue, no_queue, goes, enqueue, superseded, flies, begins, message}

-- a byte that has flown, acknowledged or not
pub record Flown : Type 0 where
  pub byte : ℕ
  pub acked : Bool

-- the outstanding burst: none, or its number and its frames
pub data Outstanding : Type 0 where
  nothing : Outstanding
  outstanding : ℕ → List Frame → Outstanding

-- "It keeps a count taken, the waiting bytes, the flown bytes from offset 0 up, each acknowledged or not, and the outstanding burst"
pub record Tally : Type 0 where
  pub taken : ℕ
  -- the messages of which bytes wait
  pub queue : Queue
  -- the messages that have begun, whole, in the order of their beginning
  pub began : List Message
  -- the messages that were withdrawn (Change 6)
  pub withdrawn : List Message
  pub flown : List Flown
  pub out : Outstanding

-- "the waiting bytes", in the order in which they will go
abbrev pub waits : Tally → List ℕ
waits t = goes t.queue

-- "at first nothing"
abbrev pub start : Tally
start = record { taken = 0; queue = no_queue; began = []; withdrawn = []; flown = []; out = nothing }

-- a call, as it is told: its arguments and its answer
pub data Event : Type 0 where
  -- refused, or a connect
  silent : Event
  -- bytes queued, with a class and a label
  took : ℕ → ℕ → List ℕ → Event
  -- an ack
  reply : Reply → Event
  -- the acks of one reception, in order (Change 7)
  replies : List Reply → Event
  -- a turn
  turn : Event
  -- a burst's number, and its frames' full offsets and lengths
  went : ℕ → List Frame → Event

abbrev pub byte_of : Flown → ℕ
byte_of f = f.byte

-- "In flight: flown, not acknowledged"
abbrev pub in_flight : List Flown → ℕ
in_flight [] = 0
in_flight (f ∷ fs) = cond f.acked 0 1 + in_flight fs

abbrev pub acknowledged : List Flown → ℕ
acknowledged [] = 0
acknowledged (f ∷ fs) = cond f.acked 1 0 + acknowledged fs

-- "A queuing raises taken"; its message waits where its class puts it, and "the tally takes these bytes" of those that it withdraws "out of its
-- waiting ones"
unfoldable pub queued : ℕ → ℕ → List ℕ → Tally → Tally
queued c l bs t =
    record {
      taken = t.taken + length bs;
      queue = enqueue c l bs t.queue;
      began = t.began;
      withdrawn = t.withdrawn ++ superseded l bs t.queue;
      flown = t.flown;
      out = t.out;
    }

-- bytes that begin to fly, not acknowledged
abbrev pub unacked : List ℕ → List Flown
unacked bs = map (λ (b : ℕ). record { byte = b; acked = false }) bs

-- where the furthest frame ends
abbrev pub furthest : List Frame → ℕ
furthest [] = 0
furthest (f ∷ fs) = max (f.off + f.len) (furthest fs)

-- "A burst becomes the outstanding one; where its furthest frame ends past the flown bytes, the first waiting bytes join them, not acknowledged, up to that
-- end or as far as there are any"
unfoldable pub sent_out : ℕ → List Frame → Tally → Tally
sent_out n fs t =
    record {
      taken = t.taken;
      queue = flies (furthest fs - length t.flown) t.queue;
      began = t.began ++ begins (furthest fs - length t.flown) t.queue;
      withdrawn = t.withdrawn;
      flown = t.flown ++ unacked (take (furthest fs - length t.flown) (waits t));
      out = outstanding n fs;
    }

-- offset k is one of the l offsets from o
abbrev pub within : ℕ → ℕ → ℕ → Bool
within o l k = leb o k && ltb k (o + l)

-- the bytes of the l offsets from o are acknowledged; the list starts at offset k
abbrev pub acknowledge : ℕ → ℕ → ℕ → List Flown → List Flown
acknowledge o l k [] = []
acknowledge o l k (f ∷ fs) = record { byte = f.byte; acked = cond (within o l k) true f.acked } ∷ acknowledge o l (suc k) fs

-- the bytes of each frame whose bit is set, the first frame at place i of the burst
abbrev pub acknowledge_all : (ℕ → Bool) → ℕ → List Frame → List Flown → List Flown
acknowledge_all b i [] fl = fl
acknowledge_all b i (f ∷ fs) fl = acknowledge_all b (suc i) fs (cond (b i) (acknowledge f.off f.len 0 fl) fl)

-- "An ack bearing that burst's number acknowledges the bytes of each of its frames whose bit, by place in the burst, is set"
abbrev pub acknowledged_by : Reply → Outstanding → List Flown → List Flown
acknowledged_by r nothing fl = fl
acknowledged_by r (outstanding n fs) fl = cond (eqb r.number n) (acknowledge_all (r.bit (length fs)) 0 fs fl) fl

-- "Any ack or turn leaves none outstanding"
unfoldable pub heard : Reply → Tally → Tally
heard r t =
    record {
      taken = t.taken;
      queue = t.queue;
      began = t.began;
      withdrawn = t.withdrawn;
      flown = acknowledged_by r t.out t.flown;
      out = nothing;
    }

-- acks one after the other: the first leaves none outstanding
abbrev pub heard_all : List Reply → Tally → Tally
heard_all [] t = t
heard_all (r ∷ rs) t = heard_all rs (heard r t)

unfoldable pub none_outstanding : Tally → Tally
none_outstanding t =
    record { taken = t.taken; queue = t.queue; began = t.began; withdrawn = t.withdrawn; flown = t.flown; out = nothing }

-- "A refused call or a connect changes nothing"
abbrev pub feed : Event → Tally → Tally
feed silent t = t
feed (took c l bs) t = queued c l bs t
feed (reply r) t = heard r t
feed (replies rs) t = heard_all rs t
feed turn t = none_outstanding t
feed (went n fs) t = sent_out n fs t

-- the message that an event queues
abbrev pub messages_told : Event → List Message
messages_told silent = []
messages_told (took c l bs) = message c l bs
messages_told (reply r) = []
messages_told (replies rs) = []
messages_told turn = []
messages_told (went n fs) = []

-- the frames that it sends
abbrev pub frames_told : Event → List Frame
frames_told silent = []
frames_told (took c l bs) = []
frames_told (reply r) = []
frames_told (replies rs) = []
frames_told turn = []
frames_told (went n fs) = fs
