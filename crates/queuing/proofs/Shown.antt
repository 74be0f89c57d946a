-- What record and work area show after a call is what the ledger's call leaves.
-- Assumes nothing.
use mathlib.Core.Path.{◌≡◌, refl, sym, ap, ap₂, subst, ◌∙◌}
use mathlib.Core.List.{List, [], ◌∷◌}
use Prim.Native.Nat.{ℕ, ◌-◌, ◌≤◌, ◌<◌}
use native.Mathlib.Nat.{add-zero}
use native.Mathlib.Omega.{arith}
use lib.ListN.{length, drop}
use Rattle.laws.proofs.Bytes.{length_part}
use Rattle.limits.specs.Limits.{max_messages}
use Rattle.ledger.specs.CallsCode as LC
use Rattle.ledger.specs.Ledger as L
use Rattle.ledger.specs.Ledger.{requeue}
use Rattle.ledger.specs.Queue.{Message, Queue, no_queue, goes, enqueue, superseded, flies}
use Rattle.ledger.specs.Station as LS
use Rattle.ledger.specs.Station.{take_in}
use Rattle.ledger.proofs.Queue.{Ready, ready-enqueue}
use Rattle.record.specs.View.{view, store_area}
use Rattle.record.specs.declared.Sender.{Sender}
use Rattle.record.proofs.View.{ViewFits, Holds, Arrays, Counted, view-store, view-fresh}
use Rattle.messages.specs.Messages.{entries_in, store_entries, with_withdrawn, total_left, begun_in, withdrawn_in, queue_in, entries_of, store_queue}
use Rattle.messages.specs.MessagesCode.{flown}
use Rattle.messages.specs.SoundCode.{SoundMessages, Sized}
use Rattle.messages.specs.declared.Messages.{Messages}
use Rattle.messages.proofs.Entries.{length-entries}
use Rattle.messages.proofs.Withdrawn.{stay-go, gone-in}
use Rattle.messages.proofs.Kept.{fly-sound, withdraw-rows}
use Rattle.messages.proofs.Stored.{sized-stored}
use Rattle.messages.proofs.Link as M
use Rattle.queuing.specs.Station.{fresh_station, with_sender, view_station, store_station, queued_in}
use Rattle.queuing.specs.declared.Station.{Station}

-- WHAT IS STORED IS SHOWN
pub station-stored : (l : LS.Station) (t : Station) (a : List ℕ) → ViewFits l.sender a → Holds l.sender → Arrays t.sender → Sized t.messages
    → l.sender.waiting ≡ goes l.queue → Ready l.queue → length l.queue.messages ≤ max_messages → view_station (store_station l t) (store_area l.sender a) ≡ l
unfolding view_station store_station
station-stored l t a f h ar z e r few =
    let m = with_withdrawn l.withdrawn (store_queue l.queue t.messages) in
    ap (λ (x : L.Sender). record { sender = x; queue = queue_in m x.waiting; withdrawn = l.withdrawn }) (view-store l.sender t.sender a f h ar)
    ∙ ap (λ (q : Queue). record { sender = l.sender; queue = q; withdrawn = l.withdrawn })
    (ap (queue_in m) e ∙ M.queue-with l.withdrawn (store_queue l.queue t.messages) (goes l.queue) ∙ M.queue-stored l.queue t.messages z r few)

module _ (t : Station) (a : List ℕ) (k : Counted t.sender a) (so : SoundMessages t.messages t.sender.counts.waiting) where
  abbrev s : Sender
  s = t.sender

  abbrev m : Messages
  m = t.messages

  pub waiting-sum : total_left (entries_in m) ≡ length (view s a).waiting
  unfolding view
  waiting-sum = so.sum ∙ sym (length_part a s.counts.flying s.counts.waiting (omega (arith, k.stream, k.area)))

  -- the waiting bytes are the messages', in their order
  pub goes-shown : goes (view_station t a).queue ≡ (view s a).waiting
  unfolding view_station
  goes-shown = M.shown m (view s a).waiting waiting-sum

  -- a queuing leaves few messages
  few : (c l b : ℕ) (bs : List ℕ) → Sized m → m.n - length (withdrawn_in l (length (b ∷ bs)) m) < max_messages →
      length (enqueue c l (b ∷ bs) (queue_in m (view s a).waiting)).messages ≤ max_messages
  few c l b bs z room =
      let w = (view s a).waiting in
      let x : Message = record { class = c; label = l; bytes = b ∷ bs } in
      omega (
        arith,
        ap (λ (q : Queue). length q.messages) (M.enqueue-steps c l b bs (queue_in m w)),
        M.length-again m w waiting-sum z so.few l x,
        withdraw-rows m s.counts.waiting l z so,
        (stay-go l (begun_in m) (entries_in m)).0,
        ap length (gone-in l (length (b ∷ bs)) m (omega arith)),
        length-entries m 0 m.n,
      )

  -- A QUEUING
  pub queued-shows : (c l : ℕ) (bs : List ℕ) → (1 ≤ length bs → m.n - length (withdrawn_in l (length bs) m) < max_messages) → Arrays s → Sized m →
      ViewFits (take_in c l bs (view_station t a)).sender a → Holds (take_in c l bs (view_station t a)).sender →
      view_station (queued_in c l bs t a).0 (queued_in c l bs t a).1 ≡ take_in c l bs (view_station t a)
  unfolding queued_in take_in enqueue superseded view_station requeue
  queued-shows c l [] room ar z f h =
      let q = queue_in m (view s a).waiting in
      sym
      (ap₂ (λ (w : List ℕ) (k : ℕ). record { sender = requeue w (view s a); queue = q; withdrawn = k }) goes-shown (add-zero m.withdrawn))
  queued-shows c l (b ∷ bs) room ar z f h =
      let w = (view s a).waiting in
      station-stored (take_in c l (b ∷ bs) (view_station t a)) t a f h ar z refl (ready-enqueue c l (queue_in m w) (b ∷ bs) (M.ready-shown m w)) (few c l b bs z (room (omega arith)))

  -- A BURST, with which n waiting bytes begin to fly
  module _ (n : ℕ) where
    pub burst-stores : flown n m ≡ store_queue (flies n (view_station t a).queue) m
    unfolding view_station
    burst-stores = M.fly-stores m (view s a).waiting waiting-sum n

    pub flies-keeps : Sized m → let x = store_queue (flies n (view_station t a).queue) m in SoundMessages x (s.counts.waiting - n) × Sized x
    unfolding store_queue
    flies-keeps z =
        let q = flies n (view_station t a).queue in
        (subst (λ (x : Messages). SoundMessages x (s.counts.waiting - n)) burst-stores (fly-sound m s.counts.waiting n z so), sized-stored m z q.begun (entries_of q.messages))

    pub burst-shows : (s' : Sender) (a' : List ℕ) → Sized m → (view s' a').waiting ≡ drop n (view s a).waiting →
        view_station (record { sender = s'; messages = store_queue (flies n (view_station t a).queue) m }) a'
        ≡ record { sender = view s' a'; queue = flies n (view_station t a).queue; withdrawn = m.withdrawn }
    unfolding view_station store_queue store_entries
    burst-shows s' a' z e =
        ap (λ (q : Queue). record { sender = view s' a'; queue = q; withdrawn = m.withdrawn })
        (ap₂ queue_in (sym burst-stores) e ∙ M.fly-shows m (view s a).waiting waiting-sum z so.few n)

-- A REPLY
pub reply-shows : (t : Station) (a : List ℕ) (s' : Sender) (a' : List ℕ) → (view s' a').waiting ≡ (view t.sender a).waiting →
    view_station (with_sender t s') a' ≡ record { sender = view s' a'; queue = (view_station t a).queue; withdrawn = (view_station t a).withdrawn }
unfolding view_station
reply-shows t a s' a' e = ap (λ (w : List ℕ). record { sender = view s' a'; queue = queue_in t.messages w; withdrawn = t.messages.withdrawn }) e

-- a fresh record shows a fresh station, whatever the work area has
pub fresh-shows : (a : List ℕ) → view_station fresh_station a ≡ LC.fresh_ledger_station
unfolding view_station queue_in
fresh-shows a = ap (λ (x : L.Sender). record { sender = x; queue = no_queue; withdrawn = 0 }) (view-fresh a)
