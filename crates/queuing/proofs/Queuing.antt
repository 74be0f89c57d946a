-- A queuing is a withdrawal and then one insertion among the waiting bytes and one among the messages, and the ledger's.
-- Assumes nothing.
use mathlib.Core.Path.{◌≡◌, refl, sym, ap, ap₂, subst, ◌∙◌}
use mathlib.Core.List.{List, [], ◌∷◌, ◌++◌}
use Prim.Native.Nat.{ℕ, ◌+◌, ◌-◌, ◌≤◌, ◌<◌}
use native.Mathlib.Nat.{zero-add, add-zero}
use native.Mathlib.Omega.{arith}
use lib.ListN.{length, take, drop, length-append, length-drop, take-append-drop}
use lib.Seq.{take-length, length-take-le}
use lib.Dec.{eqb}
use borrow.Author.Tests.{eq-eqb, eqb-true}
use Rattle.laws.specs.Bytes.{overwrite, part, Bytes}
use Rattle.laws.proofs.Bytes.{over-part, over-keep, over-cat, over-over, over-comm, length_over, length_part, part-inside}
use Rattle.laws.proofs.Picks.{by as by-test, or_right}
use Rattle.limits.specs.Limits.{max_class, max_waiting, max_messages}
use Rattle.ledger.specs.Ledger.{requeue}
use Rattle.ledger.specs.Queue.{Message, Queue, message_bytes, goes, enqueue, superseded, withdrawn_by}
use Rattle.ledger.specs.Station.{take_in}
use Rattle.area.specs.Layout.{place, stream_bytes}
use Rattle.area.specs.Table.{rows_from, table_bytes}
use Rattle.area.specs.declared.table.Row.{Row}
use Rattle.area.proofs.table.Laws.{table_kept}
use Rattle.pieces.specs.Pieces.{pieces_of}
use Rattle.record.specs.Setters.{with_link, with_counts, with_at_peer, with_last_burst, with_waiting, with_flying, with_pieces}
use Rattle.record.specs.View.{view, store, store_area, store_counts, store_held, store_sent, store_link}
use Rattle.record.specs.declared.Counts.{Counts}
use Rattle.record.specs.declared.AtPeer.{AtPeer}
use Rattle.record.specs.declared.LastBurst.{LastBurst}
use Rattle.record.specs.declared.Link.{Link}
use Rattle.record.specs.declared.Sender.{Sender}
use Rattle.record.proofs.View.{Arrays, Counted, bytes-pieces, rows-pieces, counts-kept, held_kept, sent-kept}
use Rattle.messages.specs.Messages.{Entry, entry_of, entries_in, store_entries, with_withdrawn, total_left, begun_in, queue_in, store_queue}
use Rattle.messages.specs.MessagesCode.{insert_row, stay_in, withdrawn, stay_queue, put_queue}
use Rattle.messages.specs.SoundCode.{SoundMessages, Sized}
use Rattle.messages.specs.declared.Messages.{Messages}
use Rattle.messages.proofs.Placed.{place-within}
use Rattle.messages.proofs.Kept.{insert-sound, withdraw-sound, withdraw-sized, withdraw-rows}
use Rattle.messages.proofs.Stored.{sized-stored}
use Rattle.messages.proofs.Withdrawn.{stay-go, gone-in, nothing-gone}
use Rattle.messages.proofs.Link as M
use Rattle.messages.proofs.Entries.{length-entries}
use Rattle.queuing.specs.Station.{view_station, store_station, queued_in}
use Rattle.queuing.specs.StationCode.{
  Space,
  Fit,
  Room,
  queued_to,
  stay_bytes,
  stay_waiting,
  stayed_in,
  place_of,
  put_in,
  queued_waiting,
  store_waiting,
}
use Rattle.queuing.specs.declared.Station.{Station}
use Rattle.queuing.specs.declared.Waiting.{Waiting}
use Rattle.queuing.proofs.Shown.{waiting-sum}

-- ---- the sender, and its work area, where other bytes wait

module _ (s : Sender) (a : List ℕ) (c : Counted s a) (by : Bytes a) (v : List ℕ) where
  abbrev f : ℕ
  f = s.counts.flying

  abbrev rows : List Row
  rows = rows_from a 0 s.counts.pieces

  pub requeued-area : f + length v ≤ stream_bytes → store_area (requeue v (view s a)) a ≡ overwrite a f v
  unfolding store_area view requeue
  requeued-area fits =
      ap₂ (λ (x : List ℕ) (rs : List Row). overwrite (overwrite a 0 (x ++ v)) (place 0) (table_bytes rs)) (bytes-pieces rows a ∙ ap (λ (n : ℕ). part a 0 n) c.flying)
      (rows-pieces rows a (omega (arith, c.flying, c.stream, c.area)))
      ∙ ap (λ (x : List ℕ). overwrite x (place 0) (table_bytes rows)) (over-keep a 0 f v (omega (arith, c.stream, c.area)) ∙ ap (λ (n : ℕ). overwrite a n v) (zero-add f))
      ∙ over-comm a f v (place 0) (table_bytes rows) (omega (arith, fits))
      ∙ ap (λ (x : List ℕ). overwrite x f v) (table_kept a by 0 s.counts.pieces (omega (arith, c.pieces, c.area)))

  requeued-counts : store_counts (requeue v (view s a)) s.counts ≡ with_waiting s.counts (length v)
  unfolding store_counts view requeue
  requeued-counts =
      let q = counts-kept s a c by in
      ap (λ (m : ℕ). with_pieces (with_flying (with_waiting s.counts (length v)) m) (length (pieces_of rows a))) (ap (λ (x : Counts). x.flying) q)
      ∙ ap (with_pieces (with_waiting s.counts (length v))) (ap (λ (x : Counts). x.pieces) q)

  module _ (ar : Arrays s) where
    requeued-held : store_held (requeue v (view s a)) s.at_peer ≡ s.at_peer
    unfolding store_held view requeue
    requeued-held = held_kept s a c ar

    requeued-sent : store_sent (requeue v (view s a)) s.last_burst ≡ s.last_burst
    unfolding store_sent view requeue
    requeued-sent = sent-kept s a c ar

    requeued-link : store_link (requeue v (view s a)) s.link ≡ s.link
    unfolding store_link view requeue
    requeued-link = refl

    pub requeued-record : store (requeue v (view s a)) s ≡ queued_to s (length v)
    unfolding store
    requeued-record =
        ap₂ (λ (x : Counts) (y : AtPeer). with_last_burst (with_at_peer (with_counts (with_link s (store_link (requeue v (view s a)) s.link)) x) y) (store_sent (requeue v (view s a)) s.last_burst))
        requeued-counts requeued-held
        ∙ ap₂ (λ (x : Link) (y : LastBurst). with_last_burst (with_link (queued_to s (length v)) x) y) requeued-link requeued-sent

-- WHAT IS SHOWN IS STORED ALREADY
pub stored-already : (s : Sender) (a : List ℕ) → Counted s a → Bytes a → Arrays s →
    (store (requeue (view s a).waiting (view s a)) s ≡ s) × (store_area (requeue (view s a).waiting (view s a)) a ≡ a)
unfolding view
stored-already s a c by ar =
    let w = part a s.counts.flying s.counts.waiting in
    let n : length w ≡ s.counts.waiting = length_part a s.counts.flying s.counts.waiting (omega (arith, c.stream, c.area)) in (
      requeued-record s a c by w ar ∙ ap (queued_to s) n,
      requeued-area s a c by w (omega (arith, c.stream)) ∙ over-part a s.counts.flying s.counts.waiting,
    )

-- ---- bytes put in behind the first k of v, which lie at f
pub put-over : (a v bs : List ℕ) (f k : ℕ) → k ≤ length v → f + length v ≤ length a →
    overwrite (overwrite a f v) (f + k) (bs ++ part (overwrite a f v) (f + k) (length v - k)) ≡ overwrite a f (take k v ++ (bs ++ drop k v))
put-over a v bs f k low fits =
    let x = take k v in
    let y = drop k v in
    let len : length x ≡ k = length-take-le k v low in
    let tail : part (overwrite a f v) (f + k) (length v - k) ≡ y =
    part-inside a f v k (length v - k) (omega arith) fits ∙ ap (λ (n : ℕ). take n y) (sym (length-drop k v)) ∙ take-length y in
    let split : overwrite a f v ≡ overwrite (overwrite a f x) (f + k) y =
    ap (overwrite a f) (sym (take-append-drop k v)) ∙ sym (over-cat a f x y) ∙ ap (λ (n : ℕ). overwrite (overwrite a f x) (f + n) y) len in
    ap (λ (z : List ℕ). overwrite (overwrite a f v) (f + k) (bs ++ z)) tail ∙ ap (λ (z : List ℕ). overwrite z (f + k) (bs ++ y)) split
    ∙ over-over (overwrite a f x) (f + k) y (bs ++ y) (omega (arith, length-append bs y))
    ∙ ap (λ (n : ℕ). overwrite (overwrite a f x) (f + n) (bs ++ y)) (sym len) ∙ over-cat a f x (bs ++ y)

-- ---- a queuing

pub fit-counted : (t : Station) (a : List ℕ) (l n : ℕ) → Fit t a l n → Counted t.sender a
fit-counted t a l n f =
    record {
      area = f.area;
      held = f.held;
      rest = f.rest;
      sent = f.sent;
      pieces = f.pieces;
      flying = f.flying;
      stream = omega (arith, f.stream, f.space.waits);
    }

-- what a queuing needs, of what stays
module _ (m : Messages) (f w : ℕ) (a : List ℕ) (l n : ℕ) (fit : Space m f w a l n) (some : 1 ≤ n) where
  abbrev stays : List Entry
  stays = stay_in l (begun_in m) (entries_in m)

  pub stay-bytes : total_left stays + n ≤ max_waiting
  stay-bytes =
      omega (arith, (stay-go l (begun_in m) (entries_in m)).1, ap total_left (gone-in l n m some), fit.bytes, fit.messages.sum)

  pub stay-row : length stays < max_messages
  stay-row =
      omega (arith, (stay-go l (begun_in m) (entries_in m)).0, ap length (gone-in l n m some), fit.row some, length-entries m 0 m.n)

  pub stay-room : Sized m → (x : List ℕ) → length x ≡ length a → Room (withdrawn l m) f (total_left stays) x n
  stay-room z x e =
      record {
        messages = withdraw-sound m w l z fit.messages;
        row = omega (arith, stay-row, withdraw-rows m w l z fit.messages);
        bytes = stay-bytes;
        area = omega (arith, stay-bytes, fit.area);
      }

  -- without a label
  pub plain-room : l ≡ 0 → Room m f w a n
  unfolding total_left
  plain-room e =
      let z = nothing-gone l n m (or_right (eqb n 0) (eqb l 0) (eq-eqb l 0 e)) in
      let by : w + n ≤ max_waiting = omega (arith, ap total_left z, fit.bytes) in
      record { messages = fit.messages; row = omega (arith, ap length z, fit.row some); bytes = by; area = omega (arith, fit.area) }

  pub stayed-room : Sized m → let x = stayed_in l m f w a in Room x.0.messages f x.0.waiting x.1 n
  stayed-room z =
      by-test (λ (x : Waiting × List ℕ). Room x.0.messages f x.0.waiting x.1 n) (eqb l 0) (λ e. plain-room (eqb-true l 0 e))
      (λ e. stay-room z (overwrite a f (stay_bytes l m (drop f a))) (length_over a f (stay_bytes l m (drop f a))))

module _ (t : Station) (a : List ℕ) (ar : Arrays t.sender) (by : Bytes a) (z : Sized t.messages) (c l b : ℕ) (bs : List ℕ) (fit : Fit t a l (length (b ∷ bs))) where
  abbrev s : Sender
  s = t.sender

  abbrev n : ℕ
  n = length (b ∷ bs)

  abbrev new : Message
  new = record { class = c; label = l; bytes = b ∷ bs }

  counted : Counted s a
  counted = fit-counted t a l n fit

  -- what waits
  abbrev waits : List ℕ
  waits = (view s a).waiting

  sum : total_left (entries_in t.messages) ≡ length waits
  sum = waiting-sum t a counted fit.space.messages

  abbrev queue : Queue
  queue = queue_in t.messages waits

  abbrev sums : ℕ
  sums = t.messages.withdrawn + length (message_bytes (superseded l (b ∷ bs) queue))

  -- once v waits, and the record holds the messages x
  module _ (x : Messages) (v : List ℕ) (low : (place_of c x).bytes ≤ length v) (most : length v + n ≤ max_waiting)
      (bytes : goes (enqueue c l (b ∷ bs) queue) ≡ take (place_of c x).bytes v ++ ((b ∷ bs) ++ drop (place_of c x).bytes v))
      (stores : store_entries (begun_in x) (insert_row (place_of c x).row (entry_of n c l) (entries_in x)) x ≡ with_withdrawn sums (store_queue (enqueue c l (b ∷ bs) queue) t.messages)) where
    long : length (goes (enqueue c l (b ∷ bs) queue)) ≡ length v + n
    long =
        let k = (place_of c x).bytes in
        omega (arith, ap length bytes, length-append (take k v) ((b ∷ bs) ++ drop k v), length-append (b ∷ bs) (drop k v), length-take-le k v low, length-drop k v)

    put_is : let f = s.counts.flying in
        store_waiting t (put_in c l (b ∷ bs) x f (length v) (overwrite a f v)) ≡ queued_in c l (b ∷ bs) t a
    unfolding queued_in take_in view_station store_station
    put_is =
        let w = goes (enqueue c l (b ∷ bs) queue) in
        let f = s.counts.flying in
        let e₁ = ap (queued_to s) (sym long) ∙ sym (requeued-record s a counted by w ar) in
        let e₂ = put-over a v (b ∷ bs) f (place_of c x).bytes low (omega (arith, fit.stream, fit.area))
        ∙ ap (overwrite a f) (sym bytes) ∙ sym (requeued-area s a counted by w (omega (arith, long, fit.stream))) in
        λ j. (record { sender = e₁ j; messages = stores j }, e₂ j)

  -- the record that both ways store
  labelled-stores : with_withdrawn (t.messages.withdrawn + length (message_bytes (withdrawn_by l queue))) (store_queue (put_queue new (stay_queue l queue)) t.messages)
      ≡ with_withdrawn sums (store_queue (enqueue c l (b ∷ bs) queue) t.messages)
  unfolding superseded
  labelled-stores = ap (λ (q : Queue). with_withdrawn sums (store_queue q t.messages)) (sym (M.enqueue-steps c l b bs queue))

  plain-stores : l ≡ 0 → length (message_bytes (superseded l (b ∷ bs) queue)) ≡ total_left []
      → store_queue (put_queue new queue) t.messages ≡ with_withdrawn sums (store_queue (enqueue c l (b ∷ bs) queue) t.messages)
  unfolding store_queue store_entries total_left
  plain-stores e g =
      ap (λ (q : Queue). store_queue q t.messages) (sym (M.enqueue-step c l b bs queue e))
      ∙ ap (λ (k : ℕ). with_withdrawn k (store_queue (enqueue c l (b ∷ bs) queue) t.messages))
      (sym (ap (λ (k : ℕ). t.messages.withdrawn + k) g ∙ add-zero t.messages.withdrawn))

  -- WHAT A WITHDRAWAL AND `put_in` LEAVE
  pub queued-labelled : let x = stay_waiting l t.messages in
      let f = s.counts.flying in
      store_waiting t (put_in c l (b ∷ bs) x.messages f x.waiting (overwrite a f (stay_bytes l t.messages (drop f a))))
      ≡ queued_in c l (b ∷ bs) t a
  unfolding view
  queued-labelled =
      let m = t.messages in
      let f = s.counts.flying in
      let v = goes (stay_queue l queue) in
      let w = s.counts.waiting in
      let same : stay_bytes l m (drop f a) ≡ v =
      ap (λ (q : Queue). goes (stay_queue l q)) (sym (M.queue-take m w (drop f a) (omega (arith, fit.space.messages.sum)))) in
      let len : total_left (stay_in l (begun_in m) (entries_in m)) ≡ length v = M.bytes-stay m waits sum l in
      let sound = withdraw-sound m w l z fit.space.messages in
      let few = fit.space.messages.few in
      (λ j. store_waiting t (put_in c l (b ∷ bs) (withdrawn l m) f (len j) (overwrite a f (same j))))
      ∙ put_is (withdrawn l m) v (omega (arith, (place-within (withdrawn l m) (total_left (stay_in l (begun_in m) (entries_in m))) c sound).1))
      (omega (arith, stay-bytes m f w a l n fit.space (omega arith)))
      (ap goes (M.enqueue-steps c l b bs queue) ∙ M.goes-again m waits sum z few l new)
      (M.stores-again m waits sum z few l new ∙ labelled-stores)

  -- WITHOUT A LABEL `put_in` LEAVES IT
  pub queued-plain : l ≡ 0 →
      store_waiting t (put_in c l (b ∷ bs) t.messages s.counts.flying s.counts.waiting a) ≡ queued_in c l (b ∷ bs) t a
  unfolding view
  queued-plain e =
      let m = t.messages in
      let f = s.counts.flying in
      let w = s.counts.waiting in
      let len : w ≡ length waits = sym (length_part a f w (omega (arith, counted.stream, counted.area))) in
      let gone = M.superseded-bytes m waits sum l (b ∷ bs) ∙ ap total_left (nothing-gone l n m (or_right (eqb n 0) (eqb l 0) (eq-eqb l 0 e))) in
      let room = plain-room m f w a l n fit.space (omega arith) e in
      (λ j. store_waiting t (put_in c l (b ∷ bs) m f (len j) (sym (over-part a f w) j)))
      ∙ put_is m waits (omega (arith, (place-within m w c fit.space.messages).1)) (omega (arith, room.bytes))
      (ap goes (M.enqueue-step c l b bs queue e) ∙ M.goes-place m waits sum new) (M.insert-stores m waits sum new ∙ plain-stores e gone)

  -- the clauses about messages
  keeps : c ≤ max_class → let r = (queued_in c l (b ∷ bs) t a).0 in SoundMessages r.messages r.sender.counts.waiting × Sized r.messages
  keeps h =
      let w = s.counts.waiting in
      let x = withdrawn l t.messages in
      let y = withdraw-sized t.messages w l z fit.space.messages in
      let e = entry_of n c l in
      subst (λ (r : Station × List ℕ). SoundMessages r.0.messages r.0.sender.counts.waiting × Sized r.0.messages) queued-labelled (
        insert-sound x _ e y (withdraw-sound t.messages w l z fit.space.messages)
            (stay-room t.messages s.counts.flying w a l n fit.space (omega arith) z a refl).row (omega arith) h (begun_in x) (place_of c x).row,
        sized-stored x y (begun_in x) (insert_row (place_of c x).row e (entries_in x)),
      )

module _ (t : Station) (a : List ℕ) (ar : Arrays t.sender) (by : Bytes a) (z : Sized t.messages) (c l : ℕ) where
  -- WHAT `enqueue` LEAVES
  pub queued-waiting : (bs : List ℕ) → Fit t a l (length bs)
      → let k = t.sender.counts in store_waiting t (queued_waiting c l bs t.messages k.flying k.waiting a) ≡ queued_in c l bs t a
  unfolding queued_waiting queued_in
  queued-waiting [] f = refl
  queued-waiting (b ∷ bs) f =
      by-test
      (λ (x : Waiting × List ℕ).
      store_waiting t (put_in c l (b ∷ bs) x.0.messages t.sender.counts.flying x.0.waiting x.1) ≡ queued_in c l (b ∷ bs) t a)
      (eqb l 0) (λ e. queued-plain t a ar by z c l b bs f (eqb-true l 0 e))
      (λ e. queued-labelled t a ar by z c l b bs f)

  -- A QUEUING KEEPS THE CLAUSES ABOUT MESSAGES
  pub queued-keeps : (bs : List ℕ) → Fit t a l (length bs) → c ≤ max_class →
      let r = (queued_in c l bs t a).0 in SoundMessages r.messages r.sender.counts.waiting × Sized r.messages
  unfolding queued_in
  queued-keeps [] f h = (f.space.messages, z)
  queued-keeps (b ∷ bs) f h = keeps t a ar by z c l b bs f h

-- ---- the steps of `enqueue`

module _ (c l : ℕ) (m : Messages) (f w : ℕ) (a : List ℕ) where
  pub queued-none : (bs : List ℕ) → length bs ≡ 0 → (record { messages = m; waiting = w }, a) ≡ queued_waiting c l bs m f w a
  unfolding queued_waiting
  queued-none [] e = refl
  queued-none (b ∷ bs) e = absurd (omega (arith, e))

  pub queued-steps : (bs : List ℕ) → 1 ≤ length bs →
      let x = stayed_in l m f w a in put_in c l bs x.0.messages f x.0.waiting x.1 ≡ queued_waiting c l bs m f w a
  unfolding queued_waiting
  queued-steps [] h = absurd (omega arith)
  queued-steps (b ∷ bs) h = refl
