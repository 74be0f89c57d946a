-- The queue that the record and the waiting bytes show takes the ledger's steps: what the code stores is what `enqueue` and `flies` leave.
-- Assumes nothing.
use Prim.Native.Nat.{ℕ, zero, suc, ◌+◌, ◌-◌, ◌≤◌}
use mathlib.Core.Path.{◌≡◌, refl, sym, ap, ap₂, ◌∙◌}
use mathlib.Core.Bool.{Bool, true, false, not, ◌&&◌, false≢true}
use mathlib.Core.List.{List, [], ◌∷◌, ◌++◌, map, append_assoc}
use native.Mathlib.Nat.{sub-zero}
use native.Mathlib.Omega.{arith}
use lib.ListN.{length, take, drop, length-append, length-drop, length-map, take-append-drop}
use lib.Seq.{take_at, drop_at, take-take, length-take-le}
use lib.Dec.{leb, ltb, eqb}
use borrow.Author.Tests.{lt-ltb, ltb-true}
use Rattle.laws.specs.Bytes.{overwrite}
use Rattle.laws.proofs.Bytes.{over-over}
use Rattle.laws.proofs.Picks.{by, by₂, and_second}
use Rattle.limits.specs.Limits.{max_messages}
use Rattle.ledger.specs.Queue.{Message, Queue, message_bytes, goes, insert_by_class, first_if_begun, behind, those, withdraws, withdrawn_by, enqueue, superseded, flies_from, flies}
use Rattle.ledger.proofs.Queue.{Ready, goes-flies, ready-flies}
use Rattle.messages.specs.declared.Messages.{Messages}
use Rattle.messages.specs.declared.Position.{Position}
use Rattle.messages.specs.Messages.{Entry, entry_of, entries_in, store_entries, with_withdrawn, total_left, begun_in, withdrawn_in, messages_of, queue_in, entries_of, store_queue}
use Rattle.messages.specs.MessagesCode.{place_in, insert_row, go_in, stay_in, withdrawn, stay_queue, put_queue, EntryQueue, flown_from, flown, store_entry_queue}
use Rattle.messages.specs.SoundCode.{Sized}
use Rattle.messages.proofs.Entries.{length-entries, length-insert, with-begun}
use Rattle.messages.proofs.Placed.{insert_entry, placed, row-placed}
use Rattle.messages.proofs.Stored.{entries-stored, entries-withdrawn}
use Rattle.messages.proofs.Withdrawn.{stay-go, gone-in}

-- ---- entries cut out of bytes

entries-messages : (es : List Entry) (w : List ℕ) → total_left es ≤ length w → entries_of (messages_of es w) ≡ es
unfolding total_left
entries-messages [] w h = refl
entries-messages (e ∷ es) w h =
    ap₂ (λ (x : Entry) (xs : List Entry). x ∷ xs) (ap (λ (k : ℕ). entry_of k e.class e.label) (length-take-le e.left w (omega arith)))
    (entries-messages es (drop e.left w) (omega (arith, length-drop e.left w)))

bytes-messages : (es : List Entry) (w : List ℕ) → total_left es ≡ length w → message_bytes (messages_of es w) ≡ w
unfolding total_left
bytes-messages [] [] h = refl
bytes-messages [] (x ∷ w) h = absurd (omega arith)
bytes-messages (e ∷ es) w h = ap (λ (r : List ℕ). take e.left w ++ r) (bytes-messages es (drop e.left w) (omega (arith, length-drop e.left w))) ∙ take-append-drop e.left w

drop-take : (k n : ℕ) (w : List ℕ) → k ≤ n → drop k (take n w) ≡ take (n - k) (drop k w)
drop-take zero n w h = rw sub-zero
drop-take (suc k) zero w h = absurd (omega arith)
drop-take (suc k) (suc n) [] h = sym (take_none (suc n - suc k))
  where
    take_none : (j : ℕ) → take {A = ℕ} j [] ≡ []
    take_none zero = refl
    take_none (suc j) = refl
drop-take (suc k) (suc n) (x ∷ w) h = drop-take k n w (omega arith) ∙ ap (λ (j : ℕ). take j (drop k w)) (let e : n - k ≡ suc n - suc k = omega arith in e)

-- bytes behind those of the entries don't matter
messages-take : (es : List Entry) (n : ℕ) (w : List ℕ) → total_left es ≤ n → messages_of es (take n w) ≡ messages_of es w
unfolding total_left
messages-take [] n w h = refl
messages-take (e ∷ es) n w h =
    ap₂ (λ (bs : List ℕ) (ms : List Message). record { class = e.class; label = e.label; bytes = bs } ∷ ms) (take-take e.left n w (omega arith))
    (ap (messages_of es) (drop-take e.left n w (omega arith)) ∙ messages-take es (n - e.left) (drop e.left w) (omega arith))

messages-entries : (ms : List Message) → messages_of (entries_of ms) (message_bytes ms) ≡ ms
messages-entries [] = refl
messages-entries (x ∷ ms) =
    ap₂ (λ (bs : List ℕ) (xs : List Message). record { class = x.class; label = x.label; bytes = bs } ∷ xs) (take_at x.bytes (message_bytes ms) (length x.bytes) refl)
    (ap (messages_of (entries_of ms)) (drop_at x.bytes (message_bytes ms) (length x.bytes) refl) ∙ messages-entries ms)

-- ---- a queuing

abbrev entry : Message → Entry
entry x = entry_of (length x.bytes) x.class x.label

entries-insert : (x : Message) (ms : List Message) → entries_of (insert_by_class x ms) ≡ insert_entry (entry x) (entries_of ms)
entries-insert x [] = refl
entries-insert x (m ∷ ms) =
    by₂ (λ (xs : List Message) (es : List Entry). entries_of xs ≡ es) (leb m.class x.class) (λ _. ap (λ (es : List Entry). entry m ∷ es) (entries-insert x ms)) (λ _. refl)

entries-placed : (x : Message) (b : Bool) (ms : List Message) → entries_of (first_if_begun b ms ++ insert_by_class x (behind b ms)) ≡ placed (entry x) b (entries_of ms)
entries-placed x false ms = entries-insert x ms
entries-placed x true [] = refl
entries-placed x true (m ∷ ms) = ap (λ (es : List Entry). entry m ∷ es) (entries-insert x ms)

-- what `place` finds, behind r messages of y bytes; and behind m
abbrev found : Message → ℕ → ℕ → Bool → List Message → Position
found x r y b ms = place_in x.class r y b (entries_of ms)

abbrev past : Message → Message → List Message → ℕ → ℕ → Position
past x m ms r y = found x (r + 1) (y + length m.bytes) false ms

-- bs put in behind the first k
abbrev put_bytes : ℕ → List ℕ → List ℕ → List ℕ
put_bytes k bs w = take k w ++ (bs ++ drop k w)

put-bytes : (pre w bs : List ℕ) (k : ℕ) → length pre ≡ k → pre ++ (bs ++ w) ≡ put_bytes k bs (pre ++ w)
put-bytes pre w bs k e = ap₂ (λ (u v : List ℕ). u ++ (bs ++ v)) (sym (take_at pre w k e)) (sym (drop_at pre w k e))

bytes_past : (bs u v pre : List ℕ) (w : List ℕ) (k : ℕ) → (pre ++ u) ++ v ≡ put_bytes k bs ((pre ++ u) ++ w) → pre ++ (u ++ v) ≡ put_bytes k bs (pre ++ (u ++ w))
bytes_past bs u v pre w k e = sym (append_assoc pre u v) ∙ e ∙ ap (put_bytes k bs) (append_assoc pre u w)

bytes-goes : (x : Message) (ms : List Message) (pre : List ℕ) (r y : ℕ) (b : Bool) → length pre ≡ y →
    pre ++ message_bytes (first_if_begun b ms ++ insert_by_class x (behind b ms)) ≡ put_bytes (found x r y b ms).bytes x.bytes (pre ++ message_bytes ms)
unfolding place_in
bytes-goes x [] pre r y true e = put-bytes pre [] x.bytes y e
bytes-goes x [] pre r y false e = put-bytes pre [] x.bytes y e
bytes-goes x (m ∷ ms) pre r y true e =
    bytes_past x.bytes m.bytes (message_bytes (insert_by_class x ms)) pre (message_bytes ms) (past x m ms r y).bytes (bytes-goes x ms (pre ++ m.bytes) (r + 1) (y + length m.bytes) false (omega (arith, length-append pre m.bytes, e)))
bytes-goes x (m ∷ ms) pre r y false e =
    by₂ (λ (p : Position) (xs : List Message). pre ++ message_bytes xs ≡ put_bytes p.bytes x.bytes (pre ++ (m.bytes ++ message_bytes ms))) (leb m.class x.class)
    (λ _. bytes_past x.bytes m.bytes (message_bytes (insert_by_class x ms)) pre (message_bytes ms) (past x m ms r y).bytes (bytes-goes x ms (pre ++ m.bytes) (r + 1) (y + length m.bytes) false (omega (arith, length-append pre m.bytes, e))))
    (λ _. put-bytes pre (m.bytes ++ message_bytes ms) x.bytes y e)

-- ---- a burst

abbrev line_of : Queue → EntryQueue
line_of q = record { begun = q.begun; entries = entries_of q.messages }

line-flies : (k : ℕ) (b : Bool) (ms : List Message) → line_of (flies_from k b ms) ≡ flown_from k b (entries_of ms)
line-flies k b [] = refl
line-flies k b (m ∷ ms) =
    by₂ (λ (q : Queue) (x : EntryQueue). line_of q ≡ x) (eqb k 0) (λ _. refl)
    (λ _.
    by₂ (λ (q : Queue) (x : EntryQueue). line_of q ≡ x) (leb (length m.bytes) k) (λ _. line-flies (k - length m.bytes) false ms)
    (λ _. ap (λ (j : ℕ). record { begun = true; entries = entry_of j m.class m.label ∷ entries_of ms }) (length-drop k m.bytes)))

length-flies : (k : ℕ) (b : Bool) (ms : List Message) → length (flies_from k b ms).messages ≤ length ms
length-flies k b [] = omega arith
length-flies k b (m ∷ ms) =
    by (λ (q : Queue). length q.messages ≤ suc (length ms)) (eqb k 0) (λ _. omega arith)
    (λ _. by (λ (q : Queue). length q.messages ≤ suc (length ms)) (leb (length m.bytes) k) (λ _. omega (arith, length-flies (k - length m.bytes) false ms)) (λ _. omega arith))

-- ---- a withdrawal

module _ (f : ℕ → Bool) where
  entries-those : (ms : List Message) → entries_of (those (λ (x : Message). f x.label) ms) ≡ those (λ (e : Entry). f e.label) (entries_of ms)
  entries-those [] = refl
  entries-those (m ∷ ms) =
      by₂ (λ (xs : List Message) (es : List Entry). entries_of xs ≡ es) (f m.label) (λ _. ap (λ (es : List Entry). entry m ∷ es) (entries-those ms)) (λ _. entries-those ms)

entries-go : (l : ℕ) (b : Bool) (ms : List Message) → entries_of (those (λ (x : Message). withdraws l x.label) (behind b ms)) ≡ go_in l b (entries_of ms)
entries-go l false ms = entries-those (withdraws l) ms
entries-go l true [] = refl
entries-go l true (m ∷ ms) = entries-those (withdraws l) ms

entries-stay : (l : ℕ) (b : Bool) (ms : List Message) → entries_of (first_if_begun b ms ++ those (λ (x : Message). not (withdraws l x.label)) (behind b ms)) ≡ stay_in l b (entries_of ms)
entries-stay l false ms = entries-those (λ (k : ℕ). not (withdraws l k)) ms
entries-stay l true [] = refl
entries-stay l true (m ∷ ms) = ap (λ (es : List Entry). entry m ∷ es) (entries-those (λ (k : ℕ). not (withdraws l k)) ms)

total-entries : (ms : List Message) → total_left (entries_of ms) ≡ length (message_bytes ms)
unfolding total_left
total-entries [] = refl
total-entries (m ∷ ms) = omega (arith, total-entries ms, length-append m.bytes (message_bytes ms))

stay_all : (l : ℕ) → l ≡ 0 → (ms : List Message) → those (λ (x : Message). not (withdraws l x.label)) ms ≡ ms
stay_all l e ms = ap (λ (k : ℕ). those (λ (x : Message). not (withdraws k x.label)) ms) e ∙ go ms
  where
    go : (xs : List Message) → those (λ (x : Message). not (withdraws 0 x.label)) xs ≡ xs
    go [] = refl
    go (x ∷ xs) = ap (λ (ys : List Message). x ∷ ys) (go xs)

-- A QUEUING IN TWO STEPS: those that its label withdraws go, and the new one is put in
module _ (c l b : ℕ) (bs : List ℕ) (q : Queue) where
  abbrev new : Message
  new = record { class = c; label = l; bytes = b ∷ bs }

  pub enqueue-steps : enqueue c l (b ∷ bs) q ≡ put_queue new (stay_queue l q)
  unfolding enqueue
  enqueue-steps = go q.begun q.messages
    where
      go : (f : Bool) (ms : List Message) → enqueue c l (b ∷ bs) (record { begun = f; messages = ms }) ≡ put_queue new (stay_queue l (record { begun = f; messages = ms }))
      go false ms = refl
      go true [] = refl
      go true (m ∷ ms) = refl

  -- without a label none goes
  pub enqueue-step : l ≡ 0 → enqueue c l (b ∷ bs) q ≡ put_queue new q
  unfolding enqueue
  enqueue-step e =
      ap (λ (ms : List Message). record { begun = q.begun; messages = first_if_begun q.begun q.messages ++ insert_by_class new ms }) (stay_all l e (behind q.begun q.messages))

-- ---- the record and the waiting bytes

length-messages : (es : List Entry) (w : List ℕ) → length (messages_of es w) ≡ length es
length-messages [] w = refl
length-messages (e ∷ es) w = ap suc (length-messages es (drop e.left w))

rows : (m : Messages) (w : List ℕ) → length (queue_in m w).messages ≡ m.n
unfolding queue_in
rows m w = length-messages (entries_in m) w ∙ length-entries m 0 m.n

-- A MESSAGE THAT HAS BEGUN IS THERE
pub ready-shown : (m : Messages) (w : List ℕ) → Ready (queue_in m w)
unfolding queue_in
ready-shown m w = λ f. let h = ltb-true 0 m.n (and_second m.begun _ f) in omega (arith, length-messages (entries_in m) w, length-entries m 0 m.n)

begun-some : (b : Bool) (n : ℕ) → (b ≡ true → 1 ≤ n) → (b && ltb 0 n) ≡ b
begun-some true n r = lt-ltb 0 n (r refl)
begun-some false n r = refl

-- WHAT IS STORED IS SHOWN
pub queue-stored : (q : Queue) (m : Messages) → Sized m → Ready q → length q.messages ≤ max_messages → queue_in (store_queue q m) (goes q) ≡ q
unfolding queue_in store_queue store_entries
queue-stored q m s r h =
    let es = entries_of q.messages in
    let n = length-map q.messages entry in
    ap₂ (λ (b : Bool) (ms : List Message). record { begun = b; messages = ms }) (begun-some q.begun (length es) (λ f. omega (arith, n, r f)))
    (ap (λ (xs : List Entry). messages_of xs (goes q)) (entries-stored m s q.begun es (omega (arith, n))) ∙ messages-entries q.messages)

pub queue-take : (m : Messages) (n : ℕ) (w : List ℕ) → total_left (entries_in m) ≤ n → queue_in m (take n w) ≡ queue_in m w
unfolding queue_in
queue-take m n w h = ap (λ (ms : List Message). record { begun = begun_in m; messages = ms }) (messages-take (entries_in m) n w h)

-- the bytes withdrawn don't matter to what is shown
pub queue-with : (k : ℕ) (m : Messages) (w : List ℕ) → queue_in (with_withdrawn k m) w ≡ queue_in m w
unfolding queue_in
queue-with k m w = ap (λ (es : List Entry). record { begun = begun_in m; messages = messages_of es w }) (entries-withdrawn k m)

ready-stay : (l : ℕ) (q : Queue) → Ready q → Ready (stay_queue l q)
ready-stay l q r = go q.begun q.messages r
  where
    go : (b : Bool) (ms : List Message) → (b ≡ true → 1 ≤ length ms) → b ≡ true → 1 ≤ length (stay_queue l (record { begun = b; messages = ms })).messages
    go false ms r e = absurd (false≢true e)
    go true [] r e = let z = r e in absurd (omega arith)
    go true (m ∷ ms) r e = omega arith

-- STORING TWICE IS STORING ONCE, where the second are no fewer
store-twice : (k : ℕ) (p q : Queue) (m : Messages) → length p.messages ≤ length q.messages →
    store_queue q (with_withdrawn k (store_queue p m)) ≡ with_withdrawn k (store_queue q m)
unfolding store_queue store_entries
store-twice k p q m h =
    let n : List Message → ℕ = λ ms. length (entries_of ms) in
    let over : (xs : List ℕ) (f : Entry → ℕ) → overwrite (overwrite xs 0 (map f (entries_of p.messages))) 0 (map f (entries_of q.messages)) ≡ overwrite xs 0 (map f (entries_of q.messages)) =
    λ xs f. over-over xs 0 (map f (entries_of p.messages)) (map f (entries_of q.messages))
    (omega (arith, length-map (entries_of p.messages) f, length-map (entries_of q.messages) f, length-map p.messages entry, length-map q.messages entry)) in
    λ j.
    record {
      left = over m.left (λ (e : Entry). e.left) j;
      class = over m.class (λ (e : Entry). e.class) j;
      label = over m.label (λ (e : Entry). e.label) j;
      n = length (entries_of q.messages);
      withdrawn = k;
      begun = q.begun;
    }

module _ (m : Messages) (w : List ℕ) (sum : total_left (entries_in m) ≡ length w) where
  -- the waiting bytes are the queue's, in its order
  pub shown : goes (queue_in m w) ≡ w
  unfolding queue_in
  shown = bytes-messages (entries_in m) w sum

  entries-shown : entries_of (queue_in m w).messages ≡ entries_in m
  unfolding queue_in
  entries-shown = entries-messages (entries_in m) w (omega arith)

  module _ (x : Message) where
    abbrev p : Position
    p = place_in x.class 0 0 m.begun (entries_in m)

    at-begun : p ≡ place_in x.class 0 0 (begun_in m) (entries_in m)
    unfolding place_in
    at-begun = with-begun (place_in x.class 0 0) refl m

    same : found x 0 0 (begun_in m) (queue_in m w).messages ≡ p
    same = ap (place_in x.class 0 0 (begun_in m)) entries-shown ∙ sym at-begun

    -- A MESSAGE PUT IN: its bytes go in where `place` says, and `messages::insert` there stores what the ledger's queue then is
    pub goes-place : goes (put_queue x (queue_in m w)) ≡ put_bytes p.bytes x.bytes w
    unfolding queue_in
    goes-place =
        bytes-goes x (queue_in m w).messages [] 0 0 (begun_in m) refl
        ∙ ap₂ (λ (y : Position) (v : List ℕ). put_bytes y.bytes x.bytes v) same shown

    insert-entries : insert_row p.row (entry x) (entries_in m) ≡ entries_of (put_queue x (queue_in m w)).messages
    unfolding queue_in
    insert-entries =
        ap (λ (y : Position). insert_row y.row (entry x) (entries_in m)) at-begun
        ∙ row-placed (entry x) (entries_in m) [] 0 0 (begun_in m) refl ∙ ap (placed (entry x) (begun_in m)) (sym entries-shown) ∙ sym (entries-placed x (begun_in m) (queue_in m w).messages)

    pub insert-stores : store_entries (begun_in m) (insert_row p.row (entry x) (entries_in m)) m ≡ store_queue (put_queue x (queue_in m w)) m
    unfolding queue_in store_queue
    insert-stores = ap (λ (es : List Entry). store_entries (begun_in m) es m) insert-entries

    pub length-put : length (put_queue x (queue_in m w)).messages ≡ m.n + 1
    length-put =
        let q = put_queue x (queue_in m w) in
        omega (arith, length-map q.messages entry, ap length insert-entries, length-insert p.row (entry x) (entries_in m), length-entries m 0 m.n)

  -- A WITHDRAWAL: `withdraw` stores what the ledger's queue then is
  module _ (l : ℕ) where
    abbrev q : Queue
    q = queue_in m w

    -- the bytes withdrawn
    abbrev sums : ℕ
    sums = m.withdrawn + length (message_bytes (withdrawn_by l q))

    go-shown : entries_of (withdrawn_by l q) ≡ go_in l (begun_in m) (entries_in m)
    unfolding queue_in
    go-shown = entries-go l (begun_in m) q.messages ∙ ap (go_in l (begun_in m)) entries-shown

    stay-shown : entries_of (stay_queue l q).messages ≡ stay_in l (begun_in m) (entries_in m)
    unfolding queue_in
    stay-shown = entries-stay l (begun_in m) q.messages ∙ ap (stay_in l (begun_in m)) entries-shown

    bytes-gone : total_left (go_in l (begun_in m) (entries_in m)) ≡ length (message_bytes (withdrawn_by l q))
    bytes-gone = ap total_left (sym go-shown) ∙ total-entries (withdrawn_by l q)

    -- how many bytes a queuing supersedes
    pub superseded-bytes : (bs : List ℕ) → length (message_bytes (superseded l bs q)) ≡ total_left (withdrawn_in l (length bs) m)
    unfolding superseded withdrawn_in total_left
    superseded-bytes [] = refl
    superseded-bytes (b ∷ bs) = sym (ap total_left (gone-in l (length (b ∷ bs)) m (omega arith)) ∙ bytes-gone)

    pub bytes-stay : total_left (stay_in l (begun_in m) (entries_in m)) ≡ length (goes (stay_queue l q))
    bytes-stay = ap total_left (sym stay-shown) ∙ total-entries (stay_queue l q).messages

    rows_stay : length (stay_in l (begun_in m) (entries_in m)) ≡ length (stay_queue l q).messages
    rows_stay = ap length (sym stay-shown) ∙ length-map (stay_queue l q).messages entry

    pub withdraw-stores : withdrawn l m ≡ with_withdrawn sums (store_queue (stay_queue l q) m)
    unfolding withdrawn store_queue queue_in
    withdraw-stores = λ k. with_withdrawn (m.withdrawn + bytes-gone k) (store_entries (begun_in m) (sym stay-shown k) m)

    module _ (z : Sized m) (most : m.n ≤ max_messages) where
      few-stay : length (stay_queue l q).messages ≤ max_messages
      few-stay = omega (arith, rows_stay, (stay-go l (begun_in m) (entries_in m)).0, length-entries m 0 m.n)

      pub withdraw-shows : queue_in (withdrawn l m) (goes (stay_queue l q)) ≡ stay_queue l q
      withdraw-shows =
          ap (λ (x : Messages). queue_in x (goes (stay_queue l q))) withdraw-stores ∙ queue-with sums (store_queue (stay_queue l q) m) (goes (stay_queue l q))
          ∙ queue-stored (stay_queue l q) m z (ready-stay l q (ready-shown m w)) few-stay

      pub withdraw-sum : total_left (entries_in (withdrawn l m)) ≡ length (goes (stay_queue l q))
      unfolding withdrawn
      withdraw-sum =
          ap total_left
          (entries-withdrawn sums (store_entries (begun_in m) (stay_in l (begun_in m) (entries_in m)) m)
          ∙ entries-stored m z (begun_in m) (stay_in l (begun_in m) (entries_in m)) (omega (arith, rows_stay, few-stay)))
          ∙ bytes-stay

  -- A BURST: the first k waiting bytes go, and `fly` stores what the ledger's queue then is
  pub goes-fly : (k : ℕ) → goes (flies k (queue_in m w)) ≡ drop k w
  goes-fly k = goes-flies k (queue_in m w) ∙ ap (drop k) shown

  pub fly-stores : (k : ℕ) → flown k m ≡ store_queue (flies k (queue_in m w)) m
  unfolding flown flies queue_in store_queue
  fly-stores k =
      ap (λ (x : EntryQueue). store_entry_queue x m)
      (with-begun (flown_from k) refl m ∙ ap (flown_from k (begun_in m)) (sym entries-shown) ∙ sym (line-flies k (begun_in m) (queue_in m w).messages))

  pub fly-shows : Sized m → m.n ≤ max_messages → (k : ℕ) → queue_in (flown k m) (drop k w) ≡ flies k (queue_in m w)
  unfolding flies queue_in
  fly-shows z most k =
      let q = flies k (queue_in m w) in
      let few : length q.messages ≤ max_messages =
      omega (arith, length-map q.messages entry, length-flies k (begun_in m) (queue_in m w).messages, length-map (queue_in m w).messages entry, ap length entries-shown, length-entries m 0 m.n) in
      ap₂ queue_in (fly-stores k) (sym (goes-fly k)) ∙ queue-stored q m z (ready-flies k (queue_in m w)) few

-- A MESSAGE PUT IN AFTER A WITHDRAWAL
module _ (m : Messages) (w : List ℕ) (sum : total_left (entries_in m) ≡ length w) (z : Sized m) (most : m.n ≤ max_messages) (l : ℕ) (x : Message) where
  -- the queue where those that label l withdraws are gone, and the record that holds it
  abbrev stay : Queue
  stay = stay_queue l (queue_in m w)

  abbrev left : Messages
  left = withdrawn l m

  abbrev spot : Position
  spot = place_in x.class 0 0 left.begun (entries_in left)

  shows : queue_in left (goes stay) ≡ stay
  shows = withdraw-shows m w sum l z most

  now-sum : total_left (entries_in left) ≡ length (goes stay)
  now-sum = withdraw-sum m w sum l z most

  pub goes-again : goes (put_queue x stay) ≡ put_bytes spot.bytes x.bytes (goes stay)
  goes-again = ap (λ (y : Queue). goes (put_queue x y)) (sym shows) ∙ goes-place left (goes stay) now-sum x

  pub length-again : length (put_queue x stay).messages ≡ left.n + 1
  length-again = ap (λ (y : Queue). length (put_queue x y).messages) (sym shows) ∙ length-put left (goes stay) now-sum x

  pub stores-again : store_entries (begun_in left) (insert_row spot.row (entry x) (entries_in left)) left
      ≡ with_withdrawn (m.withdrawn + length (message_bytes (withdrawn_by l (queue_in m w)))) (store_queue (put_queue x stay) m)
  stores-again =
      insert-stores left (goes stay) now-sum x ∙ ap (λ (y : Queue). store_queue (put_queue x y) left) shows
      ∙ ap (store_queue (put_queue x stay)) (withdraw-stores m w sum l)
      ∙ store-twice _ stay (put_queue x stay) m (omega (arith, length-again, rows_left))
    where
      rows_left : length stay.messages ≡ left.n
      rows_left = ap (λ (y : Queue). length y.messages) (sym shows) ∙ rows left (goes stay)
