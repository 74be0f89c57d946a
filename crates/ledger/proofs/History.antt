-- The tally alone: each message queued has begun, waits or was withdrawn, the flown bytes and what is left of the begun one are the begun
-- messages, and the others wait in order.
-- Assumes nothing.
use Prim.Native.Nat.{ℕ, suc, ◌+◌, ◌-◌, ◌≤◌}
use mathlib.Core.Path.{◌≡◌, refl, sym, ap, subst, ◌∙◌}
use mathlib.Core.Bool.{Bool, cond}
use mathlib.Core.List.{List, [], ◌∷◌, ◌++◌, map, append_assoc, append-nil}
use native.Mathlib.Omega.{arith}
use lib.Dec.{eqb}
use lib.ListN.{length, take, drop, take-append-drop, length-append, length-map, length-take, length-drop}
use Rattle.laws.proofs.Picks.{either}
use Rattle.laws.proofs.Lists.{map-map, map-id, map-append}
use Rattle.ledger.specs.Reply.{Reply}
use Rattle.ledger.specs.Ledger.{Frame}
use Rattle.ledger.specs.Tally.{unacked, byte_of, acknowledge, Flown, acknowledge_all, acknowledged_by, Outstanding, nothing, outstanding, Tally, Event, feed, messages_told, queued, sent_out, heard, turn, none_outstanding, silent, took, reply, replies, went, heard_all, furthest, start}
use Rattle.ledger.specs.Queue.{Message, message_bytes, goes, behind, rest, message, count_those, of_class, withdraws, Ascending, Sublist}
use Rattle.ledger.specs.Queue.{enqueue, superseded, flies, begins}
use Rattle.ledger.specs.Calls.{tally, history}
use Rattle.ledger.proofs.Queue.{Ready, bytes-append, length-bytes-append, count-append, of-append}
use Rattle.ledger.proofs.Queue.{sublist-same, sublist-append, sublist-trans}
use Rattle.ledger.proofs.Queue.{ready-enqueue, order-enqueue, rest-enqueue, length-enqueue, count-enqueue, of-enqueue, newest-enqueue}
use Rattle.ledger.proofs.Queue.{ready-flies, order-flies, rest-flies, goes-flies, begins-behind, count-flies}

bytes-unacked : (bs : List ℕ) → map byte_of (unacked bs) ≡ bs
bytes-unacked bs = map-map byte_of _ bs ∙ map-id bs

bytes-acknowledge : (o l k : ℕ) (fl : List Flown) → map byte_of (acknowledge o l k fl) ≡ map byte_of fl
bytes-acknowledge o l k [] = refl
bytes-acknowledge o l k (f ∷ fl) = rw (bytes-acknowledge o l (suc k) fl)

bytes-acknowledge_all : (b : ℕ → Bool) (i : ℕ) (fs : List Frame) (fl : List Flown) → map byte_of (acknowledge_all b i fs fl) ≡ map byte_of fl
bytes-acknowledge_all b i [] fl = refl
bytes-acknowledge_all b i (f ∷ fs) fl =
    bytes-acknowledge_all b (suc i) fs (cond (b i) (acknowledge f.off f.len 0 fl) fl)
    ∙ either (λ (x : List Flown). map byte_of x ≡ map byte_of fl) (b i) _ _ (bytes-acknowledge f.off f.len 0 fl) refl

bytes-answered : (r : Reply) (out : Outstanding) (fl : List Flown) → map byte_of (acknowledged_by r out fl) ≡ map byte_of fl
bytes-answered r nothing fl = refl
bytes-answered r (outstanding n fs) fl =
    either (λ (x : List Flown). map byte_of x ≡ map byte_of fl) (eqb r.number n) _ _ (bytes-acknowledge_all (r.bit (length fs)) 0 fs fl) refl

-- ---- what the tally alone says after the messages ms were queued

pub record Told (ms : List Message) (t : Tally) : Type 0 where
  pub ready : Ready t.queue
  pub order : Ascending 0 (behind t.queue.begun t.queue.messages)
  pub taken : t.taken ≡ length (message_bytes ms)
  pub sum : t.taken ≡ length (goes t.queue) + length t.flown + length (message_bytes t.withdrawn)
  pub each : (p : Message → Bool) →
      count_those p ms ≡ count_those p t.began + count_those p (behind t.queue.begun t.queue.messages) + count_those p t.withdrawn
  pub earliest : (c : ℕ) → Sublist (of_class c t.began ++ of_class c (behind t.queue.begun t.queue.messages)) (of_class c ms)
  pub newest : (l : ℕ) → count_those (λ (m : Message). withdraws l m.label) (behind t.queue.begun t.queue.messages) ≤ 1
  pub history : map byte_of t.flown ++ rest t.queue ≡ message_bytes t.began

start-told : Told [] start
start-told =
    record {
      ready = λ f. let z : ◌≡◌ {A = ℕ} 0 1 = cc in absurd (omega arith);
      order = tt;
      taken = refl;
      sum = refl;
      each = λ p. refl;
      earliest = λ c. refl;
      newest = λ l. omega arith;
      history = refl;
    }

message-bytes : (c l : ℕ) (bs : List ℕ) → message_bytes (message c l bs) ≡ bs
message-bytes c l [] = refl
message-bytes c l (b ∷ bs) = append-nil (b ∷ bs)

-- nothing is queued, and nothing begins to fly
module _ (ms : List Message) (t u : Tally) (e₁ : u.taken ≡ t.taken) (e₂ : u.queue ≡ t.queue) (e₃ : u.began ≡ t.began)
    (e₄ : u.withdrawn ≡ t.withdrawn) (e₅ : map byte_of u.flown ≡ map byte_of t.flown) where
  same : Told ms t → Told (ms ++ []) u
  same k =
      rw append-nil
      (record {
        ready = rw e₂ k.ready;
        order = rw e₂ k.order;
        taken = e₁ ∙ k.taken;
        sum = rw (e₁, e₂, e₄) (omega (arith, k.sum, ap length e₅, length-map u.flown byte_of, length-map t.flown byte_of));
        each = λ p. rw (e₂, e₃, e₄) (k.each p);
        earliest = λ c. rw (e₂, e₃) (k.earliest c);
        newest = λ l. rw e₂ (k.newest l);
        history = rw (e₂, e₃, e₅) k.history;
      })

module _ (ms : List Message) (t : Tally) (k : Told ms t) where
  took-told : (c l : ℕ) (bs : List ℕ) → Told (ms ++ message c l bs) (queued c l bs t)
  unfolding queued
  took-told c l bs =
      let q = t.queue in
      let new = message c l bs in
      let gone = superseded l bs q in
      record {
        ready = ready-enqueue c l q bs k.ready;
        order = order-enqueue c l q bs k.ready k.order;
        taken = omega (arith, k.taken, length-bytes-append ms new, ap length (message-bytes c l bs));
        sum = omega (arith, k.sum, length-enqueue c l q bs, length-bytes-append t.withdrawn gone);
        each = λ p. omega (arith, k.each p, count-append p ms new, count-enqueue c l q p bs k.ready, count-append p t.withdrawn gone);
        earliest = λ d.
            let one = of_class d new in
            let old = of_class d t.began in
            let late = of_class d (behind q.begun q.messages) in
            let now = of_class d (behind (enqueue c l bs q).begun (enqueue c l bs q).messages) in
            subst (Sublist (old ++ now)) (sym (of-append d ms new))
            (sublist-trans (old ++ now) ((old ++ late) ++ one) (of_class d ms ++ one)
            (subst (Sublist (old ++ now)) (sym (append_assoc old late one))
            (sublist-append old old now (late ++ one) (sublist-same old) (of-enqueue c l q d bs k.ready k.order)))
            (sublist-append (old ++ late) (of_class d ms) one one (k.earliest d) (sublist-same one)));
        newest = λ n. newest-enqueue c l q n bs k.ready (k.newest n);
        history = rw (rest-enqueue c l q bs k.ready) k.history;
      }

  went-told : (n : ℕ) (fs : List Frame) → Told (ms ++ []) (sent_out n fs t)
  unfolding sent_out
  went-told n fs =
      let j = furthest fs - length t.flown in
      let q = t.queue in
      let fl = map byte_of t.flown in
      let went = take j (goes q) in
      let late = behind (flies j q).begun (flies j q).messages in
      rw append-nil
      (record {
        ready = ready-flies j q;
        order = order-flies j q k.order;
        taken = k.taken;
        sum =
            omega (
              arith,
              k.sum,
              ap length (goes-flies j q),
              length-drop j (goes q),
              length-append t.flown (unacked went),
              ap length (bytes-unacked went),
              length-map (unacked went) byte_of,
              length-take j (goes q),
            );
        each = λ p. omega (arith, k.each p, count-append p t.began (begins j q), count-flies p j q);
        earliest = λ c.
            subst (λ (xs : List Message). Sublist xs (of_class c ms))
            (ap (λ (x : List Message). of_class c t.began ++ of_class c x) (sym (begins-behind j q))
            ∙ ap (λ (x : List Message). of_class c t.began ++ x) (of-append c (begins j q) late)
            ∙ sym (append_assoc (of_class c t.began) (of_class c (begins j q)) (of_class c late))
            ∙ ap (λ (x : List Message). x ++ of_class c late) (sym (of-append c t.began (begins j q))))
            (k.earliest c);
        newest = λ l. omega (arith, k.newest l, count-flies (λ (m : Message). withdraws l m.label) j q);
        history =
            ap (λ (x : List ℕ). x ++ rest (flies j q))
            (map-append byte_of t.flown (unacked went) ∙ ap (λ (x : List ℕ). fl ++ x) (bytes-unacked went))
            ∙ append_assoc fl went (rest (flies j q)) ∙ ap (λ (x : List ℕ). fl ++ x) (rest-flies j q)
            ∙ sym (append_assoc fl (rest q) (message_bytes (begins j q)))
            ∙ ap (λ (x : List ℕ). x ++ message_bytes (begins j q)) k.history ∙ sym (bytes-append t.began (begins j q));
      })

heard-told : (r : Reply) (ms : List Message) (t : Tally) → Told ms t → Told (ms ++ []) (heard r t)
unfolding heard
heard-told r ms t k = same ms t (heard r t) refl refl refl refl (bytes-answered r t.out t.flown) k

replies-told : (rs : List Reply) (ms : List Message) (t : Tally) → Told ms t → Told (ms ++ []) (heard_all rs t)
replies-told [] ms t k = same ms t t refl refl refl refl refl k
replies-told (r ∷ rs) ms t k = replies-told rs ms (heard r t) (subst (λ (x : List Message). Told x (heard r t)) (append-nil ms) (heard-told r ms t k))

fed : (e : Event) (ms : List Message) (t : Tally) → Told ms t → Told (ms ++ messages_told e) (feed e t)
unfolding none_outstanding
fed silent ms t k = same ms t t refl refl refl refl refl k
fed (took c l bs) ms t k = took-told ms t k c l bs
fed (reply r) ms t k = heard-told r ms t k
fed (replies rs) ms t k = replies-told rs ms t k
fed turn ms t k = same ms t (none_outstanding t) refl refl refl refl refl k
fed (went n fs) ms t k = went-told ms t k n fs

module _ {C I : Type 0} (next : I → C → C) (told : I → C → Event) where
  fed-all : (is : List I) (c : C) (ms : List Message) (t : Tally) → Told ms t → Told (ms ++ history next told is c) (tally next told is c t)
  fed-all [] c ms t k = rw append-nil k
  fed-all (i ∷ is) c ms t k =
      subst (λ (x : List Message). Told x (tally next told is (next i c) (feed (told i c) t))) (append_assoc ms (messages_told (told i c)) (history next told is (next i c)))
      (fed-all is (next i c) (ms ++ messages_told (told i c)) (feed (told i c) t) (fed (told i c) ms t k))

  -- no message is lost, doubled, altered or broken into
  pub told_is : (is : List I) (c : C) → Told (history next told is c) (tally next told is c start)
  told_is is c = fed-all is c [] start start-told
