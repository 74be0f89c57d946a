-- Messages of a single class: a new one without a label goes last and withdraws none, and queuings and bursts keep the class.
-- Assumes nothing.
use Prim.Native.Nat.{ℕ, ◌-◌}
use mathlib.Core.Path.{◌≡◌, refl, sym, ap, ◌∙◌}
use mathlib.Core.Bool.{Bool, true, false, not}
use mathlib.Core.List.{List, [], ◌∷◌, ◌++◌, append_assoc, append-nil}
use native.Mathlib.Omega.{arith}
use lib.Dec.{leb, eqb}
use lib.ListN.{length}
use borrow.Author.Tests.{le-leb}
use Rattle.laws.proofs.Picks.{by}
use Rattle.ledger.specs.Queue.{Message, Queue, message_bytes, goes, insert_by_class, first_if_begun, behind, those, withdraws, enqueue, superseded}
use Rattle.ledger.specs.Queue.{flies_from, flies}
use Rattle.ledger.proofs.Queue.{bytes-append, first-behind}

abbrev pub AllOf : ℕ → List Message → Type 0
AllOf c [] = Unit {0}
AllOf c (m ∷ ms) = (m.class ≡ c) × AllOf c ms

insert-last : (c : ℕ) (m : Message) (ms : List Message) → m.class ≡ c → AllOf c ms → insert_by_class m ms ≡ ms ++ (m ∷ [])
insert-last c m [] e h = refl
insert-last c m (x ∷ xs) e h = rw (le-leb x.class m.class (omega (arith, h.0, e)), insert-last c m xs e h.1)

behind-all : (c : ℕ) (b : Bool) (ms : List Message) → AllOf c ms → AllOf c (behind b ms)
behind-all c false ms h = h
behind-all c true [] h = tt
behind-all c true (x ∷ xs) h = h.1

-- "0 is no label"
stays_all : (ms : List Message) → those (λ (m : Message). not (withdraws 0 m.label)) ms ≡ ms
stays_all [] = refl
stays_all (x ∷ xs) = ap (λ (ms : List Message). x ∷ ms) (stays_all xs)

withdrawn-none : (ms : List Message) → those (λ (m : Message). withdraws 0 m.label) ms ≡ []
withdrawn-none [] = refl
withdrawn-none (x ∷ xs) = withdrawn-none xs

pub superseded-none : (bs : List ℕ) (q : Queue) → superseded 0 bs q ≡ []
unfolding superseded
superseded-none [] q = refl
superseded-none (b ∷ bs) q = withdrawn-none (behind q.begun q.messages)

pub single : (c : ℕ) (bs : List ℕ) (q : Queue) → AllOf c q.messages → goes (enqueue c 0 bs q) ≡ goes q ++ bs
unfolding enqueue
single c [] q h = sym (append-nil (goes q))
single c (b ∷ bs) q h =
    let m : Message = record { class = c; label = 0; bytes = b ∷ bs } in
    let f = first_if_begun q.begun q.messages in
    let r = behind q.begun q.messages in
    rw (stays_all r, insert-last c m r refl (behind-all c q.begun q.messages h))
    (rw (bytes-append f (r ++ (m ∷ [])), bytes-append r (m ∷ []))
    (sym (append_assoc (message_bytes f) (message_bytes r) (message_bytes (m ∷ []))) ∙ rw (← bytes-append f r, first-behind q.begun q.messages, append-nil (b ∷ bs))))

-- ---- a single class stays one

insert_all : (c : ℕ) (m : Message) (ms : List Message) → m.class ≡ c → AllOf c ms → AllOf c (insert_by_class m ms)
insert_all c m [] e h = (e, tt)
insert_all c m (x ∷ xs) e h = by (AllOf c) (leb x.class m.class) (λ _. (h.0, insert_all c m xs e h.1)) (λ _. (e, h))

all_append : (c : ℕ) (xs ys : List Message) → AllOf c xs → AllOf c ys → AllOf c (xs ++ ys)
all_append c [] ys h g = g
all_append c (x ∷ xs) ys h g = (h.0, all_append c xs ys h.1 g)

first-all : (c : ℕ) (b : Bool) (ms : List Message) → AllOf c ms → AllOf c (first_if_begun b ms)
first-all c false ms h = tt
first-all c true [] h = tt
first-all c true (x ∷ xs) h = (h.0, tt)

pub enqueue-all : (c : ℕ) (bs : List ℕ) (q : Queue) → AllOf c q.messages → AllOf c (enqueue c 0 bs q).messages
unfolding enqueue
enqueue-all c [] q h = h
enqueue-all c (b ∷ bs) q h =
    let m : Message = record { class = c; label = 0; bytes = b ∷ bs } in
    let late = behind q.begun q.messages in
    rw (stays_all late)
    (all_append c (first_if_begun q.begun q.messages) (insert_by_class m late) (first-all c q.begun q.messages h)
    (insert_all c m late refl (behind-all c q.begun q.messages h)))

flies-from-all : (c k : ℕ) (b : Bool) (ms : List Message) → AllOf c ms → AllOf c (flies_from k b ms).messages
flies-from-all c k b [] h = tt
flies-from-all c k b (m ∷ ms) h =
    by (λ (q : Queue). AllOf c q.messages) (eqb k 0) (λ _. h)
    (λ _. by (λ (q : Queue). AllOf c q.messages) (leb (length m.bytes) k) (λ _. flies-from-all c (k - length m.bytes) false ms h.1) (λ _. h))

pub flies-all : (c k : ℕ) (q : Queue) → AllOf c q.messages → AllOf c (flies k q).messages
unfolding flies
flies-all c k q h = flies-from-all c k q.begun q.messages h
