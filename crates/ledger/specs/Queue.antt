-- The messages that wait, in the order in which they will go (document 02, Changes 1 and 6). Definitions only.
use Rattle.std.specs.Prelude.{ℕ, ◌+◌, ◌-◌, ◌≤◌, ◌≡◌, ◌⊎◌, Bool, true, false, cond, not, ◌&&◌, List, [], ◌∷◌, ◌++◌, leb, eqb, length, drop}
use Rattle.laws.specs.Lists.{one}

-- a message: its class, its label, and the bytes of it that wait
pub record Message : Type 0 where
  pub class : ℕ
  pub label : ℕ
  pub bytes : List ℕ

-- those that wait, in the order in which they will go; `begun`: bytes of the first have begun to fly
pub record Queue : Type 0 where
  pub begun : Bool
  pub messages : List Message

abbrev pub no_queue : Queue
no_queue = record { begun = false; messages = [] }

-- the bytes of messages, one after the other
abbrev pub message_bytes : List Message → List ℕ
message_bytes [] = []
message_bytes (m ∷ ms) = m.bytes ++ message_bytes ms

-- the waiting bytes, in the order in which they will go
abbrev pub goes : Queue → List ℕ
goes q = message_bytes q.messages

-- ---- a queuing

-- "the lowest class waiting goes, the earliest of it first": behind those of its class and of lower ones, before those of higher ones
abbrev pub insert_by_class : Message → List Message → List Message
insert_by_class m [] = m ∷ []
insert_by_class m (x ∷ xs) = cond (leb x.class m.class) (x ∷ insert_by_class m xs) (m ∷ x ∷ xs)

-- "A message once begun is finished": the first, where it has begun, and those behind it
abbrev pub first_if_begun : {A : Type 0} → Bool → List A → List A
first_if_begun false ms = []
first_if_begun true [] = []
first_if_begun true (x ∷ xs) = x ∷ []

abbrev pub behind : {A : Type 0} → Bool → List A → List A
behind false ms = ms
behind true [] = []
behind true (x ∷ xs) = xs

-- those that pass a test, in order
abbrev pub those : {A : Type 0} → (A → Bool) → List A → List A
those p [] = []
those p (x ∷ xs) = cond (p x) (x ∷ those p xs) (those p xs)

-- label l withdraws a message of label k: it is the same; "0 is no label"
abbrev pub withdraws : ℕ → ℕ → Bool
withdraws l k = not (eqb l 0) && eqb k l

-- "Queuing a labelled message withdraws each waiting message with that label that hasn't begun. A begun one goes on": those that are withdrawn,
-- and those that stay
abbrev pub withdrawn_by : ℕ → Queue → List Message
withdrawn_by l q = those (λ (m : Message). withdraws l m.label) (behind q.begun q.messages)

abbrev pub stays_by : ℕ → Queue → List Message
stays_by l q = those (λ (m : Message). not (withdraws l m.label)) (behind q.begun q.messages)

-- a queuing with class c and label l; "a queuing of no bytes makes no message"
unfoldable pub enqueue : ℕ → ℕ → List ℕ → Queue → Queue
enqueue c l [] q = q
enqueue c l (b ∷ bs) q =
    record {
      begun = q.begun;
      messages = first_if_begun q.begun q.messages ++ insert_by_class (record { class = c; label = l; bytes = b ∷ bs }) (stays_by l q);
    }

-- the messages that it withdraws; "A queuing of no bytes withdraws nothing"
unfoldable pub superseded : ℕ → List ℕ → Queue → List Message
superseded l [] q = []
superseded l (b ∷ bs) q = withdrawn_by l q

-- ---- a burst: the first k waiting bytes begin to fly

abbrev pub flies_from : ℕ → Bool → List Message → Queue
flies_from k b [] = no_queue
flies_from k b (m ∷ ms) =
    cond (eqb k 0) (record { begun = b; messages = m ∷ ms })
    (cond (leb (length m.bytes) k) (flies_from (k - length m.bytes) false ms)
    (record { begun = true; messages = record { class = m.class; label = m.label; bytes = drop k m.bytes } ∷ ms }))

unfoldable pub flies : ℕ → Queue → Queue
flies k q = flies_from k q.begun q.messages

-- the messages of which the first byte is among them, in order: those that begin
abbrev pub begins_from : ℕ → Bool → List Message → List Message
begins_from k b [] = []
begins_from k b (m ∷ ms) =
    cond (eqb k 0) [] (cond b [] (m ∷ []) ++ cond (leb (length m.bytes) k) (begins_from (k - length m.bytes) false ms) [])

unfoldable pub begins : ℕ → Queue → List Message
begins k q = begins_from k q.begun q.messages

-- ---- counting

-- how many messages pass a test: two lists that agree on every test hold the same messages
abbrev pub count_those : (Message → Bool) → List Message → ℕ
count_those p [] = 0
count_those p (m ∷ ms) = one (p m) + count_those p ms

-- those of class c, in order
abbrev pub of_class : ℕ → List Message → List Message
of_class c [] = []
of_class c (m ∷ ms) = cond (eqb m.class c) (m ∷ of_class c ms) (of_class c ms)

-- what is left of the begun one
abbrev pub rest : Queue → List ℕ
rest q = message_bytes (first_if_begun q.begun q.messages)

-- classes ascend from c on
abbrev pub Ascending : ℕ → List Message → Type 0
Ascending c [] = Unit {0}
Ascending c (m ∷ ms) = (c ≤ m.class) × Ascending m.class ms

-- "a queuing of no bytes makes no message"
abbrev pub message : ℕ → ℕ → List ℕ → List Message
message c l [] = []
message c l (b ∷ bs) = record { class = c; label = l; bytes = b ∷ bs } ∷ []

-- xs are ys, some of them left out
abbrev pub Sublist : List Message → List Message → Type 0
Sublist xs [] = xs ≡ []
Sublist xs (y ∷ ys) = Sublist xs ys ⊎ ((zs : List Message) × (xs ≡ y ∷ zs) × Sublist zs ys)
