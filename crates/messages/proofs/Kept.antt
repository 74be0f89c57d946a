-- The test of the sound record's clauses says them, both ways; a queuing and a burst keep them.
-- Assumes nothing.
use Prim.Native.Nat.{ℕ, zero, suc, ◌+◌, ◌-◌, ◌≤◌, ◌<◌}
use mathlib.Core.Path.{◌≡◌, refl, sym, ap, subst, ◌∙◌}
use mathlib.Core.Bool.{Bool, true, false}
use mathlib.Core.List.{List, [], ◌∷◌}
use native.Mathlib.Omega.{arith}
use lib.ListN.{length, length-replicate}
use lib.Dec.{leb, ltb, eqb}
use borrow.Author.Tests.{leb-true, leb-false, le-leb, lt-ltb, ltb-true, eqb-true, eq-eqb}
use Rattle.laws.proofs.Picks.{by, and_first, and_second}
use Rattle.limits.specs.Limits.{max_class, max_messages}
use Rattle.messages.specs.declared.Messages.{Messages}
use Rattle.messages.specs.Messages.{no_messages, Entry, entries_in, total_left, entries_ok, messages_ok, store_entries, with_withdrawn, begun_in, withdrawn_in}
use Rattle.messages.specs.MessagesCode.{insert_row, go_in, stay_in, withdrawn, EntryQueue, flown_from, flown}
use Rattle.messages.specs.SoundCode.{Each, SoundMessages, Sized}
use Rattle.messages.proofs.Entries.{length-entries, length-insert}
use Rattle.messages.proofs.Stored.{entries-stored, entries-withdrawn, sized-stored}
use Rattle.messages.proofs.Withdrawn.{stay-go, each_stay}

-- ---- the test, both ways

tested : (es : List Entry) → entries_ok es ≡ true → Each es
unfolding entries_ok
tested [] t = tt
tested (e ∷ es) t =
    let u = and_second (ltb 0 e.left) _ t in
    (ltb-true 0 e.left (and_first _ _ t), leb-true _ _ (and_first _ _ u), tested es (and_second (leb e.class max_class) _ u))

passes : (es : List Entry) → Each es → entries_ok es ≡ true
unfolding entries_ok
passes [] a = refl
passes (e ∷ es) a = rw (lt-ltb 0 e.left a.0, le-leb e.class max_class a.1) (passes es a.2)

module _ (m : Messages) (w : ℕ) where
  pub ok-sound : messages_ok w m ≡ true → SoundMessages m w
  unfolding messages_ok
  ok-sound t =
      let u = and_second (leb m.n max_messages) _ t in
      record { few = leb-true _ _ (and_first _ _ t); each = tested (entries_in m) (and_first _ _ u); sum = eqb-true _ _ (and_second (entries_ok (entries_in m)) _ u) }

  pub sound-ok : SoundMessages m w → messages_ok w m ≡ true
  unfolding messages_ok
  sound-ok s = rw (le-leb m.n max_messages s.few, passes (entries_in m) s.each) (eq-eqb _ _ s.sum)

-- ---- a fresh record

pub sized-none : Sized no_messages
sized-none = let e = length-replicate {A = ℕ} max_messages 0 in record { left = e; class = e; label = e }

pub sound_none : SoundMessages no_messages 0
unfolding total_left
sound_none = record { few = omega arith; each = tt; sum = refl }

-- ---- entries that are stored

sound-stored : (m : Messages) → Sized m → (b : Bool) (es : List Entry) (w : ℕ) → length es ≤ max_messages → Each es → total_left es ≡ w → SoundMessages (store_entries b es m) w
unfolding store_entries
sound-stored m z b es w few each sum =
    let e = sym (entries-stored m z b es few) in
    record { few = few; each = subst Each e each; sum = ap total_left (sym e) ∙ sum }

-- ---- a withdrawal

sized-with : (k : ℕ) (m : Messages) → Sized m → Sized (with_withdrawn k m)
sized-with k m z = record { left = z.left; class = z.class; label = z.label }

-- what a queuing withdraws is among the messages
pub gone-within : (m : Messages) (w l n : ℕ) → SoundMessages m w → (length (withdrawn_in l n m) ≤ m.n) × (total_left (withdrawn_in l n m) ≤ w)
unfolding withdrawn_in total_left
gone-within m w l n s =
    let i = stay-go l (begun_in m) (entries_in m) in
    by (λ (xs : List Entry). (length xs ≤ m.n) × (total_left xs ≤ w)) (eqb n 0) (λ _. (omega arith, omega arith))
    (λ _. (omega (arith, i.0, length-entries m 0 m.n), omega (arith, i.1, s.sum)))

-- A WITHDRAWAL KEEPS A SOUND RECORD
module _ (m : Messages) (w l : ℕ) (z : Sized m) (s : SoundMessages m w) where
  abbrev stays : List Entry
  stays = stay_in l (begun_in m) (entries_in m)

  few-stay : length stays ≤ max_messages
  few-stay = omega (arith, (stay-go l (begun_in m) (entries_in m)).0, length-entries m 0 m.n, s.few)

  pub withdraw-sound : SoundMessages (withdrawn l m) (total_left stays)
  unfolding withdrawn
  withdraw-sound =
      let k = m.withdrawn + total_left (go_in l (begun_in m) (entries_in m)) in
      let x = store_entries (begun_in m) stays m in
      let i = sound-stored m z (begun_in m) stays (total_left stays) few-stay (each_stay l (begun_in m) (entries_in m) s.each) refl in
      let e = sym (entries-withdrawn k x) in
      record { few = i.few; each = subst Each e i.each; sum = ap total_left (sym e) ∙ i.sum }

  pub withdraw-sized : Sized (withdrawn l m)
  unfolding withdrawn
  withdraw-sized =
      sized-with (m.withdrawn + total_left (go_in l (begun_in m) (entries_in m))) (store_entries (begun_in m) stays m) (sized-stored m z (begun_in m) stays)

  pub withdraw-rows : (withdrawn l m).n ≡ length stays
  unfolding withdrawn store_entries
  withdraw-rows = refl

-- ---- a burst

-- of a list that is no longer than n, and has w bytes
abbrev Left : ℕ → ℕ → List Entry → Type 0
Left n w es = (length es ≤ n) × Each es × (total_left es ≡ w)

flown-left : (k : ℕ) (b : Bool) (es : List Entry) → Each es → Left (length es) (total_left es - k) (flown_from k b es).entries
unfolding total_left
flown-left k b [] a = (omega arith, tt, omega arith)
flown-left k b (e ∷ es) a =
    by (λ (x : EntryQueue). Left (suc (length es)) (e.left + total_left es - k) x.entries) (eqb k 0)
    (λ d. let z = eqb-true k 0 d in (omega arith, a, omega arith))
    (λ d.
    by (λ (x : EntryQueue). Left (suc (length es)) (e.left + total_left es - k) x.entries) (leb e.left k)
    (λ f.
    let h = leb-true e.left k f in
    let i = flown-left (k - e.left) false es a.2 in
    (omega (arith, i.0), i.1, omega (arith, i.2)))
    (λ f. let h = leb-false e.left k f in (omega arith, (omega arith, a.1, a.2), omega arith)))

-- A BURST KEEPS A SOUND RECORD
pub fly-sound : (m : Messages) (w k : ℕ) → Sized m → SoundMessages m w → SoundMessages (flown k m) (w - k)
unfolding flown
fly-sound m w k z s =
    let x = flown_from k m.begun (entries_in m) in
    let l = flown-left k m.begun (entries_in m) s.each in
    sound-stored m z x.begun x.entries (w - k) (omega (arith, l.0, s.few, length-entries m 0 m.n)) l.1 (omega (arith, l.2, s.sum))

-- ---- a queuing

module _ (e : Entry) where
  total-insert : (row : ℕ) (es : List Entry) → total_left (insert_row row e es) ≡ total_left es + e.left
  unfolding total_left
  total-insert zero es = omega arith
  total-insert (suc row) [] = omega arith
  total-insert (suc row) (x ∷ es) = omega (arith, total-insert row es)

  each-insert : 1 ≤ e.left → e.class ≤ max_class → (row : ℕ) (es : List Entry) → Each es → Each (insert_row row e es)
  each-insert some class zero es a = (some, class, a)
  each-insert some class (suc row) [] a = (some, class, tt)
  each-insert some class (suc row) (x ∷ es) a = (a.0, a.1, each-insert some class row es a.2)

-- A QUEUING KEEPS A SOUND RECORD
pub insert-sound : (m : Messages) (w : ℕ) (e : Entry) → Sized m → SoundMessages m w → m.n < max_messages → 1 ≤ e.left → e.class ≤ max_class →
    (b : Bool) (row : ℕ) → SoundMessages (store_entries b (insert_row row e (entries_in m)) m) (w + e.left)
insert-sound m w e z s room some class b row =
    sound-stored m z b (insert_row row e (entries_in m)) (w + e.left) (omega (arith, length-insert row e (entries_in m), length-entries m 0 m.n))
    (each-insert e some class row (entries_in m) s.each) (omega (arith, total-insert e row (entries_in m), s.sum))
