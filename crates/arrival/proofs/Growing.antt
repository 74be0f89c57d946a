-- The tally along a list of calls: what joins at its end. Assumes nothing.
use Prim.Native.Nat.{ℕ, zero, suc, ◌+◌, ◌-◌, ◌≤◌, ◌<◌}
use mathlib.Core.Path.{◌≡◌, refl, sym, ap, ap₂, ◌∙◌, subst}
use mathlib.Core.Bool.{Bool, cond}
use mathlib.Core.List.{List, [], ◌∷◌, ◌++◌, map, append-nil}
use native.Mathlib.Omega.{arith}
use lib.Dec.{eqb}
use lib.ListN.{length, take, drop, get_or, length-append, get_or-append, get_or-eq_default}
use lib.Seq.{get_or-append-add}
use Rattle.laws.proofs.Lists.{map-append, map-map, map-id}
use Rattle.laws.proofs.Picks.{either, test}
use Rattle.ledger.specs.Reply.{Reply}
use Rattle.ledger.specs.Ledger.{Frame}
use Rattle.ledger.specs.Tally.{Tally, Event, Flown, Outstanding, nothing, outstanding, silent, took, reply, replies, turn, went, byte_of, unacked, acknowledge, acknowledge_all, acknowledged_by, waits, feed, queued, sent_out, heard, heard_all, none_outstanding, furthest}
use Rattle.ledger.specs.Calls.{run, Along, tally}

-- the bytes that have begun to fly, in that order
abbrev pub bytes : Tally → List ℕ
bytes t = map byte_of t.flown

module _ {C I : Type 0} (next : I → C → C) where
  pub run-snoc : (is : List I) (i : I) (c : C) → run next (is ++ (i ∷ [])) c ≡ next i (run next is c)
  run-snoc [] i c = refl
  run-snoc (j ∷ is) i c = run-snoc is i (next j c)

  pub along-snoc : (P : I → C → Type 0) (is : List I) (i : I) (c : C) → Along next P is c → P i (run next is c) → Along next P (is ++ (i ∷ [])) c
  along-snoc P [] i c a h = (h, tt)
  along-snoc P (j ∷ is) i c a h = (a.0, along-snoc P is i (next j c) a.1 h)

  pub tally-snoc : (told : I → C → Event) (is : List I) (i : I) (c : C) (t : Tally) → tally next told (is ++ (i ∷ [])) c t ≡ feed (told i (run next is c)) (tally next told is c t)
  tally-snoc told [] i c t = refl
  tally-snoc told (j ∷ is) i c t = tally-snoc told is i (next j c) (feed (told j c) t)

bytes-acknowledge : (o l k : ℕ) (fl : List Flown) → map byte_of (acknowledge o l k fl) ≡ map byte_of fl
bytes-acknowledge o l k [] = refl
bytes-acknowledge o l k (f ∷ fl) = rw (bytes-acknowledge o l (suc k) fl)

bytes-acknowledge_all : (b : ℕ → Bool) (i : ℕ) (fs : List Frame) (fl : List Flown) → map byte_of (acknowledge_all b i fs fl) ≡ map byte_of fl
bytes-acknowledge_all b i [] fl = refl
bytes-acknowledge_all b i (f ∷ fs) fl =
    bytes-acknowledge_all b (suc i) fs (cond (b i) (acknowledge f.off f.len 0 fl) fl)
    ∙ either (λ (x : List Flown). map byte_of x ≡ map byte_of fl) (b i) _ _ (bytes-acknowledge f.off f.len 0 fl) refl

bytes-heard : (r : Reply) (out : Outstanding) (fl : List Flown) → map byte_of (acknowledged_by r out fl) ≡ map byte_of fl
bytes-heard r nothing fl = refl
bytes-heard r (outstanding n fs) fl =
    either (λ (x : List Flown). map byte_of x ≡ map byte_of fl) (eqb r.number n) _ _ (bytes-acknowledge_all (r.bit (length fs)) 0 fs fl) refl

bytes-heard-all : (rs : List Reply) (t : Tally) → bytes (heard_all rs t) ≡ bytes t
unfolding heard
bytes-heard-all [] t = refl
bytes-heard-all (r ∷ rs) t = bytes-heard-all rs (heard r t) ∙ bytes-heard r t.out t.flown

taken-heard-all : (rs : List Reply) (t : Tally) → (heard_all rs t).taken ≡ t.taken
unfolding heard
taken-heard-all [] t = refl
taken-heard-all (r ∷ rs) t = taken-heard-all rs (heard r t)

-- the bytes that begin to fly
abbrev pub more : Event → Tally → List ℕ
more silent t = []
more (took c l bs) t = []
more (reply r) t = []
more (replies rs) t = []
more turn t = []
more (went n fs) t = take (furthest fs - length t.flown) (waits t)

pub grows : (e : Event) (t : Tally) → bytes (feed e t) ≡ bytes t ++ more e t
unfolding queued sent_out heard none_outstanding
grows silent t = sym (append-nil (bytes t))
grows (took c l bs) t = sym (append-nil (bytes t))
grows (reply r) t = bytes-heard r t.out t.flown ∙ sym (append-nil (bytes t))
grows (replies rs) t = bytes-heard-all rs t ∙ sym (append-nil (bytes t))
grows turn t = sym (append-nil (bytes t))
grows (went n fs) t =
    let x = take (furthest fs - length t.flown) (waits t) in
    map-append byte_of t.flown (unacked x) ∙ ap (λ (l : List ℕ). bytes t ++ l) (map-map byte_of _ x ∙ map-id x)

pub taken-grows : (e : Event) (t : Tally) → t.taken ≤ (feed e t).taken
unfolding queued sent_out heard none_outstanding
taken-grows silent t = omega arith
taken-grows (took c l bs) t = omega arith
taken-grows (reply r) t = omega arith
taken-grows (replies rs) t = omega (arith, taken-heard-all rs t)
taken-grows turn t = omega arith
taken-grows (went n fs) t = omega arith
