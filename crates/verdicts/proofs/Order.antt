-- THE NUMBER THAT COMES BACK is that of the first reason that holds in the call's table (specs/Reasons.antt), and 0 where none does: both ways, the papers' order.
-- Assumes nothing.
use mathlib.Core.Path.{◌≡◌, refl, sym, ap, subst, ◌∙◌}
use mathlib.Core.Logic.{inl, inr}
use mathlib.Core.List.{List, [], ◌∷◌, ◌++◌}
use mathlib.Core.Bool.{Bool, true, false, cond, not, ◌&&◌, ◌||◌, false≢true}
use Prim.Native.Nat.{ℕ, suc, ◌+◌, ◌-◌, ◌*◌, ◌≤◌}
use native.Mathlib.Omega.{arith}
use lib.Dec.{leb, ltb, eqb, lit≤}
use lib.ListN.{length}
use borrow.Author.Tests.{eq-eqb, ne_eqb, le-leb, leb-true, leb-false, ltb-true, ltb-false}
use Rattle.laws.proofs.Picks.{by, test}
use Rattle.config.specs.declared.Profile.{Profile}
use Rattle.config.specs.Ranges.{in_range, in_order}
use Rattle.area.specs.Room.{queue_refusal}
use Rattle.area.proofs.room.Laws.{full, over, room-enough}
use Rattle.messages.specs.Messages.{Entry, total_left, withdrawn_in}
use Rattle.queuing.specs.declared.Station.{Station}
use Rattle.replies.specs.declared.Heard.{Heard}
use Rattle.refusals.specs.Verdict.{Verdict}
use Rattle.refusals.specs.Verdict.{Accepted, ProfileOutOfRange, ShortOverLong, Unsound, OutOfTurn, BadTime, BadValue, ShortPayload, QueueFull, AllTaken, ShortOutput, BadClass, TooManyMessages, TooManyFrames}
use Rattle.refusals.specs.declared.Reply.{Reply}
use Rattle.refusals.specs.Refusals.{number_of, kind_of, max_received, time_ok, heard_ok, reply_ok}
use Rattle.verdicts.specs.Verdicts.{taken_by, station_ok, first_of, standing, reply_verdict, hearing_verdict, frames_standing, room_verdict, output_verdict, queue_verdict, receive_verdict, frames_verdict, burst_verdict}
use Rattle.verdicts.specs.Reasons.{Reason, First, standing_reasons, lookup_reasons, queue_reasons, reply_reasons, frames_reasons, burst_reasons}
use Rattle.limits.specs.Limits.{max_slots, max_waiting, max_taken, max_class, max_messages}

-- ---- tables

-- no two numbers are the first
pub first_one : (rs : List Reason) (n m : ℕ) → First rs n → First rs m → n ≡ m
first_one [] n m f g = f ∙ sym g
first_one (r ∷ rs) n m (inl f) (inl g) = f.1 ∙ sym g.1
first_one (r ∷ rs) n m (inl f) (inr g) = absurd (false≢true (sym g.0 ∙ f.0))
first_one (r ∷ rs) n m (inr f) (inl g) = absurd (false≢true (sym f.0 ∙ g.0))
first_one (r ∷ rs) n m (inr f) (inr g) = first_one rs n m f.1 g.1

-- a test, and then what comes after it
tested : (k : ℕ) (b : Bool) (v w : Verdict) (rs : List Reason) → number_of v ≡ k → First rs (number_of w) → First ((k, b) ∷ rs) (number_of (cond b v w))
tested k b v w rs e f = by (λ (x : Verdict). First ((k, b) ∷ rs) (number_of x)) b (λ t. inl (t, e)) (λ t. inr (t, f))

-- 0 is the number of no refusal
abbrev Refusals : List Reason → Type 0
Refusals [] = Unit {0}
Refusals (r ∷ rs) = (1 ≤ r.0) × Refusals rs

-- one table, and then another
behind : (rs qs : List Reason) (v w : Verdict) → Refusals rs → First rs (number_of v) → First qs (number_of w) → First (rs ++ qs) (number_of (first_of v w))
behind [] qs v w k f g = subst (λ (t : Bool). First qs (number_of (cond t w v))) (sym (eq-eqb (number_of v) 0 f)) g
behind (r ∷ rs) qs v w k (inl f) g =
    inl (f.0, ap (λ (t : Bool). number_of (cond t w v)) (ne_eqb (number_of v) 0 (λ z. omega (arith, z, f.1, k.0))) ∙ f.1)
behind (r ∷ rs) qs v w k (inr f) g = inr (f.0, behind rs qs v w k.1 f.1 g)

-- out of turn, as the code tests it
turn-test : (c connect : Bool) → ((c && connect) || (not c && not connect)) ≡ cond connect c (not c)
turn-test true true = refl
turn-test true false = refl
turn-test false true = refl
turn-test false false = refl

-- a 257th
one_more : (m : ℕ) → leb max_messages m ≡ ltb max_messages (m + 1)
one_more m =
    test (leb max_messages m) (λ e. e ∙ sym (le-leb (suc max_messages) (m + 1) (omega (arith, leb-true max_messages m e))))
    (λ e. test (ltb max_messages (m + 1)) (λ f. absurd (omega (arith, leb-false max_messages m e, ltb-true max_messages (m + 1) f))) (λ f. e ∙ sym f))

-- ---- the calls

module _ (p : Profile) (t : Station) (a : List ℕ) where
  module _ (connect : Bool) where
    standing-first : First (standing_reasons p t a connect) (number_of (standing p t a connect))
    unfolding standing
    standing-first =
        let c = t.sender.link.connected in
        let u = (c && connect) || (not c && not connect) in
        let last : List Reason = (4, cond connect c (not c)) ∷ [] in
        let v₄ : Verdict = cond u OutOfTurn Accepted in
        let v₃ : Verdict = cond (not (station_ok p t a)) Unsound v₄ in
        let v₂ : Verdict = cond (not (in_order p)) ShortOverLong v₃ in
        tested 1 (not (in_range p)) ProfileOutOfRange v₂ ((2, not (in_order p)) ∷ (3, not (station_ok p t a)) ∷ last) refl
        (tested 2 (not (in_order p)) ShortOverLong v₃ ((3, not (station_ok p t a)) ∷ last) refl
        (tested 3 (not (station_ok p t a)) Unsound v₄ last refl
        (subst (λ (b : Bool). First ((4, b) ∷ []) (number_of v₄)) (turn-test c connect) (tested 4 u OutOfTurn Accepted [] refl refl))))

    standing-refusals : Refusals (standing_reasons p t a connect)
    standing-refusals = (lit≤ tt, (lit≤ tt, (lit≤ tt, (lit≤ tt, tt))))

  pub lookup_first : First (lookup_reasons p t a) (number_of (standing p t a false))
  lookup_first = standing-first false

  module _ (class label n : ℕ) where
    abbrev gone : List Entry
    gone = withdrawn_in label n t.messages

    -- bytes that wait, bytes taken, and messages, as they are judged
    abbrev stay : ℕ
    stay = t.sender.counts.waiting - total_left gone

    abbrev taken : ℕ
    taken = taken_by t.sender.counts t.messages

    abbrev left : ℕ
    left = t.messages.n - length gone

    abbrev last_reasons : List Reason
    last_reasons = (12, ltb 0 n && ltb max_messages (left + 1)) ∷ []

    abbrev full_reasons : List Reason
    full_reasons = (8, ltb max_waiting (stay + n)) ∷ (9, ltb max_taken (taken + n)) ∷ last_reasons

    abbrev last : Verdict
    last = cond (ltb 0 n && leb max_messages left) TooManyMessages Accepted

    abbrev full_or : Verdict → Verdict
    full_or v = let q = queue_refusal stay taken n in cond (eqb q 8) QueueFull (cond (eqb q 9) AllTaken v)

    last-first : First last_reasons (number_of last)
    last-first =
        subst (λ (b : Bool). First ((12, ltb 0 n && b) ∷ []) (number_of last)) (one_more left)
        (tested 12 (ltb 0 n && leb max_messages left) TooManyMessages Accepted [] refl refl)

    -- 8 and 9, and 12 behind them
    full-first : First full_reasons (number_of (full_or last))
    full-first =
        let said : ℕ → Verdict = λ (q : ℕ). cond (eqb q 8) QueueFull (cond (eqb q 9) AllTaken last) in
        test (ltb max_waiting (stay + n))
        (λ x. inl (x, ap (λ (q : ℕ). number_of (said q)) (full stay taken n (ltb-true _ _ x))))
        (λ x. inr (
          x,
          test (ltb max_taken (taken + n))
              (λ y. inl (y, ap (λ (q : ℕ). number_of (said q)) (over stay taken n (ltb-false _ _ x) (ltb-true _ _ y))))
              (λ y. inr (y, subst (First last_reasons) (sym (ap (λ (q : ℕ). number_of (said q)) (room-enough stay taken n (ltb-false _ _ x) (ltb-false _ _ y)))) last-first)),
        ))

    room-first : First ((11, ltb max_class class) ∷ full_reasons) (number_of (room_verdict t.sender.counts t.messages class label n))
    unfolding room_verdict
    room-first = tested 11 (ltb max_class class) BadClass (full_or last) full_reasons refl full-first

    pub queue-first : First (queue_reasons p t a class label n) (number_of (queue_verdict p t a class label n))
    unfolding queue_verdict
    queue-first =
        behind (standing_reasons p t a false) ((11, ltb max_class class) ∷ full_reasons) (standing p t a false) (room_verdict t.sender.counts t.messages class label n)
        (standing-refusals false) (standing-first false) room-first

  module _ (n : ℕ) where
    -- each test by itself: in range, in order, sound, connected, too many, on time, heard
    frames-tests : (x y z c m t₅ t₆ : Bool)
        → let v = cond (not x) ProfileOutOfRange (cond (not y) ShortOverLong (cond (not z) Unsound (cond ((c && false) || (not c && true)) OutOfTurn Accepted))) in
        let u = cond (ltb 0 (number_of v) && leb (number_of v) 3) v (cond m TooManyFrames v) in
        First ((1, not x) ∷ (2, not y) ∷ (3, not z) ∷ (15, m) ∷ (4, not c) ∷ (5, not t₅) ∷ (6, not t₆) ∷ [])
        (number_of (first_of u (cond (not t₅) BadTime (cond (not t₆) BadValue Accepted))))
    frames-tests false y z c m t₅ t₆ = inl (refl, refl)
    frames-tests true false z c m t₅ t₆ = inr (refl, inl (refl, refl))
    frames-tests true true false c m t₅ t₆ = inr (refl, inr (refl, inl (refl, refl)))
    frames-tests true true true false true t₅ t₆ = inr (refl, inr (refl, inr (refl, inl (refl, refl))))
    frames-tests true true true true true t₅ t₆ = inr (refl, inr (refl, inr (refl, inl (refl, refl))))
    frames-tests true true true false false t₅ t₆ = inr (refl, inr (refl, inr (refl, inr (refl, inl (refl, refl)))))
    frames-tests true true true true false false t₆ = inr (refl, inr (refl, inr (refl, inr (refl, inr (refl, inl (refl, refl))))))
    frames-tests true true true true false true false = inr (refl, inr (refl, inr (refl, inr (refl, inr (refl, inr (refl, inl (refl, refl)))))))
    frames-tests true true true true false true true = inr (refl, inr (refl, inr (refl, inr (refl, inr (refl, inr (refl, inr (refl, refl)))))))

    pub frames-first : (h : Heard) → First (frames_reasons p t a h n) (number_of (frames_verdict p t a h n))
    unfolding frames_verdict frames_standing hearing_verdict standing
    frames-first h =
        frames-tests (in_range p) (in_order p) (station_ok p t a) t.sender.link.connected (ltb max_received n)
        (time_ok t.sender.link.last_time h.time) (heard_ok h)

    pub burst-first : First (burst_reasons p t a n) (number_of (burst_verdict p t a n))
    unfolding burst_verdict output_verdict
    burst-first =
        let b = ltb n (max_slots * p.long_bytes) in
        behind (standing_reasons p t a false) ((10, b) ∷ []) (standing p t a false) (output_verdict p.long_bytes n) (standing-refusals false) (standing-first false)
        (tested 10 b ShortOutput Accepted [] refl refl)

    pub reply-first : (h : Heard) (r : Reply) → First (reply_reasons p t a h r n) (number_of (receive_verdict p t a h r n))
    unfolding receive_verdict reply_verdict
    reply-first h r =
        let k = eqb (kind_of r) 0 in
        let b₅ = not (time_ok t.sender.link.last_time h.time) in
        let b₆ = not (heard_ok h && reply_ok r) in
        let b₇ = eqb (kind_of r) 2 && ltb n 13 in
        let v₇ : Verdict = cond b₇ ShortPayload Accepted in
        behind (standing_reasons p t a k) ((5, b₅) ∷ (6, b₆) ∷ (7, b₇) ∷ []) (standing p t a k) (reply_verdict t.sender.link.last_time h r n) (standing-refusals k) (standing-first k)
        (tested 5 b₅ BadTime (cond b₆ BadValue v₇) ((6, b₆) ∷ (7, b₇) ∷ []) refl
        (tested 6 b₆ BadValue v₇ ((7, b₇) ∷ []) refl
        (tested 7 b₇ ShortPayload Accepted [] refl refl)))
