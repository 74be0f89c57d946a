-- Every allowed call keeps the record sound and in agreement with the tally, and a piece that is held after it as it was.
-- Assumes nothing.
use Prim.Native.Nat.{ℕ, suc, ◌+◌, ◌≤◌}
use mathlib.Core.Path.{◌≡◌, refl, sym, ap, ap₂, ◌∙◌, subst}
use mathlib.Core.Bool.{Bool, true, false, cond, not, ◌&&◌}
use mathlib.Core.List.{List, [], ◌∷◌, ◌++◌, append-nil}
use native.Mathlib.Omega.{arith}
use lib.Dec.{eqb, ltb}
use lib.ListN.{drop, length, length-append, length-map}
use borrow.Author.Tests.{ltb-true, lt-ltb}
use Rattle.laws.specs.Lists.{occurs}
use Rattle.laws.proofs.Picks.{by, and_second, either, and_yes, and_first}
use Rattle.laws.proofs.Lists.{occurs-append}
use Rattle.ledger.specs.Reply.{Reply}
use Rattle.ledger.specs.Ledger.{Held, missed, Sent, Piece, Sender, sent_offs, held_offs, offs, remaining, settle_burst, clear_burst, requeue, hear_ack, settles, Plan, data_burst, find, size, new_pieces}
use Rattle.ledger.specs.Queue.{Message, Queue, message_bytes, goes, enqueue, superseded, flies}
use Rattle.ledger.proofs.Queue.{goes-flies, length-enqueue, length-bytes-append}
use Rattle.ledger.specs.Station.{Station}
use Rattle.ledger.specs.Tally.{acknowledged_by, Flown, outstanding, Tally, waits, sent_out, heard, acknowledge_all, nothing, queued, none_outstanding, heard_all, feed}
use Rattle.ledger.specs.Sound.{HeldBits, SentBits, Sound, Fits}
use Rattle.ledger.proofs.Agree.{Agree}
use Rattle.ledger.proofs.Burst.{burst-taken, burst-sound, burst-agree, burst-takes, burst-keeps}
use Rattle.ledger.proofs.HeldPieces.{held_offs-append}
use Rattle.ledger.proofs.Offsets.{flying-within, Within, within-flying}
use Rattle.ledger.proofs.Sentences.{not-awaited, ack-ends}
use Rattle.ledger.proofs.Settle.{ascend-remaining, missed-remaining, acked_bytes-remaining, missed-few, short_frames-remaining, acknowledge_all-remaining, find-remaining}
use Rattle.limits.specs.Limits.{max_slots, max_waiting, max_taken}
use Rattle.ledger.specs.Sizes.{Sizes}
use Rattle.ledger.specs.CallsCode.{Allowed, queue_move, step, Move, idle, ack_move, acks_move, hear_all, replies_of, turn_move, burst_move, event, move_told, SoundStation}
use Rattle.ledger.specs.CoverCode.{Ascend}
use Rattle.ledger.specs.LedgerCode.{frames, taken_of, fresh_ledger}
use Rattle.ledger.specs.SizesCode.{SizeRange}

held_bits-append : (top : ℕ) (xs ys : List Held) → HeldBits top xs → HeldBits top ys → HeldBits top (xs ++ ys)
held_bits-append top [] ys a b = b
held_bits-append top (x ∷ xs) ys a b = (a.0, a.1, held_bits-append top xs ys a.2 b)

held_bits-tail : (top : ℕ) (xs ys : List Held) → HeldBits top (xs ++ ys) → HeldBits top ys
held_bits-tail top [] ys b = b
held_bits-tail top (x ∷ xs) ys b = held_bits-tail top xs ys b.2

missed-bits : (b : ℕ → Bool) (top i : ℕ) (fs : List Sent) → SentBits fs → HeldBits top (missed b top i fs)
missed-bits b top i [] a = tt
missed-bits b top i (f ∷ fs) a =
    by (λ (r : List Held). HeldBits top r) (not (b i) && ltb f.held top)
    (λ e. (omega arith, ltb-true f.held top (and_second (not (b i)) (ltb f.held top) e), missed-bits b top (suc i) fs a.4))
    (λ e. missed-bits b top (suc i) fs a.4)

frames-length : (ps : List Piece) (fs : List Sent) → length (frames ps fs) ≡ length fs
frames-length ps fs = length-map fs _

-- an ack that settles nothing: another number, or no frame
unanswered : (r : Reply) (n : ℕ) (ps : List Piece) (fs : List Sent) (fl : List Flown) → eqb r.number n && ltb 0 (length fs) ≡ false →
    acknowledged_by r (outstanding n (frames ps fs)) fl ≡ fl
unanswered r n ps [] fl e = either (λ (x : List Flown). x ≡ fl) (eqb r.number n) fl fl refl refl
unanswered r n ps (f ∷ fs) fl e =
    by (λ (x : List Flown). x ≡ fl) (eqb r.number n)
    (λ d. let q : ◌≡◌ {A = Bool} true false = sym (and_yes (eqb r.number n) (ltb 0 (suc (length fs))) d (lt-ltb 0 (suc (length fs)) (omega arith))) ∙ e in cc)
    (λ d. refl)

-- ---- the outstanding burst, counted

pub out-occurs : (z : Sizes) (s : Sender) → Sound z s → (o : ℕ) → occurs o (sent_offs s.sent) + occurs o (held_offs s.rest) ≤ occurs o (offs s.pieces)
out-occurs z s so o =
    omega (arith, flying-within (sent_offs s.sent ++ held_offs s.rest) s.pieces so.out_flying o, occurs-append o (sent_offs s.sent) (held_offs s.rest))

module _ (z : Sizes) where
  rest-bits : (s : Sender) → Sound z s → HeldBits z.top s.rest
  rest-bits s so = held_bits-tail z.top so.tail.0 s.rest (rw so.tail.1 at so.held_bits)

  -- ---- sound

  module _ (r : Reply) (keep : Bool) (s : Sender) (so : Sound z s) where
    abbrev bits : ℕ → Bool
    bits = r.bit (length s.sent)

    abbrev after : List Held
    after = cond keep (s.rest ++ missed bits z.top 0 s.sent) []

    after-ascend : Ascend z.long 0 s.next (remaining bits 0 s.sent s.pieces)
    after-ascend = ascend-remaining z.long s.next bits 0 s.sent s.pieces so.ascend

    after-within : Within (held_offs after) (remaining bits 0 s.sent s.pieces)
    after-within o =
        by (λ (q : List Held). occurs o (held_offs q) ≤ occurs o (offs (remaining bits 0 s.sent s.pieces))) keep
        (λ e. rw (held_offs-append s.rest (missed bits z.top 0 s.sent), occurs-append o (held_offs s.rest) (held_offs (missed bits z.top 0 s.sent)))
        (omega (arith, missed-remaining z.long s.next bits z.top 0 s.sent s.pieces (λ q. occurs q (held_offs s.rest)) (out-occurs z s so) o)))
        (λ e. omega arith)

    pub settle-sound : Sound z (settle_burst z.top r keep s)
    unfolding settle_burst
    settle-sound =
        let g = acked_bytes-remaining z.long s.next bits 0 s.sent s.pieces in
        let u = missed-few z.long s.next bits z.top 0 s.sent in
        record {
          ascend = after-ascend;
          bytes = omega (arith, so.bytes);
          shorts = omega (arith, short_frames-remaining z.long s.next bits z.short 0 s.sent s.pieces, so.shorts);
          held_few =
              by (λ (q : List Held). length q ≤ max_slots) keep
              (λ e. omega (arith, length-append s.rest (missed bits z.top 0 s.sent), so.out_few)) (λ e. omega arith);
          held_flying = within-flying z.long 0 s.next (held_offs after) (remaining bits 0 s.sent s.pieces) after-ascend after-within;
          held_bits =
              by (λ (q : List Held). HeldBits z.top q) keep
              (λ e. held_bits-append z.top s.rest (missed bits z.top 0 s.sent) (rest-bits s so) (missed-bits bits z.top 0 s.sent so.sent_bits))
              (λ e. tt);
          tail = (after, sym (append-nil after));
          out_few = omega arith;
          out_flying = (tt, tt);
          sent_bits = tt;
          few_waiting = so.few_waiting;
          taken_few = so.taken_few;
          sum = omega (arith, so.sum);
          number = so.number;
        }

  pub clear-sound : (s : Sender) → Sound z s → Sound z (clear_burst s)
  unfolding clear_burst
  clear-sound s so =
      record {
        ascend = so.ascend;
        bytes = so.bytes;
        shorts = so.shorts;
        held_few = so.held_few;
        held_flying = so.held_flying;
        held_bits = so.held_bits;
        tail = so.tail;
        out_few = omega (arith, so.out_few);
        out_flying = within-flying z.long 0 s.next (held_offs s.rest) s.pieces so.ascend (λ o. omega (arith, out-occurs z s so o));
        sent_bits = tt;
        few_waiting = so.few_waiting;
        taken_few = so.taken_few;
        sum = so.sum;
        number = so.number;
      }

  -- other bytes wait
  pub queue-sound : (w : List ℕ) (s : Sender) → length w ≤ max_waiting → s.next + length w ≤ max_taken → Sound z s → Sound z (requeue w s)
  unfolding requeue
  queue-sound w s h h' so =
      record {
        ascend = so.ascend;
        bytes = so.bytes;
        shorts = so.shorts;
        held_few = so.held_few;
        held_flying = so.held_flying;
        held_bits = so.held_bits;
        tail = so.tail;
        out_few = so.out_few;
        out_flying = so.out_flying;
        sent_bits = so.sent_bits;
        few_waiting = omega arith;
        taken_few = omega arith;
        sum = omega (arith, so.sum);
        number = so.number;
      }

  pub ack-sound : (r : Reply) (keep : Bool) (s : Sender) → Sound z s → Sound z (hear_ack z.top r keep s)
  unfolding hear_ack
  ack-sound r keep s so =
      by (λ (x : Sender). Sound z x) s.awaited
      (λ w. either (λ (x : Sender). Sound z x) (settles r s) _ _ (settle-sound r keep s so) (clear-sound s so))
      (λ w. so)

  -- what every ack keeps, those of a reception keep
  hear-all : (P : Sender → Type 0) → ((r : Reply) (keep : Bool) (s : Sender) → P s → P (hear_ack z.top r keep s)) →
      (xs : List (Reply × Bool)) (s : Sender) → P s → P (hear_all z.top xs s)
  hear-all P f [] s h = h
  hear-all P f (x ∷ xs) s h = hear-all P f xs (hear_ack z.top x.0 x.1 s) (f x.0 x.1 s h)

  -- no ack changes what waits, nor what is taken
  ack-shows : (w : List ℕ) (r : Reply) (keep : Bool) (s : Sender) → s.waiting ≡ w → (hear_ack z.top r keep s).waiting ≡ w
  unfolding hear_ack settle_burst clear_burst
  ack-shows w r keep s h =
      by (λ (x : Sender). x.waiting ≡ w) s.awaited (λ _. either (λ (x : Sender). x.waiting ≡ w) (settles r s) _ _ h h) (λ _. h)

  ack-taken : (n : ℕ) (r : Reply) (keep : Bool) (s : Sender) → taken_of s + n ≤ max_taken → taken_of (hear_ack z.top r keep s) + n ≤ max_taken
  unfolding hear_ack settle_burst clear_burst
  ack-taken n r keep s h =
      let Few : Sender → Type 0 = λ x. taken_of x + n ≤ max_taken in
      by Few s.awaited (λ _. either Few (settles r s) _ _ h h) (λ _. h)

  pub fresh-sound : Sound z fresh_ledger
  fresh-sound =
      record {
        ascend = omega arith;
        bytes = omega arith;
        shorts = omega arith;
        held_few = omega arith;
        held_flying = (tt, tt);
        held_bits = tt;
        tail = ([], refl);
        out_few = omega arith;
        out_flying = (tt, tt);
        sent_bits = tt;
        few_waiting = omega arith;
        taken_few = omega arith;
        sum = refl;
        number = omega arith;
      }

  module _ (zr : SizeRange z) where
    -- EVERY ACCEPTED CALL KEEPS `Sound`
    sender-sound : (c : Move) (st : Station) → Allowed z c st → Sound z st.sender → st.sender.waiting ≡ goes st.queue →
        Sound z (step z c st).sender
    sender-sound idle st al so sh = so
    sender-sound (queue_move c l bs) st al so sh =
        queue-sound (goes (enqueue c l bs st.queue)) st.sender al.0
        (omega (arith, al.1, length-enqueue c l st.queue bs, ap length sh)) so
    sender-sound (ack_move r keep) st al so sh = ack-sound r keep st.sender so
    sender-sound (acks_move xs) st al so sh = hear-all (Sound z) ack-sound xs st.sender so
    sender-sound turn_move st al so sh = clear-sound st.sender so
    sender-sound (burst_move g) st al so sh = burst-sound z zr st.sender g so al

    -- the waiting bytes are the messages'
    sender-shows : (c : Move) (st : Station) → st.sender.waiting ≡ goes st.queue → (step z c st).sender.waiting ≡ goes (step z c st).queue
    unfolding clear_burst requeue data_burst
    sender-shows idle st sh = sh
    sender-shows (queue_move c l bs) st sh = refl
    sender-shows (ack_move r keep) st sh = ack-shows (goes st.queue) r keep st.sender sh
    sender-shows (acks_move xs) st sh = hear-all (λ (x : Sender). x.waiting ≡ goes st.queue) (ack-shows (goes st.queue)) xs st.sender sh
    sender-shows turn_move st sh = sh
    sender-shows (burst_move g) st sh = let k = size (new_pieces g st.sender) in ap (drop k) sh ∙ sym (goes-flies k st.queue)

    -- the bytes taken, those withdrawn among them, grow by those queued alone
    sender-taken : (c : Move) (st : Station) → Allowed z c st → SoundStation z st →
        taken_of (step z c st).sender + (step z c st).withdrawn ≤ max_taken
    unfolding clear_burst requeue
    sender-taken idle st al ss = ss.taken
    sender-taken (queue_move c l bs) st al ss = omega (arith, al.1, length-enqueue c l st.queue bs, ap length ss.shows)
    sender-taken (ack_move r keep) st al ss = ack-taken st.withdrawn r keep st.sender ss.taken
    sender-taken (acks_move xs) st al ss =
        hear-all (λ (x : Sender). taken_of x + st.withdrawn ≤ max_taken) (ack-taken st.withdrawn) xs st.sender ss.taken
    sender-taken turn_move st al ss = ss.taken
    sender-taken (burst_move g) st al ss = omega (arith, ss.taken, burst-taken z zr st.sender g ss.sound al)

    pub step-sound : (c : Move) (st : Station) → Allowed z c st → SoundStation z st → SoundStation z (step z c st)
    step-sound c st al so =
        record {
          sound = sender-sound c st al so.sound so.shows;
          shows = sender-shows c st so.shows;
          taken = sender-taken c st al so;
        }

  -- ---- agreement

  settle-agree : (r : Reply) (keep : Bool) (s : Sender) (t : Tally) → s.awaited ≡ true → settles r s ≡ true → Sound z s → Agree s t →
      Agree (settle_burst z.top r keep s) (heard r t)
  unfolding settle_burst heard
  settle-agree r keep s t w n so ag =
      let b = r.bit (length s.sent) in
      let e : acknowledged_by r t.out t.flown ≡ acknowledge_all b 0 (frames s.pieces s.sent) t.flown =
      rw (ag.out, w, and_first (eqb r.number s.number) (ltb 0 (length s.sent)) n, frames-length s.pieces s.sent) in
      record {
        waiting = ag.waiting;
        flown =
            rw e
            (acknowledge_all-remaining z.long s.next b 0 s.sent s.pieces t.flown so.ascend (λ o. omega (arith, out-occurs z s so o)) ag.flown);
        out = refl;
      }

  -- an ack of another burst, or a turn
  clear-agree : (s : Sender) (t u : Tally) → waits u ≡ waits t → u.flown ≡ t.flown → u.out ≡ nothing → Agree s t → Agree (clear_burst s) u
  unfolding clear_burst
  clear-agree s t u e₁ e₂ e₃ ag = record { waiting = e₁ ∙ ag.waiting; flown = rw e₂ ag.flown; out = e₃ }

  unmatched-agree : (r : Reply) (s : Sender) (t : Tally) → s.awaited ≡ true → settles r s ≡ false → Agree s t → Agree (clear_burst s) (heard r t)
  unfolding heard
  unmatched-agree r s t w n ag =
      clear-agree s t (heard r t) refl (rw (ag.out, w) (unanswered r s.number s.pieces s.sent t.flown n)) refl ag

  not-awaited-agree : (r : Reply) (s : Sender) (t : Tally) → s.awaited ≡ false → Agree s t → Agree s (heard r t)
  unfolding heard
  not-awaited-agree r s t w ag = record { waiting = ag.waiting; flown = rw (ag.out, w) ag.flown; out = rw w }

  queue-agree : (c l : ℕ) (bs : List ℕ) (q : Queue) (s : Sender) (t : Tally) → t.queue ≡ q → Agree s t →
      Agree (requeue (goes (enqueue c l bs q)) s) (queued c l bs t)
  unfolding requeue queued
  queue-agree c l bs q s t e ag = record { waiting = ap (λ (x : Queue). goes (enqueue c l bs x)) e; flown = ag.flown; out = ag.out }

  turn_agree : (s : Sender) (t : Tally) → Agree s t → Agree (clear_burst s) (none_outstanding t)
  unfolding none_outstanding
  turn_agree s t ag = clear-agree s t (none_outstanding t) refl refl refl ag

  ack-agree : (r : Reply) (keep : Bool) (s : Sender) (t : Tally) → Sound z s → Agree s t → Agree (hear_ack z.top r keep s) (heard r t)
  unfolding hear_ack
  ack-agree r keep s t so ag =
      by (λ (x : Sender). Agree x (heard r t)) s.awaited
      (λ w. by (λ (x : Sender). Agree x (heard r t)) (settles r s) (λ n. settle-agree r keep s t w n so ag) (λ n. unmatched-agree r s t w n ag))
      (λ w. not-awaited-agree r s t w ag)

  all-agree : (xs : List (Reply × Bool)) (s : Sender) (t : Tally) → Sound z s → Agree s t → Agree (hear_all z.top xs s) (heard_all (replies_of xs) t)
  all-agree [] s t so ag = ag
  all-agree (x ∷ xs) s t so ag =
      all-agree xs (hear_ack z.top x.0 x.1 s) (heard x.0 t) (ack-sound x.0 x.1 s so) (ack-agree x.0 x.1 s t so ag)

  module _ (zr : SizeRange z) where
    burst-event : (g : Plan) (s : Sender) (t : Tally) → Fits z s g → Sound z s → Agree s t → Agree (data_burst g s) (feed (event (burst_move g) (data_burst g s)) t)
    unfolding data_burst
    burst-event g s t al so ag = burst-agree z zr s g so al t ag

    pub step-agree : (c : Move) (st : Station) (t : Tally) → Allowed z c st → Sound z st.sender → t.queue ≡ st.queue →
        Agree st.sender t → Agree (step z c st).sender (feed (move_told z c st) t)
    step-agree idle st t al so e ag = ag
    step-agree (queue_move c l bs) st t al so e ag = queue-agree c l bs st.queue st.sender t e ag
    step-agree (ack_move r keep) st t al so e ag = ack-agree r keep st.sender t so ag
    step-agree (acks_move xs) st t al so e ag = all-agree xs st.sender t so ag
    step-agree turn_move st t al so e ag = turn_agree st.sender t ag
    step-agree (burst_move g) st t al so e ag = burst-event g st.sender t al so ag

    all-queue : (rs : List Reply) (t : Tally) → (heard_all rs t).queue ≡ t.queue
    unfolding heard
    all-queue [] t = refl
    all-queue (r ∷ rs) t = all-queue rs (heard r t)

    all-withdrawn : (rs : List Reply) (t : Tally) → (heard_all rs t).withdrawn ≡ t.withdrawn
    unfolding heard
    all-withdrawn [] t = refl
    all-withdrawn (r ∷ rs) t = all-withdrawn rs (heard r t)

    -- and the tally's messages are the sender's
    pub step-queue : (c : Move) (st : Station) (t : Tally) → Allowed z c st → Sound z st.sender → t.queue ≡ st.queue →
        Agree st.sender t → (feed (move_told z c st) t).queue ≡ (step z c st).queue
    unfolding queued heard none_outstanding sent_out data_burst
    step-queue idle st t al so e ag = e
    step-queue (queue_move c l bs) st t al so e ag = ap (enqueue c l bs) e
    step-queue (ack_move r keep) st t al so e ag = e
    step-queue (acks_move xs) st t al so e ag = all-queue (replies_of xs) t ∙ e
    step-queue turn_move st t al so e ag = e
    step-queue (burst_move g) st t al so e ag = ap₂ flies (burst-takes z zr st.sender g so al t ag) e

    -- the bytes that it counts as withdrawn are those of the messages that the tally has withdrawn
    pub step-withdrawn : (c : Move) (st : Station) (t : Tally) → t.queue ≡ st.queue → st.withdrawn ≡ length (message_bytes t.withdrawn)
        → (step z c st).withdrawn ≡ length (message_bytes (feed (move_told z c st) t).withdrawn)
    unfolding queued heard none_outstanding sent_out
    step-withdrawn idle st t e w = w
    step-withdrawn (queue_move c l bs) st t e w =
        let gone = ap (λ (q : Queue). length (message_bytes (superseded l bs q))) e in
        omega (arith, w, gone, length-bytes-append t.withdrawn (superseded l bs t.queue))
    step-withdrawn (ack_move r keep) st t e w = w
    step-withdrawn (acks_move xs) st t e w = w ∙ sym (ap (λ (ms : List Message). length (message_bytes ms)) (all-withdrawn (replies_of xs) t))
    step-withdrawn turn_move st t e w = w
    step-withdrawn (burst_move g) st t e w = w

  -- ---- held pieces

  settle-keeps : (r : Reply) (keep : Bool) (s : Sender) (o : ℕ) → Sound z s → 1 ≤ occurs o (held_offs (settle_burst z.top r keep s).held) →
      find o (settle_burst z.top r keep s).pieces ≡ find o s.pieces
  unfolding settle_burst
  settle-keeps r keep s o so h =
      find-remaining z.long s.next (r.bit (length s.sent)) 0 o s.sent s.pieces so.ascend (omega (arith, after-within r keep s so o))

  -- after an ack none is awaited, and one that is not awaited changes nothing
  none-awaited : (xs : List (Reply × Bool)) (s : Sender) → s.awaited ≡ false → hear_all z.top xs s ≡ s
  none-awaited [] s e = refl
  none-awaited (x ∷ xs) s e =
      none-awaited xs (hear_ack z.top x.0 x.1 s) (ack-ends z.top x.0 x.1 s) ∙ not-awaited z.top x.0 x.1 s e

  clear-pieces : (s : Sender) → (clear_burst s).pieces ≡ s.pieces
  unfolding clear_burst
  clear-pieces s = refl

  queue-pieces : (w : List ℕ) (s : Sender) → (requeue w s).pieces ≡ s.pieces
  unfolding requeue
  queue-pieces w s = refl

  abbrev KeepsAt : ℕ → Sender → Sender → Type 0
  KeepsAt o s x = 1 ≤ occurs o (held_offs x.held) → find o x.pieces ≡ find o s.pieces

  ack-keeps : (r : Reply) (keep : Bool) (s : Sender) (o : ℕ) → Sound z s → KeepsAt o s (hear_ack z.top r keep s)
  unfolding hear_ack
  ack-keeps r keep s o so =
      by (KeepsAt o s) s.awaited
      (λ w. by (KeepsAt o s) (settles r s) (λ n. settle-keeps r keep s o so) (λ n u. rw (clear-pieces s)))
      (λ w u. refl)

  all-keeps : (xs : List (Reply × Bool)) (s : Sender) (o : ℕ) → Sound z s → KeepsAt o s (hear_all z.top xs s)
  all-keeps [] s o so = λ h. refl
  all-keeps (x ∷ xs) s o so =
      subst (KeepsAt o s) (sym (none-awaited xs (hear_ack z.top x.0 x.1 s) (ack-ends z.top x.0 x.1 s))) (ack-keeps x.0 x.1 s o so)

  module _ (zr : SizeRange z) where
    pub step_keeps : (c : Move) (st : Station) (o : ℕ) → Allowed z c st → Sound z st.sender →
        1 ≤ occurs o (held_offs (step z c st).sender.held) →
        find o (step z c st).sender.pieces ≡ find o st.sender.pieces
    step_keeps idle st o al so h = refl
    step_keeps (queue_move c l bs) st o al so h = rw (queue-pieces (goes (enqueue c l bs st.queue)) st.sender)
    step_keeps (ack_move r keep) st o al so h = ack-keeps r keep st.sender o so h
    step_keeps (acks_move xs) st o al so h = all-keeps xs st.sender o so h
    step_keeps turn_move st o al so h = rw (clear-pieces st.sender)
    step_keeps (burst_move g) st o al so h = burst-keeps z zr st.sender g so al o h
