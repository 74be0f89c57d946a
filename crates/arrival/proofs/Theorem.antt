-- END TO END, as the page states it (specs/EndToEnd.antt). How it goes: `Inv` ties the box to the tally of the sender's calls. Frames on the air
-- carry flown bytes (demand 3's `output`, `room` and `fits`), the outstanding burst is the latest one, and the bits that an answer sets name
-- frames whose bytes the box has. A call keeps it (`call_step`), and so do frames that arrive (`arrive-step`). Assumes nothing.
use Prim.Native.Nat.{ℕ, zero, suc, ◌+◌, ◌-◌, ◌^◌, ◌≤◌, ◌<◌}
use mathlib.Core.Path.{◌≡◌, refl, sym, ap, ap₂, ◌∙◌, subst}
use mathlib.Core.Logic.{◌⊎◌, inl, inr}
use mathlib.Core.Bool.{Bool, true, false, cond, ◌&&◌, ◌||◌, false≢true}
use mathlib.Core.List.{List, [], ◌∷◌, ◌++◌, map, append-nil}
use native.Mathlib.Omega.{arith}
use lib.Dec.{ltb, eqb}
use lib.Pow.{pow_mono}
use lib.ListN.{length, take, drop, get_or, replicate, length-append, length-map, length-take, length-drop, take-append-drop}
use lib.Seq.{take-append-le, drop-append-le, get_or-take, get_or-drop}
use borrow.Author.Tests.{eqb-true, ltb-true, ltb-false}
use Rattle.std.proofs.Common.{Option, Some, None}
use Rattle.laws.specs.Bytes.{overwrite, Bytes}
use Rattle.laws.proofs.Picks.{by, test, either, and_second}
use Rattle.config.specs.declared.Profile.{Profile}
use Rattle.config.specs.Durations.{frame_bytes}
use Rattle.report.specs.Ack.{ack_of, info_of}
use Rattle.report.specs.declared.ack.AckInfo.{AckInfo}
use Rattle.ledger.specs.Ledger.{Frame}
use Rattle.ledger.specs.Calls.{Along}
use Rattle.ledger.specs.Claim.{settled_by, named, any_named, bit_over}
use Rattle.ledger.specs.Reply.{bit_at, long_ack}
use Rattle.ledger.specs.Reply as L
use Rattle.ledger.specs.Tally as T
use Rattle.ledger.specs.Tally.{Tally, Event, Outstanding, nothing, outstanding, silent, took, reply, replies, turn, went, byte_of, waits, feed, queued, sent_out, heard, heard_all, none_outstanding, furthest}
use Rattle.ledger.proofs.InFlight.{flown-parts}
use Rattle.replies.specs.declared.Heard.{Heard}
use Rattle.refusals.specs.declared.Reply.{Reply}
use Rattle.refusals.specs.declared.Reply.TheVariants.{ConnAck, Ack, LongAck, Turn}
use Rattle.verdicts.specs.Verdicts.{passed}
use Rattle.reception.specs.Reception.{Decoded, decoded_in, is_ack_read}
use Rattle.sender.specs.Calls.{burst_call}
use Rattle.demand.specs.Lists.{Call, queues, hears, receives, bursts, State, Given, fresh_start, frames_answered, next, call_told, long_event, reply_event, replies_in}
use Rattle.demand.specs.Page.{by_offset, Taken, answer as burst_answer, Sends, Further}
use Rattle.demand.proofs.Payloads.{sent-bytes}
use Rattle.demand.proofs.Theorem.{demand3}
use Rattle.window.specs.Window as W
use Rattle.window.specs.WindowCode.{has}
use Rattle.window.proofs.Fits.{has-moved, has-or, kept-within, fits-zeros, fits-part, fits-at}
use Rattle.receiver.specs.Frames.{Slotted, len_of, off_of, box_bytes, offsets}
use Rattle.receiver.specs.Receiving.{ack_bytes, reception_of, receive_refusal, no_answer}
use Rattle.receiver.specs.Taking.{none_taken, all_taken}
use Rattle.receiver.specs.declared.Listened.{Listened}
use Rattle.receiver.proofs.Takes.{Carries, Named, Took, stays_all}
use Rattle.arrival.specs.Channel.{World, SentBurst, silence, Happening, calls, arrives, happens, calling, arriving, bursts_after, answers_after, output_of, cut_into, is_latest, OneOf, EachOneOf, FromBox, quiet, sender_state}
use Rattle.arrival.specs.EndToEnd.{counted, all_happens, May, MayAll, FewTaken, EndToEnd, EndToEndClaim}
use Rattle.arrival.proofs.Typed.{told-by, flown-typed}
use Rattle.arrival.proofs.Growing.{bytes, run-snoc, along-snoc, tally-snoc, more, grows, taken-grows}
use Rattle.arrival.proofs.Core.{Arrived, called, received}
use Rattle.arrival.proofs.Sending.{frames_by, cut-frames, Matches, AllCarry, taken-flies, sent-matches, sent-carry}
use Rattle.arrival.proofs.Arriving.{accepts, slotted_by, slotted-back, carries-at, took as took_of, stays, window-is, handed-is}
use Rattle.arrival.proofs.Reading.{read_back, info-back, bit_found}

-- ---- frames on the air carry the flown bytes, however many more fly

carries-more : (l m f : List ℕ) → Carries l f → Carries (l ++ m) f
carries-more l m f c =
    let k = c.within in
    record {
      whole = c.whole;
      within = omega (arith, k, length-append l m);
      same = c.same ∙ sym (ap (take (len_of f)) (drop-append-le (off_of f) l m (omega (arith, k)))
          ∙ take-append-le (len_of f) (drop (off_of f) l) m (omega (arith, k, length-drop (off_of f) l)));
      bytes = c.bytes;
    }

all_more : (l m : List ℕ) (gs : List (List ℕ)) → AllCarry l gs → AllCarry (l ++ m) gs
all_more l m [] a = tt
all_more l m (g ∷ gs) a = (carries-more l m g a.0, all_more l m gs a.1)

abbrev AllSent : List ℕ → List SentBurst → Type 0
AllSent l [] = Unit {0}
AllSent l (b ∷ bs) = AllCarry l b.frames × AllSent l bs

sent-more : (l m : List ℕ) (bs : List SentBurst) → AllSent l bs → AllSent (l ++ m) bs
sent-more l m [] a = tt
sent-more l m (b ∷ bs) a = (all_more l m b.frames a.0, sent-more l m bs a.1)

sent-at : (l : List ℕ) (bs : List SentBurst) (k : ℕ) → AllSent l bs → AllCarry l (get_or bs k silence).frames
sent-at l [] k a = tt
sent-at l (b ∷ bs) zero a = a.0
sent-at l (b ∷ bs) (suc k) a = sent-at l bs k a.1

-- ---- the latest burst is the outstanding one, if any is

abbrev Latest : Outstanding → List SentBurst → Type 0
Latest nothing bs = Unit {0}
Latest (outstanding k fs) [] = ⊥
Latest (outstanding k fs) (b ∷ bs) = (b.number ≡ k) × Matches fs b.frames

-- no burst
abbrev Still : Event → Type 0
Still silent = Unit {0}
Still (took c l bs) = Unit {0}
Still (reply r) = Unit {0}
Still (replies rs) = Unit {0}
Still turn = Unit {0}
Still (went k fs) = ⊥

latest-heard : (rs : List L.Reply) (t : Tally) (bs : List SentBurst) → Latest t.out bs → Latest (heard_all rs t).out bs
unfolding heard
latest-heard [] t bs l = l
latest-heard (r ∷ rs) t bs l = latest-heard rs (heard r t) bs tt

still-latest : (e : Event) (t : Tally) (bs : List SentBurst) → Still e → Latest t.out bs → Latest (feed e t).out bs
unfolding queued heard none_outstanding
still-latest silent t bs s l = l
still-latest (took c k xs) t bs s l = l
still-latest (reply r) t bs s l = tt
still-latest (replies rs) t bs s l = latest-heard rs t bs l
still-latest turn t bs s l = tt
still-latest (went k fs) t bs s l = absurd s

still-bursts : (e : Event) (size : ℕ) (out : List ℕ) (bs : List SentBurst) → Still e → bursts_after size out e bs ≡ bs
still-bursts silent size out bs s = refl
still-bursts (took c l xs) size out bs s = refl
still-bursts (reply r) size out bs s = refl
still-bursts (replies rs) size out bs s = refl
still-bursts turn size out bs s = refl
still-bursts (went k fs) size out bs s = absurd s

still-answers : (e : Event) (ys : List (List ℕ)) → Still e → answers_after e ys ≡ ys
still-answers silent ys s = refl
still-answers (took c l xs) ys s = refl
still-answers (reply r) ys s = refl
still-answers (replies rs) ys s = refl
still-answers turn ys s = refl
still-answers (went k fs) ys s = absurd s

-- a new burst has no answer yet
none_yet : (k : ℕ) (fs : List Frame) (ys : List (List ℕ)) → answers_after (went k fs) ys ≡ []
none_yet k fs ys = refl

-- only an answer to frames of the latest burst may reach the sender
latest-is : (k : ℕ) → is_latest k ≡ true → k ≡ 0
latest-is k e = omega (arith, eqb-true k _ e)

long-still : (x : Option AckInfo) → Still (long_event x)
long-still None = tt
long-still (Some i) = tt

reply-still : (r : Reply) (b : List ℕ) → Still (reply_event r b)
reply-still (ConnAck r) b = tt
reply-still (Ack r) b = tt
reply-still (LongAck r) b = long-still (ack_of b)
reply-still (Turn r) b = tt

abbrev NoBurst : Call → Type 0
NoBurst (queues k l bs) = Unit {0}
NoBurst (hears h r b) = Unit {0}
NoBurst (receives h r b) = Unit {0}
NoBurst (bursts out) = ⊥

-- ---- what an answer to frames of the latest burst says is so

pub record Says (sent : List SentBurst) (first : ℕ) (window answer : List ℕ) : Type 0 where
  pub bitmap : ℕ
  pub db : ℕ
  pub count : ℕ
  pub is : answer ≡ ack_bytes (get_or sent 0 silence).number bitmap db count
  pub number : (get_or sent 0 silence).number ≤ 3
  pub wide : bitmap < 2 ^ 64
  pub so : Named [] first (λ (i : ℕ). get_or (get_or sent 0 silence).frames i []) bitmap window

abbrev AllSay : List SentBurst → ℕ → List ℕ → List (List ℕ) → Type 0
AllSay sent first window [] = Unit {0}
AllSay sent first window (y ∷ ys) = Says sent first window y × AllSay sent first window ys

one-says : (sent : List SentBurst) (first : ℕ) (window b : List ℕ) (ys : List (List ℕ)) → OneOf b ys → AllSay sent first window ys → Says sent first window b
one-says sent first window b [] o s = absurd o
one-says sent first window b (y ∷ ys) (inl e) s = subst (Says sent first window) (sym e) s.0
one-says sent first window b (y ∷ ys) (inr o) s = one-says sent first window b ys o s.1

-- as the box has more
says-more : (sent : List SentBurst) (first first' : ℕ) (x y : List ℕ) → ((o : ℕ) → has first x o ≡ true → has first' y o ≡ true)
    → (ys : List (List ℕ)) → AllSay sent first x ys → AllSay sent first' y ys
says-more sent first first' x y f [] s = tt
says-more sent first first' x y f (z ∷ ys) s = (
  (let q = s.0 in
      record { bitmap = q.bitmap; db = q.db; count = q.count; is = q.is; number = q.number; wide = q.wide; so = λ i b o lo hi. f o (q.so i b o lo hi) }),
  says-more sent first first' x y f ys s.1,
)

-- what an ack with such an answer names, the box has
named-has : (sent : List SentBurst) (first : ℕ) (window b : List ℕ) (s : Says sent first window b) (x : Outstanding) → Latest x sent → (o : ℕ)
    → named (long_ack (get_or sent 0 silence).number s.bitmap) x o ≡ true → has first window o ≡ true
named-has sent first window b s x l o e = go x sent refl l e
  where
    go : (y : Outstanding) (bs : List SentBurst) → bs ≡ sent → Latest y bs → named (long_ack (get_or sent 0 silence).number s.bitmap) y o ≡ true → has first window o ≡ true
    go nothing bs q k f = absurd (false≢true f)
    go (outstanding j fs) [] q k f = absurd k
    go (outstanding j fs) (d ∷ bs) q k f =
        let m = bit_found (bit_at s.bitmap) 0 fs d.frames o k.1 (and_second (eqb (get_or sent 0 silence).number j) (bit_over (bit_at s.bitmap) 0 fs o) f) in
        let at : (i : ℕ) → get_or d.frames i [] ≡ get_or (get_or sent 0 silence).frames i [] = λ i. ap (λ (z : List SentBurst). get_or (get_or z 0 silence).frames i []) q in
        s.so m.0 (ap (bit_at s.bitmap) (let z : m.0 ≡ 0 + m.0 = omega arith in z) ∙ m.1) o
        (subst (λ (g : List ℕ). off_of g ≤ o) (at m.0) m.2) (subst (λ (g : List ℕ). o < off_of g + len_of g) (at m.0) m.3)

-- of a long ack
long-settles : (sent : List SentBurst) (first : ℕ) (window b : List ℕ) → Says sent first window b → (x : Outstanding) → Latest x sent → (o : ℕ)
    → settled_by (long_event (ack_of b)) x o ≡ true → has first window o ≡ true
long-settles sent first window b s x l o e =
    let told_is : long_event (ack_of b) ≡ reply (long_ack (get_or sent 0 silence).number s.bitmap) =
    ap (λ (z : List ℕ). long_event (ack_of z)) s.is ∙ read_back _ s.bitmap s.db s.count s.number s.wide in
    named-has sent first window b s x l o (sym (ap (λ (z : Event). settled_by z x o) told_is) ∙ e)

-- of a reception: behind the first ack none is outstanding
none_named : (rs : List L.Reply) (o : ℕ) → any_named rs nothing o ≡ false
none_named [] o = refl
none_named (r ∷ rs) o = none_named rs o

frames-settle : (sent : List SentBurst) (first : ℕ) (window : List ℕ) (ys : List (List ℕ)) → AllSay sent first window ys → (x : Outstanding) → Latest x sent → (o : ℕ)
    → (fs : List Decoded) → EachOneOf fs ys → any_named (replies_in fs) x o ≡ true → has first window o ≡ true
frames-settle sent first window ys a x l o [] m = λ e. absurd (false≢true e)
frames-settle sent first window ys a x l o (f ∷ fs) m =
    by (λ (rs : List L.Reply). any_named rs x o ≡ true → has first window o ≡ true) (is_ack_read f)
    (λ k e.
    let s = one-says sent first window f.payload ys (m.0 k) a in
    let r : long_ack (info_of f.payload).burst (info_of f.payload).bitmap ≡ long_ack (get_or sent 0 silence).number s.bitmap =
    ap (λ (z : List ℕ). long_ack (info_of z).burst (info_of z).bitmap) s.is ∙ info-back _ s.bitmap s.db s.count s.number s.wide in
    let n : (named (long_ack (info_of f.payload).burst (info_of f.payload).bitmap) x o || any_named (replies_in fs) nothing o) ≡ named (long_ack (get_or sent 0 silence).number s.bitmap) x o =
    ap₂ (λ (z : L.Reply) (b : Bool). named z x o || b) r (none_named (replies_in fs) o) ∙ or-false (named (long_ack (get_or sent 0 silence).number s.bitmap) x o) in
    named-has sent first window f.payload s x l o (sym n ∙ e))
    (λ k e. frames-settle sent first window ys a x l o fs m.1 e)
  where
    or-false : (b : Bool) → (b || false) ≡ b
    or-false true = refl
    or-false false = refl

module _ (p : Profile) (six : length p.codes.ends ≤ 6) (n : ℕ) where
  -- the window's places that are the box's
  abbrev places : World → List ℕ
  places w = take box_bytes w.window

  pub record Inv (w : World) : Type 0 where
    pub given : Along (next p) Given w.made (fresh_start n)
    pub arrived : Arrived (counted p n w) w.receiver.first_missing (places w) w.handed
    pub carried : AllSent (bytes (counted p n w)) w.bursts_sent
    pub latest : Latest (counted p n w).out w.bursts_sent
    pub says : AllSay w.bursts_sent w.receiver.first_missing (places w) w.answers

  after-tally : (w : World) (i : Call) → counted p n (calling p n i w) ≡ feed (call_told p i (sender_state p n w)) (counted p n w)
  after-tally w i = tally-snoc (next p) (call_told p) w.made i (fresh_start n) T.start

  -- bytes by offset are no more than were taken
  few_bytes : (w : World) → Along (next p) Given w.made (fresh_start n) → length (by_offset (counted p n w)) ≤ (counted p n w).taken
  few_bytes w g =
      let t = counted p n w in
      omega (
        arith,
        (demand3 p six n w.made g).0.sum,
        flown-parts t.flown,
        length-map t.flown byte_of,
        length-append (bytes t) (waits t),
      )

  -- ---- a call that is no burst

  still-step : (i : Call) (w : World) → Given i (sender_state p n w) → Still (call_told p i (sender_state p n w))
      → ((o : ℕ) → settled_by (call_told p i (sender_state p n w)) (counted p n w).out o ≡ true → has w.receiver.first_missing (places w) o ≡ true)
      → Inv w → Inv (calling p n i w)
  still-step i w g s k v =
      let c = sender_state p n w in
      let e = call_told p i c in
      let q = counted p n w in
      let z = after-tally w i in
      let first = w.receiver.first_missing in
      let a = still-bursts e (frame_bytes p c.0.sender.gear.level) (output_of p n i c) w.bursts_sent s in
      let b = still-answers e w.answers s in
      let x = ((demand3 p six n w.made v.given).2 i g).exactly in
      record {
        given = along-snoc (next p) Given w.made i (fresh_start n) v.given g;
        arrived = subst (λ (x : Tally). Arrived x first (places w) w.handed) (sym z) (called e q (more e q) _ _ _ (grows e q) x k v.arrived);
        carried = subst (λ (x : List SentBurst). AllSent (bytes (counted p n (calling p n i w))) x) (sym a)
            (subst (λ (l : List ℕ). AllSent l w.bursts_sent) (sym (ap bytes z ∙ grows e q)) (sent-more (bytes q) (more e q) w.bursts_sent v.carried));
        latest = subst (λ (x : List SentBurst). Latest (counted p n (calling p n i w)).out x) (sym a)
            (subst (λ (x : Tally). Latest x.out w.bursts_sent) (sym z) (still-latest e q w.bursts_sent s v.latest));
        says = subst (λ (x : List SentBurst). AllSay x first (places w) (answers_after e w.answers)) (sym a)
            (subst (λ (x : List (List ℕ)). AllSay w.bursts_sent first (places w) x) (sym b) v.says);
      }

  told-still : (i : Call) (x : State) → NoBurst i → Still (call_told p i x)
  told-still i x h = told-by p Still i x tt (λ k l bs e. tt) (λ y r b e. reply-still r b) (λ y r b e. tt) (λ k fs out e. absurd (subst NoBurst e h))

  -- what a call settles, the box has
  settles : (i : Call) (w : World) → FromBox w.answers i → Inv w → (o : ℕ)
      → settled_by (call_told p i (sender_state p n w)) (counted p n w).out o ≡ true → has w.receiver.first_missing (places w) o ≡ true
  settles i w m v o =
      told-by p (λ (e : Event). settled_by e (counted p n w).out o ≡ true → has w.receiver.first_missing (places w) o ≡ true) i (sender_state p n w)
      (λ f. absurd (false≢true f)) (λ k l bs e f. absurd (false≢true f)) (λ h r b e. by-reply h r b (subst (FromBox w.answers) e m))
      (λ h r b e. frames-settle w.bursts_sent w.receiver.first_missing (places w) w.answers v.says (counted p n w).out v.latest o (decoded_in r b)
      (subst (FromBox w.answers) e m))
      (λ k fs out e f. absurd (false≢true f))
    where
      by-reply : (h : Heard) (r : Reply) (b : List ℕ) → FromBox w.answers (hears h r b) → settled_by (reply_event r b) (counted p n w).out o ≡ true
          → has w.receiver.first_missing (places w) o ≡ true
      by-reply h (ConnAck r) b k f = absurd (false≢true f)
      by-reply h (Ack r) b k f = absurd k
      by-reply h (LongAck r) b k f =
          long-settles w.bursts_sent w.receiver.first_missing (places w) b
          (one-says w.bursts_sent w.receiver.first_missing (places w) b w.answers k v.says) (counted p n w).out v.latest o f
      by-reply h (Turn r) b k f = absurd (false≢true f)

  -- ---- a burst

  went-out : (k : ℕ) (fs : List Frame) (x : Tally) → (feed (went k fs) x).out ≡ outstanding k fs
  unfolding sent_out
  went-out k fs x = refl

  went-flown : (k : ℕ) (fs : List Frame) (x : Tally) → length (bytes (feed (went k fs) x)) ≡ length x.flown + length (take (furthest fs - length x.flown) (waits x))
  went-flown k fs x = ap length (grows (went k fs) x) ∙ length-append (bytes x) (more (went k fs) x) ∙ ap (λ (j : ℕ). j + length (more (went k fs) x)) (length-map x.flown byte_of)

  module _ (out : List ℕ) (w : World) (few : FewTaken p n (calling p n (bursts out) w)) (v : Inv w)
      (ok : passed (burst_call p (sender_state p n w).0 (sender_state p n w).1 out).0.verdict ≡ true) where
    abbrev c : State
    c = sender_state p n w

    abbrev size : ℕ
    size = frame_bytes p c.0.sender.gear.level

    abbrev number : ℕ
    number = (burst_call p c.0 c.1 out).0.outgoing.number

    abbrev fs : List Frame
    fs = frames_answered (burst_call p c.0 c.1 out).0.outgoing.frames

    abbrev t : Tally
    t = counted p n w

    -- the tally after the burst
    abbrev t' : Tally
    t' = feed (went number fs) t

    sends : Sends p n w.made out
    sends = (demand3 p six n w.made v.given).3 out ok

    said : call_told p (bursts out) c ≡ went number fs
    said = rw ok refl

    is : counted p n (calling p n (bursts out) w) ≡ t'
    is = after-tally w (bursts out) ∙ ap (λ (e : Event). feed e t) said

    given : Along (next p) Given (calling p n (bursts out) w).made (fresh_start n)
    given = along-snoc (next p) Given w.made (bursts out) (fresh_start n) v.given tt

    fit : length (by_offset t) ≤ offsets
    fit =
        omega (
          arith,
          few_bytes (calling p n (bursts out) w) given,
          ap (λ (x : Tally). length (by_offset x)) is,
          ap length (sent-bytes number fs t),
          few,
        )

    -- the frames lie within the bytes that fly now
    flying : Taken (bytes t') fs
    flying =
        taken-flies (by_offset t) (bytes t') (furthest fs)
        (λ k a b. omega (arith, a, b, went-flown number fs t, length-take (furthest fs - length t.flown) (waits t), length-append (bytes t) (waits t), length-map t.flown byte_of))
        fs (omega arith) sends.frames

    made : cut_into size (length fs) (burst_call p c.0 c.1 out).1.1 ≡ frames_by size (by_offset t) fs
    made = ap (cut_into size (length fs)) sends.output ∙ cut-frames size (by_offset t) fs out sends.room sends.frames sends.fits

    abbrev now : List SentBurst
    now = record { number = number; frames = frames_by size (by_offset t) fs } ∷ w.bursts_sent

    on-air : bursts_after size (burst_call p c.0 c.1 out).1.1 (call_told p (bursts out) c) w.bursts_sent ≡ now
    on-air =
        ap (λ (x : Event). bursts_after size (burst_call p c.0 c.1 out).1.1 x w.bursts_sent) said
        ∙ ap (λ (x : List (List ℕ)). record { number = number; frames = x } ∷ w.bursts_sent) made

    burst-yes : Inv (calling p n (bursts out) w)
    burst-yes =
        let first = w.receiver.first_missing in
        let x = ((demand3 p six n w.made v.given).2 (bursts out) tt).exactly in
        let typed = subst (λ (x : Tally). Bytes (bytes x)) is (flown-typed p six n (calling p n (bursts out) w).made given) in
        record {
          given = given;
          arrived = subst (λ (x : Tally). Arrived x first (places w) w.handed) (sym (after-tally w (bursts out)))
              (called (call_told p (bursts out) c) t (more (call_told p (bursts out) c) t) _ _ _ (grows (call_told p (bursts out) c) t) x (settles (bursts out) w tt v) v.arrived);
          carried = subst (λ (x : List SentBurst). AllSent (bytes (counted p n (calling p n (bursts out) w))) x) (sym on-air)
              (subst (λ (x : Tally). AllSent (bytes x) now) (sym is) (
                sent-carry size (by_offset t) (bytes t') (waits t') (sym (sent-bytes number fs t)) fit typed fs sends.frames flying,
                subst (λ (l : List ℕ). AllSent l w.bursts_sent) (sym (grows (went number fs) t)) (sent-more (bytes t) (more (went number fs) t) w.bursts_sent v.carried),
              ));
          latest = subst (λ (x : List SentBurst). Latest (counted p n (calling p n (bursts out) w)).out x) (sym on-air)
              (subst (λ (x : Outstanding). Latest x now) (sym (ap (λ (x : Tally). x.out) is ∙ went-out number fs t))
              (refl, sent-matches size (by_offset t) (bytes t') (waits t') (sym (sent-bytes number fs t)) fit fs sends.frames));
          says = subst (λ (x : List (List ℕ)). AllSay (calling p n (bursts out) w).bursts_sent first (places w) x)
              (sym (ap (λ (e : Event). answers_after e w.answers) said ∙ none_yet number fs w.answers)) tt;
        }

  burst-step : (out : List ℕ) (w : World) → FewTaken p n (calling p n (bursts out) w) → Inv w → Inv (calling p n (bursts out) w)
  burst-step out w few v =
      test (passed (burst_call p (sender_state p n w).0 (sender_state p n w).1 out).0.verdict)
      (λ ok. burst-yes out w few v ok)
      (λ no.
      let f : call_told p (bursts out) (sender_state p n w) ≡ silent = rw no refl in
      still-step (bursts out) w tt (subst Still (sym f) tt) (settles (bursts out) w tt v) v)

  call_step : (i : Call) (w : World) → Given i (sender_state p n w) → FromBox w.answers i → FewTaken p n (calling p n i w) → Inv w → Inv (calling p n i w)
  call_step (queues k l bs) w g m few v = still-step (queues k l bs) w g (told-still (queues k l bs) (sender_state p n w) tt) (settles (queues k l bs) w m v) v
  call_step (hears h r b) w g m few v = still-step (hears h r b) w g (told-still (hears h r b) (sender_state p n w) tt) (settles (hears h r b) w m v) v
  call_step (receives h r b) w g m few v = still-step (receives h r b) w g (told-still (receives h r b) (sender_state p n w) tt) (settles (receives h r b) w m v) v
  call_step (bursts out) w g m few v = burst-step out w few v

  -- ---- frames arrive

  abbrev burst : ℕ → World → SentBurst
  burst k w = get_or w.bursts_sent k silence

  abbrev frame_at : ℕ → World → ℕ → List ℕ
  frame_at k w i = get_or (burst k w).frames i []

  abbrev left : ℕ → World → Listened × (List ℕ × List ℕ) → World
  left k w x =
      record {
        made = w.made;
        bursts_sent = w.bursts_sent;
        receiver = x.0.next;
        window = x.1.0;
        handed = w.handed ++ take x.0.answer.handed x.1.1;
        answers = cond (eqb x.0.answer.refusal 0 && is_latest k) (x.0.answer.payload ∷ w.answers) w.answers;
      }

  -- the call that is accepted, by its frames
  abbrev made_of : ℕ → ℕ → List ℕ → World → List Slotted → Listened × (List ℕ × List ℕ)
  made_of k db out w xs =
      let first = w.receiver.first_missing in
      let y = all_taken first xs (none_taken, take box_bytes w.window) in (
        record {
          answer = record { refusal = 0; payload = ack_bytes (burst k w).number y.0.bitmap db (first + W.lead y.1); handed = W.lead y.1; wrong = y.0.wrong; beyond = y.0.beyond };
          next = record { first_missing = first + W.lead y.1 };
        },
        (overwrite w.window 0 (W.moved y.1), overwrite out 0 (W.handed y.1)),
      )

  arrive-yes : (k : ℕ) (xs : List ℕ) (db : ℕ) (out : List ℕ) (w : World) → Inv w
      → eqb (receive_refusal w.receiver w.window (burst k w).number (length out)) 0 ≡ true → Inv (left k w (made_of k db out w (slotted_by (frame_at k w) xs)))
  arrive-yes k ps db out w v ok =
      let a = w.window in
      let first = w.receiver.first_missing in
      let q = counted p n w in
      let l = bytes q in
      let at = frame_at k w in
      let ac = accepts w.receiver a (burst k w).number (length out) ok in
      let h = v.arrived.within in
      let c : (i : ℕ) → Carries l (at i) = λ i. carries-at l (burst k w).frames i (sent-at l w.bursts_sent k v.carried) in
      let f = v.arrived.fits in
      let xs = slotted_by at ps in
      let y = all_taken first xs (none_taken, take box_bytes a) in
      let t : Took l first at y = took_of l first h at c ps a ac.0 f in
      let win = window-is l first h at c ps a ac.0 f in
      let on = handed-is l first h at c ps a ac.0 f out ac.2 in
      let past = first + W.lead y.1 in
      let answer = ack_bytes (burst k w).number y.0.bitmap db past in
      let arr : Arrived q past (W.moved y.1) (w.handed ++ W.handed y.1) =
      received q first (take box_bytes a) y.1 w.handed t.fits (λ o e. stays_all l first at h xs (none_taken, take box_bytes a) o e) v.arrived in
      let kept = says-more w.bursts_sent first past (take box_bytes a) (W.moved y.1) (stays l first h at c ps a ac.0 f) w.answers v.says in
      record {
        given = v.given;
        arrived = subst (λ (x : List ℕ). Arrived q past x (w.handed ++ take (W.lead y.1) (overwrite out 0 (W.handed y.1)))) (sym win)
            (subst (λ (x : List ℕ). Arrived q past (W.moved y.1) (w.handed ++ x)) (sym on) arr);
        carried = v.carried;
        latest = v.latest;
        says = subst (λ (x : List ℕ). AllSay w.bursts_sent past x (cond (is_latest k) (answer ∷ w.answers) w.answers)) (sym win)
            (by (AllSay w.bursts_sent past (W.moved y.1)) (is_latest k)
            (λ e.
            let z : k ≡ 0 = latest-is k e in (
              record {
                bitmap = y.0.bitmap;
                db = db;
                count = past;
                is = ap (λ (j : ℕ). ack_bytes (burst j w).number y.0.bitmap db past) z;
                number = subst (λ (j : ℕ). (burst j w).number ≤ 3) z ac.1;
                wide = omega (arith, t.small, pow_mono t.few);
                so = λ i b o lo hi. has-moved first y.1 o (t.named i b o (subst (λ (j : ℕ). off_of (frame_at j w i) ≤ o) (sym z) lo)
                    (subst (λ (j : ℕ). o < off_of (frame_at j w i) + len_of (frame_at j w i)) (sym z) hi));
              },
              kept,
            ))
            (λ e. kept));
      }

  arrive-no : (k j : ℕ) (out : List ℕ) (w : World) → eqb j 0 ≡ false → Inv w → Inv (left k w (record { answer = no_answer j; next = w.receiver }, (w.window, out)))
  arrive-no k j out w e v =
      record {
        given = v.given;
        arrived = subst (λ (x : List ℕ). Arrived (counted p n w) w.receiver.first_missing (places w) x) (sym (append-nil w.handed)) v.arrived;
        carried = v.carried;
        latest = v.latest;
        says = subst (λ (x : List (List ℕ)). AllSay w.bursts_sent w.receiver.first_missing (places w) x)
            (sym (ap (λ (b : Bool). cond (b && is_latest k) (replicate 13 0 ∷ w.answers) w.answers) e)) v.says;
      }

  arrive-step : (k : ℕ) (ps : List ℕ) (db : ℕ) (out : List ℕ) (w : World) → Inv w → Inv (arriving p n k ps db out w)
  unfolding reception_of
  arrive-step k ps db out w v =
      by (λ (x : Listened × (List ℕ × List ℕ)). Inv (left k w x)) (eqb (receive_refusal w.receiver w.window (burst k w).number (length out)) 0)
      (λ ok. subst (λ (xs : List Slotted). Inv (left k w (made_of k db out w xs))) (sym (slotted-back (frame_at k w) ps)) (arrive-yes k ps db out w v ok))
      (λ e. arrive-no k (receive_refusal w.receiver w.window (burst k w).number (length out)) out w e v)

  -- ---- all that happens, on links that take no more than 16,777,216 bytes

  before : (i : Call) (w : World) → FewTaken p n (calling p n i w) → FewTaken p n w
  before i w few = omega (arith, taken-grows (call_told p i (sender_state p n w)) (counted p n w), ap (λ (x : Tally). x.taken) (after-tally w i), few)

  step : (h : Happening) (w : World) → May p n h w → (FewTaken p n w → Inv w) → FewTaken p n (happens p n h w) → Inv (happens p n h w)
  step (calls i) w m v = λ few. call_step i w m.0 m.1 few (v (before i w few))
  step (arrives k ps db out) w m v = λ few. arrive-step k ps db out w (v few)

  steps : (hs : List Happening) (w : World) → MayAll p n hs w → (FewTaken p n w → Inv w) → FewTaken p n (all_happens p n hs w) → Inv (all_happens p n hs w)
  steps [] w m v few = v few
  steps (h ∷ hs) w m v few = steps hs (happens p n h w) m.1 (step h w m.0 v) few

  begins : (m : ℕ) → Inv (quiet m)
  begins m =
      record {
        given = tt;
        arrived = record { count = refl; within = omega arith; begun = refl; fits = fits-part box_bytes (replicate m 0) [] (fits-zeros m []); acked = λ o e. absurd (false≢true e) };
        carried = tt;
        latest = tt;
        says = tt;
      }

  holds : (w : World) → Inv w → EndToEnd p n w
  holds w v =
      let a = v.arrived in
      let l = bytes (counted p n w) in
      let first = w.receiver.first_missing in
      let x = places w in
      record {
        beginning = (drop first l, sym (take-append-drop first l) ∙ ap (λ (z : List ℕ). z ++ drop first l) (sym a.begun));
        count = sym a.count;
        arrived = λ o e. test (ltb o first)
            (λ t. inl (omega (arith, ltb-true o first t, a.count)))
            (λ t.
            let h = ltb-false o first t in
            let k = has-or first x o (a.acked o e) h in
            let i = kept-within x (o - first) k in
            let g : get_or x (o - first) 0 ≡ get_or w.window (o - length w.handed) 0 =
            get_or-take box_bytes w.window (o - first) 0 (omega (arith, i, length-take box_bytes w.window)) ∙ ap (λ (j : ℕ). get_or w.window (o - j) 0) (sym a.count) in
            inr (
              subst (λ (z : ℕ). W.is_kept z ≡ true) g k,
              ap W.kept_byte (sym g) ∙ fits-at x (drop first l) (o - first) a.fits k ∙ get_or-drop first l (o - first) 0 ∙ ap (λ (j : ℕ). get_or l j 0) (let z : first + (o - first) ≡ o = omega (arith, h) in z),
            ));
      }

pub end_to_end : EndToEndClaim
end_to_end p six n m hs may few = holds p six n (all_happens p n hs (quiet m)) (steps p six n hs (quiet m) may (λ s. begins p six n m) few)
