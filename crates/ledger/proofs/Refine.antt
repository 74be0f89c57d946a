-- Demand 3 of any sender whose calls are the ledger's: its states are C, a call's arguments I, and `view` reads the ledger out of a state.
-- Assumes nothing.
use Prim.Native.Nat.{ℕ, ◌≤◌}
use mathlib.Core.Path.{◌≡◌, refl, sym, ap}
use mathlib.Core.Bool.{true}
use mathlib.Core.List.{List, [], ◌∷◌, ◌++◌, map}
use native.Mathlib.Omega.{arith}
use lib.ListN.{length, take, drop}
use Rattle.laws.specs.Lists.{occurs, listed}
use Rattle.laws.proofs.Lists.{one_same, listed-occurs}
use Rattle.ledger.specs.Ledger.{Sender, Sent, sent_offs, offs, find, data_burst, held_offs}
use Rattle.ledger.specs.Tally.{Tally, byte_of, feed, frames_told, Event, start}
use Rattle.ledger.specs.Queue.{Message, message_bytes}
use Rattle.ledger.specs.Sound.{Sound}
use Rattle.ledger.specs.Station.{Station}
use Rattle.ledger.specs.Calls.{Along, run, tally, history}
use Rattle.ledger.specs.ClaimCode.{Carry, LedgerClaim}
use Rattle.ledger.proofs.Agree.{Agree, start-agree}
use Rattle.ledger.proofs.PerOffset.{covers-once, acked-exactly}
use Rattle.ledger.proofs.History.{Told, told_is}
use Rattle.ledger.proofs.InFlight.{find-flown, in_flight-size, flown-parts, flown-length}
use Rattle.ledger.proofs.Kept.{out-occurs, step-sound, step-agree, step-queue, step-withdrawn, step_keeps, fresh-sound}
use Rattle.ledger.proofs.Offsets.{find-some, flying-within}
use Rattle.ledger.proofs.ShortFrames.{pieces-short_frames}
use Rattle.ledger.specs.Sizes.{Sizes}
use Rattle.ledger.specs.CallsCode.{Move, Allowed, step, move_told, idle, queue_move, ack_move, acks_move, turn_move, burst_move, fresh_ledger_station, SoundStation}
use Rattle.ledger.specs.LedgerCode.{frames, fresh_ledger}
use Rattle.ledger.specs.SizesCode.{SizeRange}

-- what a sound record that agrees with its tally says of the next call
module _ (z : Sizes) (zr : SizeRange z) (s : Sender) (t : Tally) (so : Sound z s) (ag : Agree s t) where
  carry : (fs : List Sent) → ((o : ℕ) → 1 ≤ occurs o (sent_offs fs) → 1 ≤ occurs o (offs s.pieces)) → Carry (map byte_of t.flown) s.pieces (frames s.pieces fs)
  carry [] w = tt
  carry (f ∷ fs) w =
      let h = find-some z.long 0 s.next f.off s.pieces so.ascend (w f.off (omega (arith, one_same f.off f.off refl))) in
      (h, refl, sym (find-flown z.long s.next f.off s.pieces t.flown so.ascend h ag.flown), carry fs (λ o l. w o (omega arith)))

  holds : (o : ℕ) → listed o (offs s.pieces) ≡ true → find o s.pieces ≡ take (length (find o s.pieces)) (drop o (map byte_of t.flown))
  holds o h =
      sym (find-flown z.long s.next o s.pieces t.flown so.ascend (find-some z.long 0 s.next o s.pieces so.ascend (listed-occurs o (offs s.pieces) h)) ag.flown)

module _ (z : Sizes) (zr : SizeRange z) (st : Station) (t : Tally) (ss : SoundStation z st) (e : t.queue ≡ st.queue)
    (v : st.withdrawn ≡ length (message_bytes t.withdrawn)) (ag : Agree st.sender t) (c : Move) (al : Allowed z c st) where
  call-carries : (c' : Move) → Sound z (step z c' st).sender → Agree (step z c' st).sender (feed (move_told z c' st) t) → Carry (map byte_of (feed (move_told z c' st) t).flown) (step z c' st).sender.pieces (frames_told (move_told z c' st))
  call-carries idle so' ag' = tt
  call-carries (queue_move d l bs) so' ag' = tt
  call-carries (ack_move r keep) so' ag' = tt
  call-carries (acks_move xs) so' ag' = tt
  call-carries turn_move so' ag' = tt
  call-carries (burst_move g) so' ag' =
      carry z zr (data_burst g st.sender) (feed (move_told z (burst_move g) st) t) so' ag' (data_burst g st.sender).sent
      (λ o h. omega (arith, out-occurs z (data_burst g st.sender) so' o))

  pub claim-of : (ms : List Message) → Told ms t → LedgerClaim z ms st t (move_told z c st) (step z c st).sender
  claim-of ms hi =
      let s = st.sender in
      let so = ss.sound in
      let f = in_flight-size s.next s.pieces t.flown ag.flown in
      let p = flown-parts t.flown in
      let l = flown-length z.long s.next s.pieces t.flown so.ascend ag.flown in
      let w = ap length ag.waiting in
      record {
        sum = omega (arith, hi.sum);
        taken = hi.taken;
        each = hi.each;
        history = hi.history;
        waiting = sym ag.waiting;
        queue = sym e;
        withdrawn = v;
        order = hi.order;
        earliest = hi.earliest;
        newest = hi.newest;
        covers = λ o. covers-once z.long s.next o s.pieces t.flown so.ascend ag.flown;
        in_pieces = sym f;
        ascends = so.ascend;
        holds = holds z zr s t so ag;
        next = sym l;
        exactly = acked-exactly (move_told z c st) t;
        acked = omega (arith, so.sum);
        carries = call-carries c (step-sound z zr c st al ss).sound (step-agree z zr c st t al so e ag);
        keeps = λ o h h'. (
          find-some z.long 0 s.next o s.pieces so.ascend
              (omega (arith, flying-within (held_offs s.held) s.pieces so.held_flying o, listed-occurs o (held_offs s.held) h)),
          step_keeps z zr c st o al so (listed-occurs o (held_offs (step z c st).sender.held) h'),
        );
        flying = omega (arith, so.bytes);
        pieces = omega (arith, pieces-short_frames z.short (omega (arith, zr.least)) z.long 0 s.next s.pieces so.ascend, so.shorts);
      }

-- where the arguments may be any
pub along : {C I : Type 0} (next : I → C → C) (P : I → C → Type 0) → ((i : I) (c : C) → P i c) → (is : List I) (c : C) → Along next P is c
along next P p [] c = tt
along next P p (i ∷ is) c = (p i c, along next P p is (next i c))

module _ (z : Sizes) (zr : SizeRange z) (C I : Type 0) (Given : I → C → Type 0) (Ok : C → Type 0)
    (next : I → C → C) (view : C → Station) (call : I → C → Move) (says : I → C → Event) where
  -- What each call gives of arguments that may be given and a sound record. `Ok` is whatever else holds of each state
  pub record Refines : Type 0 where
    pub allowed : (i : I) (c : C) → Given i c → SoundStation z (view c) → Ok c → Allowed z (call i c) (view c)
    pub steps : (i : I) (c : C) → Given i c → SoundStation z (view c) → Ok c → view (next i c) ≡ step z (call i c) (view c)
    pub tells : (i : I) (c : C) → Given i c → SoundStation z (view c) → Ok c → says i c ≡ move_told z (call i c) (view c)
    pub keeps : (i : I) (c : C) → Given i c → SoundStation z (view c) → Ok c → Ok (next i c)

  -- the sender and the tally agree, the messages too, and the bytes withdrawn
  abbrev Both : Station → Tally → Type 0
  Both s t = (t.queue ≡ s.queue) × (s.withdrawn ≡ length (message_bytes t.withdrawn)) × Agree s.sender t

  module _ (re : Refines) where
    one-sound : (i : I) (c : C) → Given i c → SoundStation z (view c) → Ok c → SoundStation z (view (next i c))
    one-sound i c g so ok = rw (re.steps i c g so ok) (step-sound z zr (call i c) (view c) (re.allowed i c g so ok) so)

    one-agree : (i : I) (c : C) (t : Tally) → Given i c → SoundStation z (view c) → Ok c → Both (view c) t → Both (view (next i c)) (feed (says i c) t)
    one-agree i c t g so ok ag =
        let al = re.allowed i c g so ok in
        rw (re.steps i c g so ok, re.tells i c g so ok) (
          step-queue z zr (call i c) (view c) t al so.sound ag.0 ag.2,
          step-withdrawn z zr (call i c) (view c) t ag.0 ag.1,
          step-agree z zr (call i c) (view c) t al so.sound ag.0 ag.2,
        )

    all_sound : (is : List I) (c : C) → Along next Given is c → SoundStation z (view c) → Ok c → SoundStation z (view (run next is c))
    all_sound [] c gs so ok = so
    all_sound (i ∷ is) c gs so ok = all_sound is (next i c) gs.1 (one-sound i c gs.0 so ok) (re.keeps i c gs.0 so ok)

    all-ok : (is : List I) (c : C) → Along next Given is c → SoundStation z (view c) → Ok c → Ok (run next is c)
    all-ok [] c gs so ok = ok
    all-ok (i ∷ is) c gs so ok = all-ok is (next i c) gs.1 (one-sound i c gs.0 so ok) (re.keeps i c gs.0 so ok)

    all-agree : (is : List I) (c : C) (t : Tally) → Along next Given is c → SoundStation z (view c) → Ok c → Both (view c) t → Both (view (run next is c)) (tally next says is c t)
    all-agree [] c t gs so ok ag = ag
    all-agree (i ∷ is) c t gs so ok ag =
        all-agree is (next i c) (feed (says i c) t) gs.1 (one-sound i c gs.0 so ok) (re.keeps i c gs.0 so ok) (one-agree i c t gs.0 so ok ag)

    -- from a state that shows a fresh sender
    module _ (c : C) (e : view c ≡ fresh_ledger_station) (ok : Ok c) (is : List I) (gs : Along next Given is c) where
      first-sound : SoundStation z (view c)
      first-sound = rw e (record { sound = fresh-sound z; shows = refl; taken = omega arith })

      pub sound-after : SoundStation z (view (run next is c))
      sound-after = all_sound is c gs first-sound ok

      pub ok-after : Ok (run next is c)
      ok-after = all-ok is c gs first-sound ok

      -- DEMAND 3, after every list of calls and of one further call
      pub refined : (i : I) → Given i (run next is c) →
          LedgerClaim z (history next says is c) (view (run next is c)) (tally next says is c start) (says i (run next is c))
          (view (next i (run next is c))).sender
      refined i g =
          let d = run next is c in
          let t = tally next says is c start in
          let so = sound-after in
          let al = re.allowed i d g so ok-after in
          let ag = all-agree is c start gs first-sound ok (rw e (refl, refl, start-agree)) in
          rw (re.steps i d g so ok-after, re.tells i d g so ok-after)
          (claim-of z zr (view d) t so ag.0 ag.1 ag.2 (call i d) al (history next says is c) (told_is next says is c))
