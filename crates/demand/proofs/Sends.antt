-- What a burst that is not refused sends, as the page states it: its frames and their bytes, and its seconds on air.
-- Assumes nothing.
use mathlib.Core.Path.{◌≡◌, refl, sym, ap, ap₂, ◌∙◌, subst}
use mathlib.Core.Logic.{◌⊎◌}
use mathlib.Core.List.{List, map}
use mathlib.Core.Bool.{Bool, true, false}
use Prim.Native.Nat.{ℕ, ◌+◌, ◌*◌, ◌≤◌}
use native.Mathlib.Nat.{le_trans, mul-le-mul_left, mul-le-mul_right}
use native.Mathlib.Omega.{arith}
use borrow.Author.Tests.{leb-true}
use lib.Ieee.{le}
use lib.ListN.{length, take, length-map}
use Rattle.laws.specs.Bytes.{overwrite}
use Rattle.laws.proofs.Picks.{by}
use Rattle.limits.specs.Limits.{max_slots}
use Rattle.level.specs.Ladder.{long_frame}
use Rattle.frame.specs.Frame.{max_payload}
use Rattle.frame.proofs.Laws.{frame-room}
use Rattle.config.specs.declared.Profile.{Profile}
use Rattle.config.specs.Durations.{frame_bytes, data_at}
use Rattle.config.specs.Ranged.{Ranged}
use Rattle.config.specs.Ranges.{in_order}
use Rattle.ledger.specs.Ledger as L
use Rattle.ledger.specs.Ledger.{Sent, Plan}
use Rattle.ledger.specs.LedgerCode.{frames}
use Rattle.ledger.specs.ClaimCode.{Carry, LedgerClaim}
use Rattle.ledger.specs.CoverCode.{Ascend}
use Rattle.ledger.specs.Plan.{plan_of, burst_bits_sent}
use Rattle.ledger.specs.Tally as T
use Rattle.ledger.specs.Tally.{byte_of, feed, frames_told, in_flight, went}
use Rattle.ledger.proofs.Burst.{burst-ascend}
use Rattle.ledger.proofs.Progress.{burst-some}
use Rattle.record.specs.Profiles.{sizes_of}
use Rattle.outgoing.specs.declared.Outgoing.{Outgoing}
use Rattle.outgoing.specs.Outgoing.{padded, frames_out, headed, outgoing, output, after, burst_of}
use Rattle.outgoing.specs.Choosing.{chosen, choice, cue}
use Rattle.invariant.proofs.Ledgers.{Kept}
use Rattle.invariant.proofs.Well.{well-kept}
use Rattle.ledger.specs.Station as St
use Rattle.queuing.specs.Station.{view_station}
use Rattle.record.specs.View.{view}
use Rattle.outgoing.proofs.Choices.{choice-ranged}
use Rattle.soundness.proofs.fields.Sound.{sound-level}
use Rattle.invariant.proofs.Bursts.{burst-kept, choice-fits, choice-keeps-air}
use Rattle.data_burst.proofs.burst.Sends.{frame-least}
use Rattle.verdicts.specs.Verdicts.{passed, burst_verdict}
use Rattle.verdicts.proofs.Passed.{burst-passed}
use Rattle.sender.specs.Calls.{Bursted, burst_call}
use Rattle.demand.specs.Lists.{Call, bursts, shown, frames_answered, next, call_told}
use Rattle.demand.specs.Page.{by_offset, Taken, frames_of_taken, sum_of, on_air, allowance, any_increment, messages, bytes, c, s, t, answer, leaves, Sends}
use Rattle.demand.proofs.Answers.{burst-is, verdict-of-burst}
use Rattle.demand.proofs.Steps.{sizes, Ok, does-burst, taken}
use Rattle.demand.proofs.Payloads.{sent-taken, sent-bytes, within, none-reserved, with-room}
use Rattle.demand.proofs.OnTime.{on-time, sum-bits}

module _ (p : Profile) (rg : Ranged p) (io : in_order p ≡ true) (six : length p.codes.ends ≤ 6) (n : ℕ) (is : List Call)
    (w : Ok p rg io six (c p n is)) (out : List ℕ)
    (q : LedgerClaim (sizes_of p) (messages p n is) (s p n is) (t p n is) (call_told p (bursts out) (c p n is)) (shown (next p (bursts out) (c p n is))).sender)
    (ok : passed (burst_call p (c p n is).0 (c p n is).1 out).0.verdict ≡ true) where
  go : passed (burst_verdict p (c p n is).0 (c p n is).1 (length out)) ≡ true
  go = ap passed (sym (verdict-of-burst p (c p n is) out)) ∙ ok

  -- the ledger's sender after the burst
  abbrev s' : L.Sender
  s' = after p (c p n is).0.sender (c p n is).1

  stepped : (shown (next p (bursts out) (c p n is))).sender ≡ s'
  unfolding view_station
  stepped = ap (λ (x : St.Station). x.sender) (does-burst p rg io six out (c p n is) w go).steps

  answered : answer p n is out ≡ outgoing p (c p n is).0.sender (c p n is).1
  unfolding burst_of
  answered = ap (λ (x : Bursted × (List ℕ × List ℕ)). x.0.outgoing) (burst-is p (c p n is) out true go)

  -- what the tally is told: the answer's number and frames
  said : call_told p (bursts out) (c p n is) ≡ went (answer p n is out).number (frames_answered (answer p n is out).frames)
  said = rw ok refl

  -- the answer's frames are those of the pieces that the burst leaves
  frames-are : frames_answered (answer p n is out).frames ≡ frames s'.pieces s'.sent
  unfolding view_station
  frames-are = sym (ap frames_told said) ∙ ap frames_told (does-burst p rg io six out (c p n is) w go).tells

  carried : Carry (map byte_of (feed (call_told p (bursts out) (c p n is)) (t p n is)).flown) s'.pieces (frames_answered (answer p n is out).frames)
  carried =
      subst (λ (x : L.Sender). Carry (map byte_of (feed (call_told p (bursts out) (c p n is)) (t p n is)).flown) x.pieces (frames_answered (answer p n is out).frames)) stepped
      (subst (Carry (map byte_of (feed (call_told p (bursts out) (c p n is)) (t p n is)).flown) (shown (next p (bursts out) (c p n is))).sender.pieces) (ap frames_told said) q.carries)

  -- a burst moves bytes from waiting to flown, and no byte taken is another then
  abbrev t' : T.Tally
  t' = feed (call_told p (bursts out) (c p n is)) (t p n is)

  same_bytes : by_offset t' ≡ bytes p n is
  same_bytes =
      ap (λ (e : T.Event). by_offset (feed e (t p n is))) said ∙ sent-bytes (answer p n is out).number (frames_answered (answer p n is out).frames) (t p n is)

  written : (burst_call p (c p n is).0 (c p n is).1 out).1.1
      ≡ overwrite out 0 (frames_of_taken (frame_bytes p (c p n is).0.sender.gear.level) (bytes p n is) (frames_answered (answer p n is out).frames))
  unfolding burst_of output
  written =
      let size = frame_bytes p (c p n is).0.sender.gear.level in
      ap (λ (x : Bursted × (List ℕ × List ℕ)). x.1.1) (burst-is p (c p n is) out true go)
      ∙ ap (overwrite out 0)
      (sent-taken size (map byte_of t'.flown) (T.waits t') s'.pieces s'.sent
      (subst (Carry (map byte_of t'.flown) s'.pieces) frames-are carried)
      ∙ ap₂ (frames_of_taken size) same_bytes (sym frames-are))

  kept : Kept (sizes_of p) s'
  kept =
      burst-kept (sizes_of p) (sizes p rg io six) _ _ (choice-fits p rg (c p n is).0.sender (c p n is).1 w.well six)
      (well-kept p (c p n is).0.sender (c p n is).1 w.well)

  few : length s'.sent ≤ max_slots
  few = omega (arith, kept.sound.out_few)

  count-is : (answer p n is out).frames.n ≡ length s'.sent
  unfolding outgoing headed frames_out
  count-is = ap (λ (x : Outgoing). x.frames.n) answered

  -- ---- no frame is cut off

  abbrev size : ℕ
  size = frame_bytes p (c p n is).0.sender.gear.level

  -- the ledger's plan of the burst
  abbrev plan : Plan
  plan = plan_of (sizes_of p) (choice p (c p n is).0.sender) (view (c p n is).0.sender (c p n is).1)

  payload-is : (b : Bool) → long_frame (c p n is).0.sender.gear.level ≡ b → plan.payload ≡ max_payload size
  unfolding chosen frame_bytes
  payload-is true e = rw e refl
  payload-is false e = rw e refl

  ascends : Ascend (max_payload size) 0 s'.next s'.pieces
  ascends =
      subst (λ (m : ℕ). Ascend m 0 s'.next s'.pieces) (payload-is (long_frame (c p n is).0.sender.gear.level) refl)
      (burst-ascend (sizes_of p) (sizes p rg io six) (view (c p n is).0.sender (c p n is).1) plan w.well.sound.ledger
      (choice-fits p rg (c p n is).0.sender (c p n is).1 w.well six))

  size-most : size ≤ p.long_bytes
  unfolding frame_bytes in_order
  size-most =
      by (λ (k : ℕ). k ≤ p.long_bytes) (long_frame (c p n is).0.sender.gear.level) (λ e. omega arith) (λ e. leb-true p.short_bytes p.long_bytes io)

  all_fit : length (frames_answered (answer p n is out).frames) * size ≤ length out
  all_fit =
      let l : length (frames s'.pieces s'.sent) ≡ length s'.sent = length-map s'.sent _ in
      let k : length (frames_answered (answer p n is out).frames) ≤ max_slots = omega (arith, ap length frames-are, l, few) in
      le_trans (mul-le-mul_right size k) (le_trans (mul-le-mul_left max_slots size-most) (burst-passed p (c p n is).0 (c p n is).1 (length out) go).3)

  some-frame : 1 ≤ in_flight (t p n is).flown + length (T.waits (t p n is)) → 1 ≤ (answer p n is out).frames.n
  unfolding view_station
  some-frame h =
      omega (
        arith,
        count-is,
        burst-some (sizes_of p) (sizes p rg io six) (choice p (c p n is).0.sender)
            (choice-ranged p rg (c p n is).0.sender (sound-level p (c p n is).0.sender (c p n is).1 w.well.sound) six) (view (c p n is).0.sender (c p n is).1) w.well.sound.ledger (omega (arith, h, q.in_pieces, ap length q.waiting)),
      )

  bits_are : sum_of (take (length s'.sent) (padded (map (λ (f : Sent). f.bits) s'.sent))) ≡ burst_bits_sent s'.sent
  bits_are =
      ap sum_of (taken p rg io six (map (λ (f : Sent). f.bits) s'.sent) (length s'.sent) (length-map s'.sent (λ (f : Sent). f.bits)) few) ∙ sum-bits s'.sent

  -- of an answer x that leaves `sent`
  abbrev InTime : Outgoing → List Sent → Type 0
  InTime x sent = (2 ≤ x.frames.n) ⊎ (any_increment sent ≡ true)
      → le (on_air p (c p n is).0.sender.gear.level x) (allowance p (c p n is).0.sender.gear) ≡ true

  in-time : InTime (answer p n is out) (leaves p n is out)
  unfolding outgoing headed frames_out
  in-time =
      let l = (c p n is).0.sender.gear.level in
      let g = (c p n is).0.sender.gear in
      subst (λ (x : L.Sender). InTime (answer p n is out) x.sent) (sym stepped)
      (subst (λ (x : Outgoing). InTime x s'.sent) (sym answered)
      (λ h. subst (λ (bits : ℕ). le (data_at p.air l bits (cue p g)) (allowance p g) ≡ true) (sym bits_are)
      (on-time p (c p n is).0.sender (c p n is).1 (choice-keeps-air p rg (c p n is).0.sender (c p n is).1 w.well six) h)))

  pub sends : Sends p n is out
  sends =
      record {
        frames = subst (λ (b : List ℕ). Taken b (frames_answered (answer p n is out).frames)) same_bytes (within _ _ _ (frames_answered (answer p n is out).frames) carried);
        lengths = none-reserved _ _ _ _ (frames_answered (answer p n is out).frames) (sizes p rg io six).most kept.sound.ascend carried;
        output = written;
        room = with-room (max_payload size) _ size _ _ (frames_answered (answer p n is out).frames) (frame-room size _ (frame-least p rg _) (omega arith)) ascends carried;
        fits = all_fit;
        some = some-frame;
        air = in-time;
      }
