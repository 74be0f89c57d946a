-- Replies, put together.
-- Assumes nothing.
use mathlib.Core.Path.{◌≡◌, refl, sym, ap, ◌∙◌}
use mathlib.Core.List.{List, []}
use mathlib.Core.Bool.{Bool, true, false, cond, ◌&&◌, ◌||◌}
use Prim.Native.Nat.{ℕ, zero, suc, ◌+◌, ◌-◌, ◌/◌, ◌%◌, ◌^◌, ◌≤◌, ◌<◌}
use native.Mathlib.Omega.{arith}
use native.Mathlib.Nat.{two-pow-succ, one-le-pow}
use lib.Dec.{eqb, ltb}
use lib.Ieee.{Float}
use lib.ListN.{length}
use borrow.Author.Tests.{eq-eqb}
use Rattle.laws.specs.Bytes.{Bytes}
use Rattle.laws.proofs.Picks.{cond_yes, cond_no}
use Rattle.report.specs.Ack.{report_of}
use Rattle.report.specs.declared.ChanReport.{ChanReport}
use Rattle.report.specs.declared.ack.AckInfo.{AckInfo}
use Rattle.config.specs.Durations.{ack_at}
use Rattle.config.specs.declared.Profile.{Profile}
use Rattle.gear.specs.declared.Gear.{Gear}
use Rattle.ledger.specs.Reply.{Reply, bit_at, short_ack, long_ack}
use Rattle.record.specs.Profiles.{sizes_of}
use Rattle.record.specs.Airtime.{air_added, with_air}
use Rattle.record.specs.View.{sent_in, view, store, store_counts}
use Rattle.record.specs.declared.Link.{Link}
use Rattle.record.specs.declared.Sender.{Sender}
use Rattle.record.proofs.View.{Counted, Arrays}
use Rattle.settle.specs.Settle.{Settling}
use Rattle.settle.proofs.Settles.{Bits, half-bit}
use Rattle.settle.specs.AckIn.{ack_in}
use Rattle.settle.proofs.outcome.Outcomes.{length-sent}
use Rattle.receive.proofs.awaited.Awaited.{acked-is}
use Rattle.replies.specs.declared.Heard.{Heard}
use Rattle.replies.specs.declared.Ack.{Ack}
use Rattle.replies.specs.declared.LongAck.{LongAck}
use Rattle.replies.specs.Replies.{ack_noted, with_path, long_db, counted_ack, short_acked, long_acked}
use Rattle.record.specs.Setters.{with_gear, with_link}
use Rattle.gear.specs.Setters.{with_class}
use Rattle.limits.specs.Limits.{max_slots, tiny_ack_frames, tiny_all}
use Rattle.settle.specs.AckInCode.{acked_by, bits_for}
use Rattle.replies.specs.RepliesCode.{ReplyReady}

-- ---- bits

-- all k bits of 2^k - 1 are set
ones : (k i : ℕ) → i < k → bit_at (2 ^ k - 1) i ≡ true
ones zero i h = absurd (omega (arith, h))
ones (suc k) zero h =
    let e : (2 ^ suc k - 1) / 1 % 2 ≡ 1 = omega (arith, two-pow-succ k, one-le-pow k 2 (omega arith)) in
    eq-eqb ((2 ^ suc k - 1) / 1 % 2) 1 e
ones (suc k) (suc i) h =
    let e : (2 ^ suc k - 1) / 2 ≡ 2 ^ k - 1 = omega (arith, two-pow-succ k, one-le-pow k 2 (omega arith)) in
    sym (half-bit (2 ^ suc k - 1) i) ∙ ap (λ (m : ℕ). bit_at m i) e ∙ ones k i (omega (arith, h))

pub bits-long : (b m n k : ℕ) → Bits ((long_ack b m).bit k) 0 m n
bits-long b m n k j h = let e : 0 + j ≡ j = omega arith in ap (bit_at m) e

short-by : (t : Bool) (m j : ℕ) → j < 64 → (t || bit_at m j) ≡ bit_at (cond t (2 ^ 64 - 1) m) j
short-by true m j h = sym (ones 64 j h)
short-by false m j h = refl

pub bits-short : (b bitmap n : ℕ) → n ≤ max_slots → Bits ((short_ack b bitmap).bit n) 0 (bits_for n bitmap) n
unfolding bits_for
bits-short b bitmap n few j h =
    let z : 0 + j ≡ j = omega arith in
    let t = ltb tiny_ack_frames n && eqb bitmap tiny_all in
    ap (λ (x : ℕ). t || bit_at bitmap x) z ∙ short-by t bitmap j (omega (arith, few, h))

-- ---- short and long acks that are awaited

-- an ack reads nothing of the airtime count: its own time may be counted first
counted-first : (p : Profile) (h : Heard) (r : Reply) (stored : Bool) (snr time : Float) (s : Sender) (a : List ℕ)
    → ack_in p r stored snr time (with_air s (air_added s.counts.airtime_ms (ack_at p.air h.wave))) a
    ≡ counted_ack p h (ack_in p r stored snr time s a)
unfolding ack_in view store store_counts
counted-first p h r stored snr time s a = refl

module _ (p : Profile) (s : Sender) (a : List ℕ) (an : ReplyReady p s a) (ar : Arrays s) (by : Bytes a) (g : Gear) (k : Link) (ms : ℕ) where
  abbrev given : Sender
  given = with_air (with_link (with_gear s g) k) ms

  pub settling : Settling given a
  settling =
      let n = an.settling in
      record { area = n.area; held = n.held; rest = n.rest; out = n.out; waits = n.waits; flies = n.flies; pieces = n.pieces; flying = n.flying; acked = n.acked }

  counted : Counted given a
  counted =
      let n = an.settling in
      record { area = n.area; held = n.held; rest = n.rest; sent = omega (arith, n.out); pieces = n.pieces; flying = n.flying; stream = omega (arith, n.flies, n.waits) }

  arrays : Arrays given
  arrays = record { held_off = ar.held_off; held_bits = ar.held_bits; sent_off = ar.sent_off; sent_bits = ar.sent_bits; sent_held = ar.sent_held }

  -- the reply r has the bits m
  pub given_is : (r : Reply) (m : ℕ) (stored : Bool) (snr time : Float) → k.awaiting ≡ true → k.burst_id ≡ s.link.burst_id
      → Bits (r.bit (length (sent_in s.last_burst))) 0 m s.last_burst.n → acked_by p r.number m stored snr time given a ≡ ack_in p r stored snr time given a
  unfolding view
  given_is r m stored snr time aw id bits =
      let so = an.sound in
      acked-is (sizes_of p) p r m stored snr time given a
      (record { ascend = so.ascend; bytes = so.bytes; shorts = so.shorts; held_few = so.held_few; held_flying = so.held_flying; held_bits = so.held_bits; tail = so.tail; out_few = so.out_few; out_flying = so.out_flying; sent_bits = so.sent_bits; few_waiting = so.few_waiting; taken_few = so.taken_few; sum = so.sum; number = omega (arith, id, so.number) })
      counted arrays by aw bits

-- a burst of n frames is read back as n
sent-count : (s : Sender) → Arrays s → s.last_burst.n ≤ max_slots → length (sent_in s.last_burst) ≡ s.last_burst.n
sent-count s ar few = length-sent 0 (long_ack 0 0) s [] ar few (bits-long 0 0 s.last_burst.n (length (sent_in s.last_burst)))

module _ (p : Profile) (s : Sender) (a : List ℕ) (an : ReplyReady p s a) (ar : Arrays s) (by : Bytes a) (h : Heard) where
  few : s.last_burst.n ≤ max_slots
  few = omega (arith, an.settling.out)

  -- the count once the ack's own time is in it
  abbrev counts : ℕ
  counts = air_added s.counts.airtime_ms (ack_at p.air h.wave)

  pub short-awaited : (r : Ack) (g : Gear) (k : Link) (ms m : ℕ) (q : Sender) (b : List ℕ) → g ≡ with_class s.gear r.class
      → k ≡ ack_noted s.link h.time r.want_turn r.want_disc r.burst → ms ≡ counts → m ≡ bits_for s.last_burst.n r.bitmap
      → (q, b) ≡ acked_by p r.burst m r.stored r.snr_db h.time
      (with_air (with_link (with_gear s g) (with_path k r.slot k.peer_doppler_hz)) ms) a
      → k.awaiting ≡ true → (q, b) ≡ short_acked p h r s a
  unfolding short_acked
  short-awaited r g k ms m q b e₁ e₂ e₅ e₃ e₄ t =
      let aw : s.link.awaiting ≡ true = sym (ap (λ (x : Link). x.awaiting) e₂) ∙ t in
      let n = sent-count s ar few in
      let note = ack_noted s.link h.time r.want_turn r.want_disc r.burst in
      let path = with_path note r.slot s.link.peer_doppler_hz in
      let reply = short_ack r.burst r.bitmap in
      cond_yes _ _ _ _ aw
      (e₄
      ∙ (λ i. acked_by p r.burst (e₃ i) r.stored r.snr_db h.time
      (with_air (with_link (with_gear s (e₁ i)) (with_path (e₂ i) r.slot (e₂ i).peer_doppler_hz)) (e₅ i)) a)
      ∙ given_is p s a an ar by (with_class s.gear r.class) path counts
      reply (bits_for s.last_burst.n r.bitmap) r.stored r.snr_db h.time aw refl
      (λ j l. ap (λ (x : ℕ). reply.bit x (0 + j)) n ∙ bits-short r.burst r.bitmap s.last_burst.n few j l)
      ∙ counted-first p h reply r.stored r.snr_db h.time (with_link (with_gear s (with_class s.gear r.class)) path) a)

  pub long-awaited : (r : LongAck) (i : AckInfo) (c : ChanReport) (g : Gear) (k : Link) (ms : ℕ) (db : Float) (q : Sender) (b : List ℕ)
      → c ≡ report_of i → g ≡ with_class s.gear c.class
      → k ≡ ack_noted s.link h.time r.want_turn r.want_disc i.burst → ms ≡ counts → db ≡ long_db p i
      → (q, b) ≡ acked_by p i.burst i.bitmap r.stored db h.time
      (with_air (with_link (with_gear s g) (with_path k c.slot c.doppler_hz)) ms) a
      → k.awaiting ≡ true → (q, b) ≡ long_acked p h r i s a
  unfolding long_acked
  long-awaited r i c g k ms db q b e₀ e₁ e₂ e₅ e₃ e₄ t =
      let e₆ = e₁ ∙ ap (λ (x : ChanReport). with_class s.gear x.class) e₀ in
      let aw : s.link.awaiting ≡ true = sym (ap (λ (x : Link). x.awaiting) e₂) ∙ t in
      let note = ack_noted s.link h.time r.want_turn r.want_disc i.burst in
      let path = with_path note (report_of i).slot (report_of i).doppler_hz in
      let reply = long_ack i.burst i.bitmap in
      cond_yes _ _ _ _ aw
      (e₄
      ∙ (λ j. acked_by p i.burst i.bitmap r.stored (e₃ j) h.time
      (with_air (with_link (with_gear s (e₆ j)) (with_path (e₂ j) (e₀ j).slot (e₀ j).doppler_hz)) (e₅ j)) a)
      ∙ given_is p s a an ar by (with_class s.gear (report_of i).class) path counts
      reply i.bitmap r.stored (long_db p i) h.time aw refl
      (bits-long i.burst i.bitmap s.last_burst.n (length (sent_in s.last_burst)))
      ∙ counted-first p h reply r.stored (long_db p i) h.time (with_link (with_gear s (with_class s.gear (report_of i).class)) path) a)

-- ---- those that are not

pub short-unasked : (p : Profile) (s : Sender) (a : List ℕ) (h : Heard) (r : Ack) (k : Link) → k ≡ ack_noted s.link h.time r.want_turn r.want_disc r.burst → k.awaiting ≡ false
    → (with_link s k, a) ≡ short_acked p h r s a
unfolding short_acked
short-unasked p s a h r k e t = cond_no _ _ _ _ (sym (ap (λ (x : Link). x.awaiting) e) ∙ t) (ap (λ (x : Link). (with_link s x, a)) e)

pub long-unasked : (p : Profile) (s : Sender) (a : List ℕ) (h : Heard) (r : LongAck) (i : AckInfo) (k : Link) → k ≡ ack_noted s.link h.time r.want_turn r.want_disc i.burst → k.awaiting ≡ false
    → (with_link s k, a) ≡ long_acked p h r i s a
unfolding long_acked
long-unasked p s a h r i k e t = cond_no _ _ _ _ (sym (ap (λ (x : Link). x.awaiting) e) ∙ t) (ap (λ (x : Link). (with_link s x, a)) e)
