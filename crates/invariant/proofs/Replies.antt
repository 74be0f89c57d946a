-- EVERY ACCEPTED REPLY KEEPS THE RECORD WELL, and so does queuing.
-- Assumes nothing.
use mathlib.Core.Path.{◌≡◌, refl, subst}
use mathlib.Core.List.{List}
use mathlib.Core.Bool.{Bool, true, false, not, ◌&&◌, ◌||◌}
use Prim.Native.Nat.{ℕ, ◌+◌, ◌≤◌}
use native.Mathlib.Omega.{arith}
use denote.Floats.{passes}
use lib.Dec.{T, leb}
use lib.ListN.{length, get_or}
use lib.Ieee.{Float, binary32, span, climb, size, odd, units, round, neg, div, le, lt, eq, of_int, of_bits, is_nan}
use Rattle.ieee.specs.Range.{In, w32}
use Rattle.ieee.proofs.Bounds.{in-wider}
use Rattle.ieee.proofs.Value.{lt→le, lt_not_le, le-no-nan}
use Rattle.float_laws.proofs.Reports.{snr-in, spread-in}
use Rattle.laws.specs.Bytes.{Bytes}
use Rattle.laws.proofs.Picks.{either, test, and_first, and_second}
use Rattle.report.specs.Report.{spread_of, report_at}
use Rattle.report.specs.declared.ChanReport.{ChanReport}
use Rattle.std.proofs.Common.{Option, Some, None, is_some, cond}
use Rattle.report.specs.Ack.{info_of, no_report, ack_with, report_of}
use Rattle.report.specs.declared.ack.AckInfo.{AckInfo}
use Rattle.config.specs.declared.Profile.{Profile}
use Rattle.config.specs.Ranged.{Ranged}
use Rattle.config.specs.Ranges.{in_order}
use Rattle.gear_laws.specs.Sound.{OutcomeInRange, DbInRange, TimeInRange}
use Rattle.ledger.specs.Reply.{Reply, short_ack, long_ack}
use Rattle.ledger.specs.Ledger.{requeue}
use Rattle.record.specs.Profiles.{sizes_of}
use Rattle.record.specs.View.{view, store, store_area}
use Rattle.record.specs.declared.Link.{Link}
use Rattle.record.specs.declared.Sender.{Sender}
use Rattle.settle.specs.Outcomes.{outcome_of}
use Rattle.settle.specs.AckIn.{keeps, ack_in}
use Rattle.replies.specs.declared.Heard.{Heard}
use Rattle.replies.specs.declared.ConnAck.{ConnAck}
use Rattle.replies.specs.declared.Ack.{Ack}
use Rattle.replies.specs.declared.LongAck.{LongAck}
use Rattle.replies.specs.declared.Turn.{Turn}
use Rattle.replies.specs.Replies.{ack_noted, long_db, short_acked, long_acked, turn_db, nothing_heard, turned, connected_to}
use Rattle.soundness.proofs.fields.Sound.{profile-sizes}
use Rattle.invariant.specs.Invariant.{AckIn, LongAckIn, TurnIn, ConnAckIn}
use Rattle.invariant.proofs.Gears.{class-well, ack-gear-well, connected-gear-well, turn-gear-well}
use Rattle.invariant.proofs.Outcomes.{outcome-counts}
use Rattle.invariant.proofs.Ledgers.{on-ack-kept, clear_kept, queue-kept}
use Rattle.invariant.proofs.Well.{Well, well-gear, well-kept, given-well, stored-well, airtime-well}
use Rattle.limits.specs.Limits.{max_number, max_waiting, max_taken}
use Rattle.ledger.specs.SizesCode.{SizeRange}
use Rattle.soundness.specs.SoundnessCode.{SoundLink}

-- the record and the work area that a reply leaves
abbrev pub WellBoth : Profile → Sender × List ℕ → Type 0
WellBoth p x = Well p x.0 x.1

module _ (p : Profile) (rg : Ranged p) (io : in_order p ≡ true) where
  zr : SizeRange (sizes_of p)
  zr = profile-sizes p rg io

  counts : (r : Reply) (s : Sender) (a : List ℕ) → Well p s a → OutcomeInRange (outcome_of r (view s a))
  counts r s a w = outcome-counts r (view s a) (omega (arith, w.sound.ledger.out_few))

  -- ---- acks

  pub ack-well : (r : Reply) (stored : Bool) (snr now : Float) (s : Sender) (a : List ℕ) → DbInRange snr → TimeInRange now → Well p s a → WellBoth p (ack_in p r stored snr now s a)
  unfolding ack_in
  ack-well r stored snr now s a d t w =
      let k = w.sound.link in
      stored-well p zr _ s a _ _ w
      (on-ack-kept (sizes_of p) zr (view s a) (well-kept p s a w) r (keeps p s.gear stored))
      (ack-gear-well p rg s.gear (outcome_of r (view s a)) snr now (counts r s a w) d t (well-gear p s a w))
      (record {
        time = k.time;
        number = k.number;
        heard = k.heard;
        not_below = k.not_below;
        not_above = k.not_above;
      })

  noted-sound : (k : Link) (now : Float) (turn disc : Bool) (n : ℕ) → TimeInRange now → n ≤ max_number → SoundLink k → SoundLink (ack_noted k now turn disc n)
  noted-sound k now turn disc n t h s = record { time = t.high; number = s.number; heard = λ z. h; not_below = s.not_below; not_above = s.not_above }

  pub short-well : (h : Heard) (r : Ack) (s : Sender) (a : List ℕ) → AckIn h r → Well p s a → WellBoth p (short_acked p h r s a)
  unfolding short_acked
  short-well h r s a i w =
      let q = w.sound.link in
      let k = noted-sound s.link h.time r.want_turn r.want_disc r.burst i.time i.burst q in
      either (WellBoth p) s.link.awaiting _ _
      (airtime-well p _ _ _ (ack-well (short_ack r.burst r.bitmap) r.stored r.snr_db h.time _ a i.db i.time
      (given-well p s a _ _ w (class-well s.gear r.class (well-gear p s a w))
      (record { time = k.time; number = k.number; heard = k.heard; not_below = q.not_below; not_above = q.not_above }))))
      (given-well p s a s.gear _ w (well-gear p s a w) k)

  pub long-well : (h : Heard) (r : LongAck) (i : AckInfo) (s : Sender) (a : List ℕ) → LongAckIn p h i → Well p s a → WellBoth p (long_acked p h r i s a)
  unfolding long_acked
  long-well h r i s a j w =
      let k = noted-sound s.link h.time r.want_turn r.want_disc i.burst j.time j.burst w.sound.link in
      either (WellBoth p) s.link.awaiting _ _
      (airtime-well p _ _ _ (ack-well (long_ack i.burst i.bitmap) r.stored (long_db p i) h.time _ a j.db j.time
      (given-well p s a _ _ w (class-well s.gear (report_of i).class (well-gear p s a w))
      (record { time = k.time; number = k.number; heard = k.heard; not_below = j.not_below; not_above = j.not_above }))))
      (given-well p s a s.gear _ w (well-gear p s a w) k)

  -- ---- turn, connect answer and queuing

  pub turned-well : (h : Heard) (r : Turn) (s : Sender) (a : List ℕ) → TurnIn h r → Well p s a → WellBoth p (turned p h r s a)
  unfolding turned
  turned-well h r s a i w =
      let k = w.sound.link in
      stored-well p zr _ s a _ _ w (clear_kept (sizes_of p) zr (view s a) (well-kept p s a w))
      (turn-gear-well p rg s.gear (outcome_of (nothing_heard (view s a)) (view s a)) (turn_db h r) h.wave h.time (counts (nothing_heard (view s a)) s a w) i.db i.time (well-gear p s a w))
      (record { time = i.time.high; number = k.number; heard = k.heard; not_below = k.not_below; not_above = k.not_above })

  pub connected-well : (h : Heard) (r : ConnAck) (s : Sender) (a : List ℕ) → ConnAckIn h r → Well p s a → Well p (connected_to p h r s) a
  unfolding connected_to
  connected-well h r s a i w =
      let k = w.sound.link in
      given-well p s a _ _ w
      (connected-gear-well p rg s.gear r.class (p.cue && r.cue) r.snr_db h.time i.db (well-gear p s a w))
      (record { time = i.time.high; number = k.number; heard = k.heard; not_below = k.not_below; not_above = k.not_above })

  -- w waits then
  pub queued-well : (w : List ℕ) (s : Sender) (a : List ℕ) → Bytes w → length w ≤ max_waiting → (view s a).next + length w ≤ max_taken
      → Well p s a → Well p (store (requeue w (view s a)) s) (store_area (requeue w (view s a)) a)
  queued-well w s a by h h' wl =
      stored-well p zr (requeue w (view s a)) s a s.gear s.link wl
      (queue-kept (sizes_of p) zr (view s a) (well-kept p s a wl) w by h h') (well-gear p s a wl) wl.sound.link

-- ---- what `AckInfo::from_bytes` reads is in range

wide : (x : Float) → In (neg (w32 24)) (w32 231) x → DbInRange x
unfolding neg of_int le
wide x i = in-wider {lo = neg (w32 24)} {hi = w32 231} {x = x} (neg (w32 100)) (w32 300) tt tt i

-- not a number, or from lo to hi
neither : (lo hi x : Float) → (is_nan x || (le lo x && le x hi)) ≡ true → (lt x lo ≡ false) × (lt hi x ≡ false)
neither lo hi x e = (
  test (lt x lo) (λ t. absurd (below (is_nan x) e (le-no-nan x lo (lt→le x lo (passes _ t))).0 (passes _ t))) (λ t. t),
  test (lt hi x) (λ t. absurd (above (is_nan x) e (le-no-nan hi x (lt→le hi x (passes _ t))).1 (passes _ t))) (λ t. t),
)
  where
    below : (n : Bool) → (n || (le lo x && le x hi)) ≡ true → T (not n) → T (lt x lo) → ⊥
    below true f g t = g
    below false f g t = lt_not_le x lo t (passes _ (and_first (le lo x) (le x hi) f))

    above : (n : Bool) → (n || (le lo x && le x hi)) ≡ true → T (not n) → T (lt hi x) → ⊥
    above true f g t = g
    above false f g t = lt_not_le hi x t (passes _ (and_second (le lo x) (le x hi) f))

top-is : div binary32 (w32 127) (w32 2) ≡ of_bits binary32 0x427e_0000
unfolding span climb size odd units round div of_int of_bits
top-is = refl

abbrev ReportIn : ChanReport → Type 0
ReportIn c = DbInRange c.eff_snr_db × (lt c.doppler_hz (w32 0) ≡ false) × (lt (of_bits binary32 0x427e_0000) c.doppler_hz ≡ false)

report-in : (b : List ℕ) → Bytes b → (at : ℕ) → ReportIn (report_at b at)
unfolding report_at
report-in b by at =
    let d = neither (w32 0) (div binary32 (w32 127) (w32 2)) (spread_of (get_or b (at + 3) 0)) (spread-in (get_or b (at + 3) 0) (by (at + 3))) in (
      wide _ (snr-in (get_or b (at + 1) 0) (by (at + 1))),
      d.0,
      subst (λ (t : Float). lt t (spread_of (get_or b (at + 3) 0)) ≡ false) top-is d.1,
    )

none_in : ReportIn no_report
unfolding le lt eq neg of_int of_bits
none_in = (record { low = tt; high = tt }, refl, refl)

pub info-in : (p : Profile) (h : Heard) (b : List ℕ) → Bytes b → TimeInRange h.time → LongAckIn p h (info_of b)
info-in p h b by t =
    let report : Option ChanReport = cond (leb 17 (length b)) (Some (report_at b 13)) None in
    let c = either (λ (r : Option ChanReport). ReportIn (report_of (ack_with b r))) (leb 17 (length b)) (Some (report_at b 13)) None (report-in b by 13) none_in in
    record {
      time = t;
      db = either DbInRange (is_some report && p.eff_snr) _ _ c.0 (wide _ (snr-in (get_or b 9 0) (by 9)));
      burst = omega arith;
      not_below = c.1;
      not_above = c.2;
    }
