-- The ConnAck, Ack and Turn arms of `sender_rx` and its frame loop (sender.rs; document 01, module 5), for replies that are not refused. Definitions only.
use Rattle.std.specs.Prelude.{List, Bool, false, cond, ◌&&◌, ℕ, ◌+◌, ◌%◌, Float, is_some}
use Rattle.report.specs.Ack.{report_of}
use Rattle.report.specs.declared.ack.AckInfo.{AckInfo}
use Rattle.config.specs.Durations.{ack_at}
use Rattle.config.specs.declared.Profile.{Profile}
use Rattle.gear.specs.Setters.{with_class}
use Rattle.gear.specs.OtherReplies.{connected, on_turn}
use Rattle.ledger.specs.Reply.{Reply, short_ack, long_ack}
use Rattle.ledger.specs.Ledger as L
use Rattle.ledger.specs.Ledger.{clear_burst}
use Rattle.record.specs.View.{view, store, store_area}
use Rattle.record.specs.Airtime.{air_added, with_air}
use Rattle.record.specs.declared.Link.{Link}
use Rattle.record.specs.declared.Sender.{Sender}
use Rattle.settle.specs.Outcomes.{outcome_of}
use Rattle.settle.specs.AckIn.{ack_in}
use Rattle.replies.specs.declared.Heard.{Heard}
use Rattle.replies.specs.declared.ConnAck.{ConnAck}
use Rattle.replies.specs.declared.Ack.{Ack}
use Rattle.replies.specs.declared.LongAck.{LongAck}
use Rattle.replies.specs.declared.Turn.{Turn}
use Rattle.record.specs.Setters.{with_gear, with_link, with_session, with_time, with_heard, with_slot, with_doppler, with_wishes, with_awaiting}

-- the slot that the peer hears best, and its Doppler spread
abbrev pub with_path : Link → ℕ → Float → Link
with_path k slot hz = with_doppler (with_slot k slot) hz

-- the turn and disconnect wishes, the number last heard, and the time
abbrev pub ack_noted : Link → Float → Bool → Bool → ℕ → Link
ack_noted k now turn disc number = with_wishes (with_heard (with_time k now) number) turn disc

-- the connect answer: session, slot and time; `clear_wait`
abbrev pub connect_noted : Link → Float → ℕ → ℕ → Link
connect_noted k now session slot = with_awaiting (with_slot (with_time (with_session k session) now) slot) false

-- "for every awaited ack that arrives, the ack time of its wave": the wave that the reply bears (document 02, Change 4)
abbrev pub counted_ack : Profile → Heard → Sender × List ℕ → Sender × List ℕ
counted_ack p h x = (with_air x.0 (air_added x.0.counts.airtime_ms (ack_at p.air h.wave)), x.1)

-- "An ack not awaited updates only the turn and disconnect wishes and the number last heard" (and the time)
unfoldable pub short_acked : Profile → Heard → Ack → Sender → List ℕ → Sender × List ℕ
short_acked p h r s a =
    let k = ack_noted s.link h.time r.want_turn r.want_disc r.burst in
    cond s.link.awaiting
    (counted_ack p h (ack_in p (short_ack r.burst r.bitmap) r.stored r.snr_db h.time
    (with_link (with_gear s (with_class s.gear r.class)) (with_path k r.slot s.link.peer_doppler_hz)) a))
    (with_link s k, a)

-- a long ack's dB: of its report, with eff_snr
abbrev pub long_db : Profile → AckInfo → Float
long_db p i = cond (is_some i.report && p.eff_snr) (report_of i).eff_snr_db i.snr_db

unfoldable pub long_acked : Profile → Heard → LongAck → AckInfo → Sender → List ℕ → Sender × List ℕ
long_acked p h r i s a =
    let k = ack_noted s.link h.time r.want_turn r.want_disc i.burst in
    cond s.link.awaiting
    (counted_ack p h (ack_in p (long_ack i.burst i.bitmap) r.stored (long_db p i) h.time
    (with_link (with_gear s (with_class s.gear (report_of i).class)) (with_path k (report_of i).slot (report_of i).doppler_hz)) a))
    (with_link s k, a)

-- ---- turn and connect answer

-- a turn without a report goes by the dB measured here
abbrev pub turn_db : Heard → Turn → Float
turn_db h r = cond r.report.set r.report.db h.snr_db

-- a reply of another number, with no bit set: `on_ack(self.burst_id.wrapping_add(1) & 3, 0, ..)`
abbrev pub nothing_heard : L.Sender → Reply
nothing_heard l = record { number = (l.number + 1) % 4; bit = λ (n i : ℕ). false }

unfoldable pub turned : Profile → Heard → Turn → Sender → List ℕ → Sender × List ℕ
turned p h r s a =
    let before = view s a in
    let after = clear_burst before in
    let g = on_turn p s.gear (outcome_of (nothing_heard before) before) (turn_db h r) h.wave h.time in
    (store after (with_link (with_gear s g) (with_time s.link h.time)), store_area after a)

-- the called station's cue counts where the profile has one
unfoldable pub connected_to : Profile → Heard → ConnAck → Sender → Sender
connected_to p h r s =
    with_link (with_gear s (connected p s.gear r.class (p.cue && r.cue) r.snr_db h.time))
    (connect_noted s.link h.time r.session r.slot)
