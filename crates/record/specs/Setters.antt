-- The sender's record with some fields other, each struct spelled out here alone (and where a fresh one is made). Definitions only.
use Rattle.std.specs.Prelude.{Bool, true, ℕ, Float}
use Rattle.gear.specs.declared.Gear.{Gear}
use Rattle.record.specs.declared.AtPeer.{AtPeer}
use Rattle.record.specs.declared.Counts.{Counts}
use Rattle.record.specs.declared.LastBurst.{LastBurst}
use Rattle.record.specs.declared.Link.{Link}
use Rattle.record.specs.declared.Sender.{Sender}

-- ---- the sender

abbrev pub with_gear : Sender → Gear → Sender
with_gear s g = record { gear = g; link = s.link; counts = s.counts; at_peer = s.at_peer; last_burst = s.last_burst }

abbrev pub with_link : Sender → Link → Sender
with_link s k = record { gear = s.gear; link = k; counts = s.counts; at_peer = s.at_peer; last_burst = s.last_burst }

abbrev pub with_counts : Sender → Counts → Sender
with_counts s c = record { gear = s.gear; link = s.link; counts = c; at_peer = s.at_peer; last_burst = s.last_burst }

abbrev pub with_at_peer : Sender → AtPeer → Sender
with_at_peer s h = record { gear = s.gear; link = s.link; counts = s.counts; at_peer = h; last_burst = s.last_burst }

abbrev pub with_last_burst : Sender → LastBurst → Sender
with_last_burst s b = record { gear = s.gear; link = s.link; counts = s.counts; at_peer = s.at_peer; last_burst = b }

-- ---- the link

-- connected, with a session
abbrev pub with_session : Link → ℕ → Link
with_session k n =
    record {
      connected = true;
      awaiting = k.awaiting;
      session = n;
      last_time = k.last_time;
      burst_id = k.burst_id;
      heard = k.heard;
      peer_heard = k.peer_heard;
      peer_slot = k.peer_slot;
      peer_doppler_hz = k.peer_doppler_hz;
      peer_wants_turn = k.peer_wants_turn;
      peer_wants_disc = k.peer_wants_disc;
      peer_wave = k.peer_wave;
    }

abbrev pub with_awaiting : Link → Bool → Link
with_awaiting k b =
    record {
      connected = k.connected;
      awaiting = b;
      session = k.session;
      last_time = k.last_time;
      burst_id = k.burst_id;
      heard = k.heard;
      peer_heard = k.peer_heard;
      peer_slot = k.peer_slot;
      peer_doppler_hz = k.peer_doppler_hz;
      peer_wants_turn = k.peer_wants_turn;
      peer_wants_disc = k.peer_wants_disc;
      peer_wave = k.peer_wave;
    }

abbrev pub with_time : Link → Float → Link
with_time k t =
    record {
      connected = k.connected;
      awaiting = k.awaiting;
      session = k.session;
      last_time = t;
      burst_id = k.burst_id;
      heard = k.heard;
      peer_heard = k.peer_heard;
      peer_slot = k.peer_slot;
      peer_doppler_hz = k.peer_doppler_hz;
      peer_wants_turn = k.peer_wants_turn;
      peer_wants_disc = k.peer_wants_disc;
      peer_wave = k.peer_wave;
    }

abbrev pub with_number : Link → ℕ → Link
with_number k n =
    record {
      connected = k.connected;
      awaiting = k.awaiting;
      session = k.session;
      last_time = k.last_time;
      burst_id = n;
      heard = k.heard;
      peer_heard = k.peer_heard;
      peer_slot = k.peer_slot;
      peer_doppler_hz = k.peer_doppler_hz;
      peer_wants_turn = k.peer_wants_turn;
      peer_wants_disc = k.peer_wants_disc;
      peer_wave = k.peer_wave;
    }

-- the number last heard
abbrev pub with_heard : Link → ℕ → Link
with_heard k n =
    record {
      connected = k.connected;
      awaiting = k.awaiting;
      session = k.session;
      last_time = k.last_time;
      burst_id = k.burst_id;
      heard = true;
      peer_heard = n;
      peer_slot = k.peer_slot;
      peer_doppler_hz = k.peer_doppler_hz;
      peer_wants_turn = k.peer_wants_turn;
      peer_wants_disc = k.peer_wants_disc;
      peer_wave = k.peer_wave;
    }

abbrev pub with_slot : Link → ℕ → Link
with_slot k n =
    record {
      connected = k.connected;
      awaiting = k.awaiting;
      session = k.session;
      last_time = k.last_time;
      burst_id = k.burst_id;
      heard = k.heard;
      peer_heard = k.peer_heard;
      peer_slot = n;
      peer_doppler_hz = k.peer_doppler_hz;
      peer_wants_turn = k.peer_wants_turn;
      peer_wants_disc = k.peer_wants_disc;
      peer_wave = k.peer_wave;
    }

abbrev pub with_doppler : Link → Float → Link
with_doppler k hz =
    record {
      connected = k.connected;
      awaiting = k.awaiting;
      session = k.session;
      last_time = k.last_time;
      burst_id = k.burst_id;
      heard = k.heard;
      peer_heard = k.peer_heard;
      peer_slot = k.peer_slot;
      peer_doppler_hz = hz;
      peer_wants_turn = k.peer_wants_turn;
      peer_wants_disc = k.peer_wants_disc;
      peer_wave = k.peer_wave;
    }

-- the turn and disconnect wishes
abbrev pub with_wishes : Link → Bool → Bool → Link
with_wishes k turn disc =
    record {
      connected = k.connected;
      awaiting = k.awaiting;
      session = k.session;
      last_time = k.last_time;
      burst_id = k.burst_id;
      heard = k.heard;
      peer_heard = k.peer_heard;
      peer_slot = k.peer_slot;
      peer_doppler_hz = k.peer_doppler_hz;
      peer_wants_turn = turn;
      peer_wants_disc = disc;
      peer_wave = k.peer_wave;
    }

abbrev pub with_wave : Link → ℕ → Link
with_wave k w =
    record {
      connected = k.connected;
      awaiting = k.awaiting;
      session = k.session;
      last_time = k.last_time;
      burst_id = k.burst_id;
      heard = k.heard;
      peer_heard = k.peer_heard;
      peer_slot = k.peer_slot;
      peer_doppler_hz = k.peer_doppler_hz;
      peer_wants_turn = k.peer_wants_turn;
      peer_wants_disc = k.peer_wants_disc;
      peer_wave = w;
    }

-- ---- the counts

abbrev pub with_next : Counts → ℕ → Counts
with_next c n =
    record {
      next_offset = n;
      waiting = c.waiting;
      flying = c.flying;
      pieces = c.pieces;
      bytes_acked = c.bytes_acked;
      airtime_ms = c.airtime_ms;
    }

abbrev pub with_waiting : Counts → ℕ → Counts
with_waiting c n =
    record {
      next_offset = c.next_offset;
      waiting = n;
      flying = c.flying;
      pieces = c.pieces;
      bytes_acked = c.bytes_acked;
      airtime_ms = c.airtime_ms;
    }

abbrev pub with_flying : Counts → ℕ → Counts
with_flying c n =
    record {
      next_offset = c.next_offset;
      waiting = c.waiting;
      flying = n;
      pieces = c.pieces;
      bytes_acked = c.bytes_acked;
      airtime_ms = c.airtime_ms;
    }

abbrev pub with_pieces : Counts → ℕ → Counts
with_pieces c n =
    record {
      next_offset = c.next_offset;
      waiting = c.waiting;
      flying = c.flying;
      pieces = n;
      bytes_acked = c.bytes_acked;
      airtime_ms = c.airtime_ms;
    }

abbrev pub with_acked : Counts → ℕ → Counts
with_acked c n =
    record {
      next_offset = c.next_offset;
      waiting = c.waiting;
      flying = c.flying;
      pieces = c.pieces;
      bytes_acked = n;
      airtime_ms = c.airtime_ms;
    }

abbrev pub with_airtime : Counts → ℕ → Counts
with_airtime c ms =
    record {
      next_offset = c.next_offset;
      waiting = c.waiting;
      flying = c.flying;
      pieces = c.pieces;
      bytes_acked = c.bytes_acked;
      airtime_ms = ms;
    }

-- ---- the outstanding burst

-- no frame is outstanding; the arrays stay as they are
abbrev pub without_frames : LastBurst → LastBurst
without_frames b = record { off = b.off; bits = b.bits; held = b.held; n = 0 }
