-- All frames of one reception, once accepted: the loop at the end of `sender_rx` (sender.rs; document 02, Change 7). Definitions only.
use Rattle.std.specs.Prelude.{List, [], ◌∷◌, Bool, cond, ◌&&◌, ℕ, zero, suc, ◌/◌, ◌%◌, leb, eqb, length, take, drop, get_or}
use Rattle.report.specs.Ack.{ack_of}
use Rattle.config.specs.declared.Profile.{Profile}
use Rattle.record.specs.declared.Sender.{Sender}
use Rattle.replies.specs.declared.Heard.{Heard}
use Rattle.replies.specs.declared.LongAck.{LongAck}
use Rattle.receive.specs.Accepted.{long_read}
use Rattle.reception.specs.declared.Reception.{Reception}

-- a decoded frame, as `Frame::decode` gives it: kind and flags by frame.rs's numbers, and the payload
pub record Decoded : Type 0 where
  pub kind : ℕ
  pub flags : ℕ
  pub payload : List ℕ

-- n of the frames that are handed in, from place i on, their payloads back to back in bs. Where the bytes run out a payload has what is left
abbrev pub decoded_from : Reception → ℕ → ℕ → List ℕ → List Decoded
decoded_from r zero i bs = []
decoded_from r (suc n) i bs =
    let l = get_or r.len i 0 in
    record { kind = get_or r.kind i 0; flags = get_or r.flags i 0; payload = take l bs } ∷ decoded_from r n (suc i) (drop l bs)

abbrev pub decoded_in : Reception → List ℕ → List Decoded
decoded_in r bs = decoded_from r r.n 0 bs

-- `f.kind == Kind::Ack`, and `AckInfo::from_bytes` reads the payload: "Frames that aren't acks and payloads under 13 bytes are passed over"
abbrev pub is_ack_read : Decoded → Bool
is_ack_read f = eqb f.kind 4 && leb 13 (length f.payload)

-- flags::WANT_TURN, WANT_DISC, STORED: 1, 2 and 4
abbrev pub flags_of : ℕ → LongAck
flags_of n = record { want_turn = eqb (n % 2) 1; want_disc = eqb (n / 2 % 2) 1; stored = eqb (n / 4 % 2) 1 }

-- `for f in frames.iter().flatten()`, from record and work area c
unfoldable pub frames_heard : Profile → Heard → List Decoded → Sender × List ℕ → Sender × List ℕ
frames_heard p h [] c = c
frames_heard p h (f ∷ fs) c =
    frames_heard p h fs (cond (is_ack_read f) (long_read p h (flags_of f.flags) (ack_of f.payload) c.0 c.1) c)
