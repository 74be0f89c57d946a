-- What a reply that is not refused has in range, and what the types of a gear record say. Follows the code or serves proofs: nothing here has to be believed.
use Rattle.std.specs.Prelude.{◌≡◌, true, false, ℕ, ◌<◌, ◌≤◌, T, length, get_or}
use Rattle.std.specs.Float.{nan, binary32}
use Rattle.std.specs.Float.Ieee.{fits, lt, of_bits}
use Rattle.ieee.specs.Range.{w32}
use Rattle.config.specs.declared.Profile.{Profile}
use Rattle.gear.specs.declared.Gear.{Gear}
use Rattle.gear_laws.specs.Sound.{DbInRange, TimeInRange}
use Rattle.report.specs.Ack.{report_of}
use Rattle.report.specs.declared.ack.AckInfo.{AckInfo}
use Rattle.replies.specs.declared.Heard.{Heard}
use Rattle.replies.specs.declared.ConnAck.{ConnAck}
use Rattle.replies.specs.declared.Ack.{Ack}
use Rattle.replies.specs.declared.Turn.{Turn}
use Rattle.replies.specs.Replies.{long_db, turn_db}
use Rattle.limits.specs.Limits.{max_number}

-- 17 shares, values of an f32 where a level was tried, as their type has it
pub record TypedGear (g : Gear) : Type 0 where
  pub width : length g.tries.success ≡ 17
  pub shares : (k : ℕ) → k < 17 → get_or g.tries.tried k false ≡ true → T (fits binary32 (get_or g.tries.success k nan))

-- ---- replies: dB -100 to 300, times 0 to 10^9, burst numbers 0 to 3

pub record AckIn (h : Heard) (r : Ack) : Type 0 where
  pub time : TimeInRange h.time
  pub db : DbInRange r.snr_db
  pub burst : r.burst ≤ max_number

-- a Doppler spread: 0 to 63.5, or not a number
pub record LongAckIn (p : Profile) (h : Heard) (i : AckInfo) : Type 0 where
  pub time : TimeInRange h.time
  pub db : DbInRange (long_db p i)
  pub burst : i.burst ≤ max_number
  pub not_below : lt (report_of i).doppler_hz (w32 0) ≡ false
  pub not_above : lt (of_bits binary32 0x427e_0000) (report_of i).doppler_hz ≡ false

pub record TurnIn (h : Heard) (r : Turn) : Type 0 where
  pub time : TimeInRange h.time
  pub db : DbInRange (turn_db h r)

pub record ConnAckIn (h : Heard) (r : ConnAck) : Type 0 where
  pub time : TimeInRange h.time
  pub db : DbInRange r.snr_db
