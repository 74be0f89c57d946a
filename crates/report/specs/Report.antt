-- report.rs: the channel class and the channel report of a long ack (document 01, module 5). Definitions only.
use Rattle.std.specs.Prelude.{Bool, cond, List, ℕ, ◌+◌, ◌*◌, ◌/◌, ◌%◌, eqb, get_or, Float}
use Rattle.std.specs.Float.{nan, binary32}
use Rattle.std.specs.Float.Ieee.{sub, div}
use Rattle.ieee.specs.Range.{w32}
use Rattle.report.specs.declared.ChanClass.{ChanClass}
use Rattle.report.specs.declared.ChanReport.{ChanReport}

-- snr_from_q: q - 24 dB
unfoldable pub snr_from_q : ℕ → Float
snr_from_q q = sub binary32 (w32 q) (w32 24)

abbrev pub bit : Bool → ℕ
bit b = cond b 1 0

-- ChanClass::bits
abbrev pub class_bits : ChanClass → ℕ
class_bits c = bit c.echo + 2 * bit c.doppler

-- ChanClass::from_bits
abbrev pub class_from_bits : ℕ → ChanClass
class_from_bits b = record { echo = eqb (b % 2) 1; doppler = eqb (b / 2 % 2) 1 }

-- a spread in quarters; 255 is not a number
unfoldable pub spread_of : ℕ → Float
spread_of x = cond (eqb x 255) nan (div binary32 (w32 x) (w32 4))

-- slot 3 reads as 0
abbrev pub slot_of : ℕ → ℕ
slot_of s = cond (eqb s 3) 0 s

-- ChanReport::from_bytes of the four bytes from a place on: class and slot, effective SNR, delay span, Doppler spread
unfoldable pub report_at : List ℕ → ℕ → ChanReport
report_at b at =
    record {
      class = class_from_bits (get_or b at 0);
      eff_snr_db = snr_from_q (get_or b (at + 1) 0);
      delay_ms = spread_of (get_or b (at + 2) 0);
      doppler_hz = spread_of (get_or b (at + 3) 0);
      slot = slot_of (get_or b at 0 / 4 % 4);
    }
