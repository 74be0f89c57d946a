-- Values that document 01 gives in a sentence, or the original in a constant, as closed cases and laws: a definition that was changed
-- together with its code would still agree with the code, but not with these. P1 to P12 are in Table.antt.
-- Assumes nothing.
use mathlib.Core.Path.{◌≡◌, refl}
use mathlib.Core.Bool.{Bool, true, false}
use Prim.Native.Nat.{ℕ, ◌-◌, ◌^◌}
use lib.Ieee.{Float, binary32, binary64, of_bits, of_int, le, lt, neg, mul}
use Rattle.ieee.specs.Range.{inside}
use Rattle.limits.specs.Limits.{partial_max}
use Rattle.harq.specs.Held.{h_max, partial_field, check_bits}
use Rattle.float.specs.Floor.{ceil_u}
use Rattle.config.specs.Durations.{duration_at}
use Rattle.config.specs.declared.Profile.{Profile}
use Rattle.gear.specs.declared.Gear.{Gear}
use Rattle.record.specs.declared.Link.{Link}
use Rattle.record.specs.Airtime.{air_added}
use Rattle.record.specs.Fresh.{fresh_link}
use Rattle.outgoing.specs.declared.Frames.{Frames}
use Rattle.outgoing.specs.Outgoing.{headed, airtime_of}
use Rattle.refusals.specs.Refusals.{report_ok, time_ok}
use Rattle.reckoned.proofs.Table.{codes}

-- floats by their bits
abbrev db : ℕ → Float
db = of_bits binary32

abbrev at : ℕ → Float
at = of_bits binary64

-- 5 s, and a time before all others
abbrev five : Float
five = at 0x4014_0000_0000_0000

abbrev never : Float
never = at 0xfff0_0000_0000_0000

-- half a millisecond
abbrev half : Float
half = at 0x3f40_624d_d2f1_a9fc

pub record Values : Type 0 where
  -- "The partial field is 0 where parity = stored, else min(parity, 62) + 1"; the plan of a burst pops increments down to the same limit
  pub partial : (partial_max ≡ 62) × (partial_field 61 64 ≡ 62) × (partial_field 62 64 ≡ 63) × (partial_field 63 64 ≡ 63)
  -- "Check bits for n: 0 for 0, else 1 + n mod 3"
  pub check : (check_bits 0 ≡ 0) × (check_bits 1 ≡ 2) × (check_bits 2 ≡ 3) × (check_bits 3 ≡ 1) × (check_bits 64 ≡ 2)
  -- "below twice the mother length (`H_MAX`)", the mother length being 5760
  pub top : h_max codes ≡ 11520
  -- 6: "dB -100 to 300": each with the next float beyond it, and what is not a number
  pub db_most : (report_ok (db 0x4396_0000) ≡ true) × (report_ok (db 0x4396_0001) ≡ false)
  pub db_least : (report_ok (db 0xc2c8_0000) ≡ true) × (report_ok (db 0xc2c8_0001) ≡ false)
  pub db_nan : report_ok (db 0x7fc0_0000) ≡ false
  -- 5: "earlier than the last accepted one (equal is fine)": 5 s after 5 s, and the float before 5
  pub time_equal : time_ok five five ≡ true
  pub time_earlier : time_ok five (at 0x4013_ffff_ffff_ffff) ≡ false
  -- 5: "within 0 to 10^9": each with the next float beyond it, though no time came before
  pub time_least : (time_ok never (at 0) ≡ true) × (time_ok never (at 0x8000_0000_0000_0001) ≡ false)
  pub time_most : (time_ok never (at 0x41cd_cd65_0000_0000) ≡ true) × (time_ok never (at 0x41cd_cd65_0000_0001) ≡ false)
  -- audio.rs, TD_EASE_DOPPLER_HZ: 1.8. A report has quarters of a hertz: 1.75 Hz eases none, 2 Hz does
  pub ease : (p : Profile) (g : Gear) (k : Link) (parity stored number : ℕ) (f : Frames) →
      (k.peer_doppler_hz ≡ db 0x3fe0_0000 → (headed p g k parity stored number f).td_ease ≡ false)
      × (k.peer_doppler_hz ≡ db 0x4000_0000 → (headed p g k parity stored number f).td_ease ≡ true)
  -- "for each burst with a frame, its duration"; "the cue where a burst with a frame has one": one without adds nothing, behind a cue or not
  pub airtime : (p : Profile) (level ms bits : ℕ) (cued : Bool) → airtime_of p level cued ms 0 bits ≡ ms
  -- "Each is rounded up to a millisecond separately": a burst of 0.0005 s is 1 ms, and with a cue of 0.0005 s it is 2
  pub rounded : (p : Profile) (level bits : ℕ) → duration_at p.air level bits ≡ half → p.air.cue_s ≡ half →
      (airtime_of p level false 0 1 bits ≡ 1) × (airtime_of p level true 0 1 bits ≡ 2)
  -- 1 ms, the float above it, and no seconds
  pub millisecond : (air_added 7 (at 0x3f50_624d_d2f1_a9fc) ≡ 8) × (air_added 7 (at 0x3f50_624d_d2f1_a9fd) ≡ 9) × (air_added 7 (at 0) ≡ 7)
      × (air_added 7 (at 0x8000_0000_0000_0000) ≡ 7)
  -- "The sum still stays at 2^64 - 1 once there": from below, up to it, beyond it, and there
  pub most : (air_added (2 ^ 64 - 3) half ≡ 2 ^ 64 - 2) × (air_added (2 ^ 64 - 2) half ≡ 2 ^ 64 - 1)
      × (air_added (2 ^ 64 - 2) (at 0x404e_0000_0000_0000) ≡ 2 ^ 64 - 1) × (air_added (2 ^ 64 - 1) half ≡ 2 ^ 64 - 1)
  -- call lists: "Before the connect .. PEER_WAVE 1" (`Station::new`)
  pub wave : fresh_link.peer_wave ≡ 1

pub values : Values
unfolding partial_field check_bits report_ok time_ok inside headed airtime_of ceil_u mul of_bits of_int le lt neg
values =
    record {
      partial = (refl, refl, refl, refl);
      check = (refl, refl, refl, refl, refl);
      top = refl;
      db_most = (refl, refl);
      db_least = (refl, refl);
      db_nan = refl;
      time_equal = refl;
      time_earlier = refl;
      time_least = (refl, refl);
      time_most = (refl, refl);
      ease = λ p g k parity stored number f. (λ e. rw e, λ e. rw e);
      airtime = λ p level ms bits cued. refl;
      rounded = λ p level bits d c. (rw d refl, rw (d, c) refl);
      millisecond = (refl, refl, refl, refl);
      most = (refl, refl, refl, refl);
      wave = refl;
    }
