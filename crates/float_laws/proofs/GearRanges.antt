-- Where the gear's numbers lie, by `within` of `proofs/Intervals.antt`: each is its expression, and `tt`. Assumes nothing.
use mathlib.Core.List.{[], ◌∷◌}
use lib.Ieee.{Float, binary32, binary64, le, lt, neg, add, sub, mul, div, of_int, of_bits}
use Rattle.ieee.specs.Range.{In, w32, w64}
use Rattle.float.specs.Gear.{success_weight}
use Rattle.float.specs.Pick.{min_f, max_f}
use Rattle.float_laws.proofs.Intervals.{var, lit, plus, less, times, over, least, most, none, more, within}

-- now + hold, of on_ack: times and holds of a sound record
pub hold-end : (now hold : Float) → In (w64 0) (w64 1000000000) now → In (w64 0) (w64 1000000) hold → In (w64 0) (w64 1001000000) (add binary64 now hold)
unfolding le lt add of_int
hold-end now hold i j =
    within ((w64 0, w64 1000000000) ∷ (w64 0, w64 1000000) ∷ []) (now ∷ hold ∷ []) (plus binary64 (var 0) (var 1)) (w64 0) (w64 1001000000) (more i (more j none)) tt

-- a report from -100 to 300 dB, less a level's mean power, which the tables of level.rs have from -8 to 0 dB: the dB that the record keeps
pub kept_in : (snr air : Float) → In (neg (w32 100)) (w32 300) snr → In (neg (w32 8)) (w32 0) air → In (neg (w32 100)) (w32 308) (sub binary32 snr air)
unfolding le lt neg sub of_int
kept_in snr air i j =
    within ((neg (w32 100), w32 300) ∷ (neg (w32 8), w32 0) ∷ []) (snr ∷ air ∷ []) (less binary32 (var 0) (var 1)) (neg (w32 100)) (w32 308) (more i (more j none)) tt

-- (burst_s * 2.0).min(long.max(usual)), of adapt_burst
pub doubled-in : (burst long usual : Float) → In (w64 1) (w64 1000) burst → In (w64 1) (w64 1000) long → In (w64 1) (w64 1000) usual
    → In (w64 1) (w64 1000) (min_f (mul binary64 burst (w64 2)) (max_f long usual))
unfolding le lt mul of_int
doubled-in burst long usual i j k =
    within ((w64 1, w64 1000) ∷ (w64 1, w64 1000) ∷ (w64 1, w64 1000) ∷ []) (burst ∷ long ∷ usual ∷ [])
    (least (times binary64 (var 0) (lit (w64 2))) (most (var 1) (var 2))) (w64 1) (w64 1000) (more i (more j (more k none))) tt

-- 1.0 - loss, of on_ack
pub came-in : (loss : Float) → In (w32 0) (w32 1) loss → In (w32 0) (w32 1) (sub binary32 (w32 1) loss)
unfolding le lt sub of_int
came-in loss i = within ((w32 0, w32 1) ∷ []) (loss ∷ []) (less binary32 (lit (w32 1)) (var 0)) (w32 0) (w32 1) (more i none) tt

-- a share times 1.0 - SUCCESS_WEIGHT, of channel_failed
pub faded-in : (p : Float) → In (w32 0) (w32 1) p → In (w32 0) (w32 1) (mul binary32 p (sub binary32 (w32 1) success_weight))
unfolding le lt sub mul of_int of_bits
faded-in p i = within ((w32 0, w32 1) ∷ []) (p ∷ []) (times binary32 (var 0) (less binary32 (lit (w32 1)) (lit success_weight))) (w32 0) (w32 1) (more i none) tt

-- (pre + ack + turn) / overhead - ack - turn, of clean_burst_s before the clamp; the overhead is 0.01 at least
abbrev hundredth : Float
hundredth = of_bits binary64 0x3f84_7ae1_47ae_147b

pub clean-in : (pre ack turn overhead : Float) → In (w64 0) (w64 71) pre → In (w64 0) (w64 60) ack → In (w64 0) (w64 120) turn → In hundredth (w64 1) overhead
    → In (neg (w64 180)) (w64 25101) (sub binary64 (sub binary64 (div binary64 (add binary64 (add binary64 pre ack) turn) overhead) ack) turn)
unfolding le lt neg add sub div of_int of_bits
clean-in pre ack turn overhead i j k l =
    within ((w64 0, w64 71) ∷ (w64 0, w64 60) ∷ (w64 0, w64 120) ∷ (hundredth, w64 1) ∷ []) (pre ∷ ack ∷ turn ∷ overhead ∷ [])
    (less binary64 (less binary64 (over binary64 (plus binary64 (plus binary64 (var 0) (var 1)) (var 2)) (var 3)) (var 1)) (var 2)) (neg (w64 180)) (w64 25101)
    (more i (more j (more k (more l none)))) tt

-- (max_burst - (one - frame)) / max(frame, 0.001), frame = two - one, of level_rate
abbrev thousandth : Float
thousandth = of_bits binary64 0x3f50_624d_d2f1_a9fc

pub frames-in : (burst one two : Float) → In (w64 1) (w64 1000) burst → In (w64 0) (w64 33000) one → In (w64 0) (w64 33000) two
    → let frame = sub binary64 two one in In (neg (w64 66000000)) (w64 34001000) (div binary64 (sub binary64 burst (sub binary64 one frame)) (max_f frame thousandth))
unfolding le lt neg add sub mul div of_int of_bits
frames-in burst one two i j k =
    within ((w64 1, w64 1000) ∷ (w64 0, w64 33000) ∷ (w64 0, w64 33000) ∷ []) (burst ∷ one ∷ two ∷ [])
    (over binary64 (less binary64 (var 0) (less binary64 (var 1) (less binary64 (var 2) (var 1)))) (most (less binary64 (var 2) (var 1)) (lit thousandth))) (neg (w64 66000000)) (w64 34001000)
    (more i (more j (more k none))) tt
