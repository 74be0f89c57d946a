use Rattle.levels.specs.Rates.{pace_rate}
use lib.Ieee.{of_int, of_bits}
use Rattle.std.proofs.Common.{arith, rules}
use Rattle.levels.proofs.rates.RateLaws.{frames-le, bits_fit}
use Rattle.levels.proofs.rates.Pace.payload_rate.Goals as goal

pub data_s-one-requires : goal.data_s-one-requires
data_s-one-requires c = search rules

pub overflow_mul-slot : goal.overflow_mul-slot
overflow_mul-slot c = let s = c in omega (arith, s.requires.fact_2.slot)

pub data_s-two-requires : goal.data_s-two-requires
data_s-two-requires c = search rules

pub overflow_mul-most : goal.overflow_mul-most
overflow_mul-most c =
    let s = c in
    record {
      fits =
          rw (c.count_of.ensures, c.frames_of-frames.ensures, c.data_s-two.ensures, c.data_s-one.ensures, c.cue_s-lead.ensures, c.from-slot.ensures)
          (bits_fit _ _ (frames-le s.args.self s.requires.fact_2 s.args.cue) s.requires.fact_2.slot);
    }

pub data_s-burst-requires : goal.data_s-burst-requires
data_s-burst-requires c = search rules

pub returns : goal.returns
unfolding pace_rate of_int of_bits
returns c =
    let a = c in
    simp (
      c.max-2.ensures,
      c.max.ensures,
      c.floor64.ensures,
      c.nearest_u64_to_f64-bits.ensures,
      c.payload_bits.ensures,
      a.data_s-burst.ensures,
      a.count_of.ensures,
      a.frames_of-frames.ensures,
      a.data_s-two.ensures,
      a.data_s-one.ensures,
      a.cue_s-lead.ensures,
      a.from-slot.ensures,
    )
