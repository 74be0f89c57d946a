-- `Gear::Goodput`. Definitions only.
use Rattle.std.specs.Prelude.{ℕ, ◌+◌, min, Bool, false, cond, not, Option, Some, None, option_map, unwrap_or, ◌&&◌, ◌||◌, pos, ◌==◌, from_bits, nat_le, slice_index, slice_index_or, Float}
use Rattle.std.specs.Bool.{beq}
use Rattle.std.specs.Float.{nan, inf, binary32, binary64}
use Rattle.std.specs.Float.Ieee.{add, sub, mul, div, neg, le, lt}
use Rattle.ieee.specs.Range.{w32, w64}
use Rattle.exp.specs.Exp.{E, E32}
use Rattle.ieee.specs.Power.{power}
use Rattle.exp.specs.Narrow.{narrow}
use Rattle.float.specs.Total.{total_le}
use Rattle.config.specs.Entries.{entry_at}
use Rattle.config.specs.declared.Marks.{Marks}
use Rattle.config.specs.declared.Profile.{Profile}
use Rattle.laws.specs.Span.{upto, fold}
use Rattle.level.specs.Ladder.{wave_rank, long_frame}
use Rattle.levels.specs.Usable.{air_db, heeded, family_ok, usable_below}
use Rattle.levels.specs.Rates.{level_rate}
use Rattle.gear.specs.declared.goodput.Best.{Best}
use Rattle.levels.specs.declared.memory.Tries.{Tries}
use Rattle.gear.specs.declared.Gear.{Gear}

-- `prior`: 1 / (1 + e^(-(room + 0.5) / 0.25))
unfoldable pub prior_of : Float → Float
prior_of room = div binary32 (w32 1) (add binary32 (w32 1) (E32 (div binary32 (neg (add binary32 room (from_bits binary32 0x3f00_0000))) (from_bits binary32 0x3e80_0000))))

-- `memory`: GOODPUT_MEMORY_S * 2f64.powi(fails.min(4))
unfoldable pub memory_s : ℕ → Float
memory_s fails = mul binary64 (w64 180) (power (pos (min fails 4)))

-- `w`: e^(-(now - at) / memory)
unfoldable pub remembered : Float → Float → ℕ → Float
remembered now at fails = narrow (E (div binary64 (neg (sub binary64 now at)) (memory_s fails)))

-- `p`: w * s + (1 - w) * prior where the level was tried, else the prior
unfoldable pub chance_of : Tries → ℕ → Float → Float → Float
chance_of t l prior now =
    let w = remembered now (slice_index_or t.success_at l nan) (slice_index t.fails l) in
    cond (slice_index_or t.tried l false) (add binary32 (mul binary32 w (slice_index_or t.success l nan)) (mul binary32 (sub binary32 (w32 1) w) prior)) prior

-- the thresholds and the margin that the reports are held against
unfoldable pub marks_of : Profile → Marks
marks_of p = cond p.eff_snr p.eff p.plain

-- `cue_for`: cues agreed, a full-band OFDM level, and the SNR aimed by below cue_below_db
unfoldable pub cue_for : Profile → Gear → ℕ → Bool
cue_for p g l = g.cue && nat_le 4 (wave_rank l) && (not g.aim_db.set || lt g.aim_db.db p.cue_below_db)

-- `room`: aim + air_db(l) - threshold(l) - margin
unfoldable pub room_of : Marks → ℕ → ℕ → Float → Float
room_of m power l aim = sub binary32 (sub binary32 (add binary32 aim (air_db power l)) (slice_index_or m.thresholds_db l nan)) m.margin_db

-- aim + air_db(l) >= threshold(l) + margin - 2
unfoldable pub in_reach : Marks → ℕ → ℕ → Float → Bool
in_reach m power l aim = le (sub binary32 (entry_at m l) (w32 2)) (add binary32 aim (air_db power l))

-- `score`
unfoldable pub score_of : Profile → Gear → Float → Float → ℕ → Float
score_of p g aim now l = mul binary64 (chance_of g.tries l (prior_of (room_of (marks_of p) p.power l aim)) now) (level_rate p l (cue_for p g l))

-- `bar`: 1, or 1.15 for another level, squared for another frame size
abbrev pub switch : Float
switch = from_bits binary64 0x3ff2_6666_6666_6666

unfoldable pub bar_of : ℕ → ℕ → Float
bar_of l at = cond (l == at) (w64 1) (cond (beq (long_frame l) (long_frame at)) switch (mul binary64 switch switch))

-- `worth`
unfoldable pub worth_of : Profile → Gear → Float → Float → ℕ → Float
worth_of p g aim now l = div binary64 (score_of p g aim now l) (bar_of l g.level)

-- the filter: the present level, or one that the class allows and that is in reach
unfoldable pub candidate : Profile → Gear → Float → ℕ → Bool
candidate p g aim l = l == g.level || (family_ok (heeded p.pick_family g.peer_class) l && in_reach (marks_of p) p.power l aim)

-- `max_by`: of two the later where it is not less, by total_cmp
unfoldable pub over : Option Best → ℕ → Float → Option Best
over None l w = Some (record { level = l; worth = w })
over (Some b) l w = cond (not (total_le b.worth w)) (Some b) (Some (record { level = l; worth = w }))

unfoldable pub weighed : Profile → Gear → Float → Float → Option Best → ℕ → Option Best
weighed p g aim now b l = cond (candidate p g aim l) (over b l (worth_of p g aim now l)) b

abbrev pub best_of : Profile → Gear → Float → Float → Option Best
best_of p g aim now = fold (weighed p g aim now) None (upto 0 (p.max_level + 1))

-- `pick_by_goodput`
unfoldable pub pick_by_goodput : Profile → Gear → Float → Float → ℕ
pick_by_goodput p g aim now =
    unwrap_or (option_map (λ b. usable_below g.holds (heeded p.pick_family g.peer_class) p.pin_level b.level (inf false)) (best_of p g aim now)) 0
