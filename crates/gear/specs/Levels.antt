-- What is looked at of one level, and what Goodput.antt says of it, on the numbers of that level. Follows the code or serves proofs: nothing here has to be believed.
use Rattle.std.specs.Prelude.{ℕ, ◌+◌, Bool, false, cond, not, Option, None, ◌&&◌, ◌||◌, ◌==◌, nat_le, slice_index, slice_index_or, Float}
use Rattle.std.specs.Float.{nan, binary32, binary64}
use Rattle.std.specs.Float.Ieee.{add, sub, mul, div, le, lt}
use Rattle.ieee.specs.Range.{w32}
use Rattle.config.specs.declared.Marks.{Marks}
use Rattle.config.specs.declared.Profile.{Profile}
use Rattle.laws.specs.Span.{upto, fold}
use Rattle.level.specs.Ladder.{wave_rank}
use Rattle.levels.specs.Usable.{air_db, heeded, family_ok}
use Rattle.levels.specs.declared.memory.Tries.{Tries}
use Rattle.levels.specs.declared.rates.Pace.{Pace}
use Rattle.levels.specs.Rates.{pace_at, pace_rate}
use Rattle.gear.specs.declared.goodput.Best.{Best}
use Rattle.gear.specs.declared.Gear.{Gear}
use Rattle.gear.specs.declared.goodput.Seen.{Seen}
use Rattle.gear.specs.declared.goodput.Sight.{Sight}
use Rattle.gear.specs.declared.goodput.View.{View}
use Rattle.gear.specs.Goodput.{prior_of, remembered, marks_of, bar_of, over}

-- what is remembered of level l
abbrev pub seen_at : Tries → ℕ → Seen
seen_at t l = record { tried = slice_index_or t.tried l false; success = slice_index_or t.success l nan; at = slice_index_or t.success_at l nan; fails = slice_index t.fails l }

-- what level l would see, and what it wants
abbrev pub sight_at : Marks → ℕ → ℕ → Float → Sight
sight_at m power l aim = record { db = add binary32 aim (air_db power l); threshold_db = slice_index_or m.thresholds_db l nan; margin_db = m.margin_db }

-- what every level is held against
abbrev pub view_of : Profile → Gear → Float → View
view_of p g now = record { level = g.level; class = heeded p.pick_family g.peer_class; cue = g.cue; low = not g.aim_db.set || lt g.aim_db.db p.cue_below_db; now = now }

-- `chance_of`
unfoldable pub seen_chance : Seen → Float → Float → Float
seen_chance s prior now =
    let w = remembered now s.at s.fails in
    cond s.tried (add binary32 (mul binary32 w s.success) (mul binary32 (sub binary32 (w32 1) w) prior)) prior

-- `room_of`
unfoldable pub sight_room : Sight → Float
sight_room s = sub binary32 (sub binary32 s.db s.threshold_db) s.margin_db

-- `in_reach`
unfoldable pub sight_reach : Sight → Bool
sight_reach s = le (sub binary32 (add binary32 s.threshold_db s.margin_db) (w32 2)) s.db

-- `worth_of`
unfoldable pub view_worth : View → ℕ → Sight → Seen → Pace → Float
view_worth v l s t q = div binary64 (mul binary64 (seen_chance t (prior_of (sight_room s)) v.now) (pace_rate q l (v.cue && nat_le 4 (wave_rank l) && v.low))) (bar_of l v.level)

-- `candidate`
unfoldable pub view_candidate : View → ℕ → Sight → Bool
view_candidate v l s = l == v.level || (family_ok v.class l && sight_reach s)

-- `weighed`
unfoldable pub view_weighed : View → Option Best → ℕ → Sight → Seen → Pace → Option Best
view_weighed v b l s t q = cond (view_candidate v l s) (over b l (view_worth v l s t q)) b

-- `best_of`, by what every level is held against and what is remembered of each
abbrev pub view_best : Profile → View → Tries → Float → Option Best
view_best p v t aim = fold (λ b l. view_weighed v b l (sight_at (marks_of p) p.power l aim) (seen_at t l) (pace_at p l)) None (upto 0 (p.max_level + 1))
