-- What the gear remembers of each level, and of the last three reports. Definitions only.
use Rattle.std.specs.Prelude.{ℕ, ◌+◌, min, Bool, true, false, cond, not, ◌&&◌, ◌||◌, ◌==◌, nat_le, nat_lt, slice_index, slice_index_or, slice_set, Float}
use Rattle.std.specs.Float.{nan, binary32}
use Rattle.std.specs.Float.Ieee.{sub, mul, lt}
use Rattle.ieee.specs.Range.{w32}
use Rattle.float.specs.Gear.{success_weight, share}
use Rattle.float.specs.Pick.{min_f, max_f}
use Rattle.float.specs.Total.{median_f}
use Rattle.laws.specs.Span.{upto, fold, count}
use Rattle.level.specs.Ladder.{wave_rank, guard_ms}
use Rattle.levels.specs.declared.memory.Reports.{Reports}
use Rattle.levels.specs.declared.memory.Tries.{Tries}
use Rattle.levels.specs.declared.usable.Holds.{Holds}

-- `aim_snr`: push_back, pop_front past three; the newest, or with smooth_target the lower of it and the median of three
unfoldable pub pushed : Reports → Float → Reports
pushed r x = record { count = min (r.count + 1) 3; a = r.b; b = r.c; c = x }

unfoldable pub aim_of : Reports → Bool → Float
aim_of r smooth = cond (smooth && nat_le 3 r.count) (min_f r.c (median_f r.a r.b r.c)) r.c

-- the share after a burst of which `ok` came through
unfoldable pub share_after : Bool → Float → Float → Float
share_after tried p ok = cond tried (share p ok) ok

unfoldable pub noted : Tries → ℕ → Float → Float → Tries
noted t k ok now =
    record {
      tried = slice_set t.tried k true;
      success = slice_set t.success k (share_after (slice_index_or t.tried k false) (slice_index_or t.success k nan) ok);
      success_at = slice_set t.success_at k now;
      fails = t.fails;
    }

-- fails[k].saturating_add(1), and 0
unfoldable pub failed : Tries → ℕ → Tries
failed t k = record { tried = t.tried; success = t.success; success_at = t.success_at; fails = slice_set t.fails k (min (slice_index t.fails k + 1) 255) }

unfoldable pub cleared : Tries → ℕ → Tries
cleared t k = record { tried = t.tried; success = t.success; success_at = t.success_at; fails = slice_set t.fails k 0 }

-- `channel_failed`: `hit`, and what it does to a level
unfoldable pub hits : ℕ → ℕ → Bool
hits at k = nat_le 3 (wave_rank k) && not (k == at) && (wave_rank k == wave_rank at || (nat_lt at k && nat_le (guard_ms (wave_rank k)) (guard_ms (wave_rank at))))

-- p * (1 - SUCCESS_WEIGHT), or 0
unfoldable pub faded : Bool → Float → Float
faded tried p = cond tried (mul binary32 p (sub binary32 (w32 1) success_weight)) (w32 0)

unfoldable pub marked : ℕ → Float → Tries → ℕ → Tries
marked at now t k =
    cond (hits at k)
    (record {
      tried = slice_set t.tried k true;
      success = slice_set t.success k (faded (slice_index_or t.tried k false) (slice_index_or t.success k nan));
      success_at = slice_set t.success_at k now;
      fails = slice_set t.fails k (min (slice_index t.fails k + 1) 255);
    })
    t

unfoldable pub channel_failed : Tries → ℕ → Float → Tries
channel_failed t at now = fold (marked at now) t (upto 0 17)

-- `others`: other levels in another waveform, held off by the channel
unfoldable pub holding : Holds → ℕ → Float → ℕ → Bool
holding h at now k = not (k == at) && lt now (slice_index_or h.blocked_until k nan) && not (slice_index_or h.hold_all k false) && not (wave_rank k == wave_rank at)

unfoldable pub others : Holds → ℕ → Float → ℕ
others h at now = count (holding h at now) (upto 0 17)

-- blocked_until[k].max(end)
unfoldable pub held_until : Holds → ℕ → Float → Bool → Holds
held_until h k end all = record { blocked_until = slice_set h.blocked_until k (max_f (slice_index_or h.blocked_until k nan) end); hold_all = slice_set h.hold_all k all }
