-- Document 01's sound record, as tests and as facts. Definitions only.
use Rattle.std.specs.Prelude.{List, [], ◌∷◌, Bool, false, not, ◌||◌, ℕ, ◌+◌, ◌-◌, ltb, leb, eqb, length, take, drop, get_or, Float}
use Rattle.std.specs.Float.{nan, binary32}
use Rattle.std.specs.Float.Ieee.{le, lt, neg, of_bits}
use Rattle.laws.specs.Tests.{all}
use Rattle.laws.specs.Span.{every, upto}
use Rattle.ieee.specs.Range.{inside, w32, w64}
use Rattle.config.specs.declared.MaybeDb.{MaybeDb}
use Rattle.config.specs.declared.Profile.{Profile}
use Rattle.levels.specs.declared.memory.Reports.{Reports}
use Rattle.levels.specs.declared.memory.Tries.{Tries}
use Rattle.levels.specs.declared.usable.Holds.{Holds}
use Rattle.gear.specs.declared.Gear.{Gear}
use Rattle.gear.specs.BurstLength.{burst_ok}
use Rattle.area.specs.Layout.{area_bytes}
use Rattle.area.specs.Table.{rows_from}
use Rattle.area_check.specs.Rows.{row_offs, table_ok, all_flying, held_bits_ok, sent_bits_ok, none_listed}
use Rattle.record.specs.Profiles.{sizes_of}
use Rattle.record.specs.declared.Link.{Link}
use Rattle.record.specs.declared.AtPeer.{AtPeer}
use Rattle.record.specs.declared.LastBurst.{LastBurst}
use Rattle.record.specs.declared.Sender.{Sender}
use Rattle.limits.specs.Limits.{max_slots, max_number, max_flying, max_waiting, max_pieces, max_taken}

-- ---- the gear: "levels 0 to 16; shares 0 to 1, burst seconds 1 to 1,000, times at most 10^9, hold ends at most 1,001,000,000, kept dB -100 to 308"

unfoldable pub kept_ok : Float → Bool
kept_ok x = inside (neg (w32 100)) (w32 308) x

unfoldable pub kept_if_ok : MaybeDb → Bool
kept_if_ok m = not m.set || kept_ok m.db

-- of the reports that are there: the newest first; a count above three reads as three
unfoldable pub reports_ok : Reports → Bool
reports_ok r = all ((ltb r.count 1 || kept_ok r.c) ∷ (ltb r.count 2 || kept_ok r.b) ∷ (ltb r.count 3 || kept_ok r.a) ∷ [])

-- level k: its share where it was tried; minus infinity is a time and an end too, that of a fresh record
unfoldable pub remembered_ok : Tries → Holds → ℕ → Bool
remembered_ok t h k =
    all ((not (get_or t.tried k false) || inside (w32 0) (w32 1) (get_or t.success k nan)) ∷ le (get_or t.success_at k nan) (w64 1000000000)
    ∷ le (get_or h.blocked_until k nan) (w64 1001000000) ∷ [])

unfoldable pub gear_ok : Gear → Bool
gear_ok g =
    all (leb g.level 16 ∷ leb g.target 16 ∷ burst_ok g.burst_s ∷ kept_if_ok g.aim_db ∷ kept_if_ok g.last_report_db
    ∷ reports_ok g.snr_reports ∷ every (remembered_ok g.tries g.holds) (upto 0 17) ∷ [])

-- ---- the link: "burst numbers 0 to 3, times at most 10^9, Doppler 0 to 63.5", or not a number; of the number last heard where one was heard

-- 63.5
abbrev pub max_doppler : Float
max_doppler = of_bits binary32 0x427e_0000

unfoldable pub link_ok : Link → Bool
link_ok k =
    all (le k.last_time (w64 1000000000) ∷ leb k.burst_id max_number ∷ (not k.heard || leb k.peer_heard max_number)
    ∷ not (lt k.peer_doppler_hz (w32 0)) ∷ not (lt max_doppler k.peer_doppler_hz) ∷ [])

-- ---- the ledger's part

unfoldable pub counts_ok : Sender → Bool
counts_ok s =
    all (leb s.at_peer.n max_slots ∷ leb s.at_peer.rest s.at_peer.n ∷ leb (s.last_burst.n + s.at_peer.rest) max_slots
    ∷ leb s.counts.waiting max_waiting ∷ leb s.counts.flying max_flying ∷ leb s.counts.pieces max_pieces
    ∷ leb (s.counts.next_offset + s.counts.waiting) max_taken ∷ eqb (s.counts.bytes_acked + s.counts.flying) s.counts.next_offset ∷ [])

-- offsets os fly
unfoldable pub lists_ok : ℕ → AtPeer → LastBurst → List ℕ → Bool
lists_ok top h b os =
    all (all_flying (take h.n h.off) os ∷ held_bits_ok top (take h.n h.bits) ∷ all_flying (take b.n b.off) os
    ∷ none_listed (take b.n b.off) (drop (h.n - h.rest) (take h.n h.off)) ∷ sent_bits_ok (take b.n b.bits) (take b.n b.held) ∷ [])

-- refusal 3: the work area has 49,152 bytes or more, and the record is sound
unfoldable pub sound_ok : Profile → Sender → List ℕ → Bool
sound_ok p s a =
    let z = sizes_of p in
    let rows = rows_from a 0 s.counts.pieces in
    all (leb area_bytes (length a) ∷ counts_ok s ∷ table_ok z.short z.long s.counts.next_offset s.counts.flying rows
    ∷ lists_ok z.top s.at_peer s.last_burst (row_offs rows) ∷ gear_ok s.gear ∷ link_ok s.link ∷ [])
