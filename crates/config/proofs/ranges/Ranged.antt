-- Refusal 1 both ways: `in_range` is true exactly where each number of the profile is in document 01's range for it.
-- Assumes nothing.
use mathlib.Core.Path.{◌≡◌, refl}
use mathlib.Core.Bool.{Bool, true, false, not, ◌||◌}
use Prim.Native.Nat.{ℕ, ◌≤◌}
use borrow.Author.Tests.{leb-true, le-leb}
use lib.Dec.{leb}
use lib.ListN.{get_or}
use lib.Ieee.{Float, nan}
use Rattle.laws.proofs.Picks.{and_first, and_second, and_yes}
use Rattle.laws.proofs.Tests.{all-at, all_none, all_more}
use Rattle.laws.proofs.Span.{every-all, all-every}
use Rattle.config.specs.Durations.{ack_at}
use Rattle.config.specs.declared.MaybeLevel.{MaybeLevel}
use Rattle.ieee.proofs.Range.{from-inside, to_inside}
use Rattle.ieee.specs.Range.{In, w64}
use Rattle.harq.specs.declared.Harq.{Harq}
use Rattle.config.specs.Ranges.{between, db_ok, maybe_db_ok, level_ok, ack_ok, air_ok, end_ok, harq_ok, lengths_ok, holds_ok, threshold_ok, marks_ok, pin_ok, levels_ok, sizes_ok, in_range}
use Rattle.config.specs.Ranged.{Db, LevelRanged, AirRanged, HarqRanged, LengthsRanged, HoldsRanged, MarksRanged, Ranged}
use Rattle.config.specs.declared.Air.{Air}
use Rattle.config.specs.declared.Marks.{Marks}
use Rattle.config.specs.declared.MaybeDb.{MaybeDb}
use Rattle.config.specs.declared.Lengths.{Lengths}
use Rattle.config.specs.declared.HoldTimes.{HoldTimes}
use Rattle.config.specs.declared.Profile.{Profile}

-- ---- one number

from-between : (lo hi n : ℕ) → between lo hi n ≡ true → (lo ≤ n) × (n ≤ hi)
unfolding between
from-between lo hi n e = (leb-true _ _ (and_first (leb lo n) _ e), leb-true _ _ (and_second (leb lo n) _ e))

to-between : (lo hi n : ℕ) → (lo ≤ n) × (n ≤ hi) → between lo hi n ≡ true
unfolding between
to-between lo hi n i = and_yes (leb lo n) (leb n hi) (le-leb _ _ i.0) (le-leb _ _ i.1)

from-db : (x : Float) → db_ok x ≡ true → Db x
unfolding db_ok
from-db x e = from-inside _ _ x e

to-db : (x : Float) → Db x → db_ok x ≡ true
unfolding db_ok
to-db x i = to_inside _ _ x i

-- an optional number is in range where it is set
from-maybe : (s t : Bool) → not s || t ≡ true → s ≡ true → t ≡ true
from-maybe true t e z = e
from-maybe false t e z = absurd (mathlib.Core.Bool.false≢true z)

to-maybe : (s t : Bool) → (s ≡ true → t ≡ true) → not s || t ≡ true
to-maybe true t f = f refl
to-maybe false t f = refl

-- ---- from the test to the facts

from-level : (a : Air) (l : ℕ) → level_ok a l ≡ true → LevelRanged a l
unfolding level_ok
from-level a l e =
    record {
      slot = from-between _ _ _ (all-at _ 0 e);
      pre = from-inside _ _ _ (all-at _ 1 e);
      rate = from-inside _ _ _ (all-at _ 2 e);
      most = leb-true _ _ (all-at _ 3 e);
    }

from-ack : (a : Air) (w : ℕ) → ack_ok a w ≡ true → In (w64 0) (w64 60) (ack_at a w)
unfolding ack_ok
from-ack a w e = from-inside _ _ _ e

from-air : (a : Air) → air_ok a ≡ true → AirRanged a
unfolding air_ok
from-air a e =
    record {
      level = λ l h. from-level a l (every-all (level_ok a) 17 (all-at _ 0 e) l h);
      ack = λ w h. from-ack a w (every-all (ack_ok a) 6 (all-at _ 1 e) w h);
      cue = from-inside _ _ _ (all-at _ 2 e);
    }

from_end : (q : Harq) (i : ℕ) → end_ok q i ≡ true → (1 ≤ get_or q.ends i 0) × (get_or q.ends i 0 ≤ 16384)
unfolding end_ok
from_end q i e = from-between _ _ _ e

from-harq : (q : Harq) → harq_ok q ≡ true → HarqRanged q
unfolding harq_ok
from-harq q e = record { mother = from-between _ _ _ (all-at _ 0 e); ends = λ i h. from_end q i (every-all (end_ok q) 6 (all-at _ 1 e) i h) }

from-maybe-db : (m : MaybeDb) → maybe_db_ok m ≡ true → m.set ≡ true → Db m.db
unfolding maybe_db_ok
from-maybe-db m e z = from-db m.db (from-maybe m.set (db_ok m.db) e z)

from-lengths : (b : Lengths) → lengths_ok b ≡ true → LengthsRanged b
unfolding lengths_ok
from-lengths b e =
    record {
      usual = from-inside _ _ _ (all-at _ 0 e);
      long = from-inside _ _ _ (all-at _ 1 e);
      overhead = from-inside _ _ _ (all-at _ 2 e);
      turnaround = from-inside _ _ _ (all-at _ 3 e);
      steady = from-db _ (all-at _ 4 e);
      climb = from-maybe-db _ (all-at _ 5 e);
    }

from-holds : (h : HoldTimes) → holds_ok h ≡ true → HoldsRanged h
unfolding holds_ok
from-holds h e = record { fail = from-inside _ _ _ (all-at _ 0 e); most = from-inside _ _ _ (all-at _ 1 e); loss = from-inside _ _ _ (all-at _ 2 e) }

from-threshold : (m : Marks) (l : ℕ) → threshold_ok m l ≡ true → Db (get_or m.thresholds_db l nan)
unfolding threshold_ok
from-threshold m l e = from-db _ e

from-marks : (m : Marks) → marks_ok m ≡ true → MarksRanged m
unfolding marks_ok
from-marks m e = record { threshold = λ l h. from-threshold m l (every-all (threshold_ok m) 17 (all-at _ 0 e) l h); margin = from-db _ (all-at _ 1 e) }

from-pin : (m : MaybeLevel) → pin_ok m ≡ true → m.set ≡ true → m.level ≤ 16
unfolding pin_ok
from-pin m e z = leb-true _ _ (from-maybe m.set (leb m.level 16) e z)

pub ranged : (p : Profile) → in_range p ≡ true → Ranged p
unfolding in_range levels_ok sizes_ok
ranged p e =
    let l = all-at _ 8 e in
    let s = all-at _ 9 e in
    record {
      air = from-air _ (all-at _ 0 e);
      codes = from-harq _ (all-at _ 1 e);
      lengths = from-lengths _ (all-at _ 2 e);
      holds = from-holds _ (all-at _ 3 e);
      plain = from-marks _ (all-at _ 4 e);
      eff = from-marks _ (all-at _ 5 e);
      cue = from-db _ (all-at _ 6 e);
      start = from-maybe-db _ (all-at _ 7 e);
      top = leb-true _ _ (all-at _ 0 l);
      skip = leb-true _ _ (all-at _ 1 l);
      pin = from-pin _ (all-at _ 2 l);
      short = from-between _ _ _ (all-at _ 0 s);
      long = from-between _ _ _ (all-at _ 1 s);
      power = leb-true _ _ (all-at _ 2 s);
    }

-- ---- from the facts to the test

to_level : (a : Air) (l : ℕ) → LevelRanged a l → level_ok a l ≡ true
unfolding level_ok
to_level a l r =
    all_more _ _ (to-between _ _ _ r.slot) (all_more _ _ (to_inside _ _ _ r.pre) (all_more _ _ (to_inside _ _ _ r.rate) (all_more _ _ (le-leb _ _ r.most) all_none)))

to-ack : (a : Air) (w : ℕ) → In (w64 0) (w64 60) (ack_at a w) → ack_ok a w ≡ true
unfolding ack_ok
to-ack a w i = to_inside _ _ _ i

to-air : (a : Air) → AirRanged a → air_ok a ≡ true
unfolding air_ok
to-air a r =
    all_more _ _ (all-every (level_ok a) 17 (λ l h. to_level a l (r.level l h)))
    (all_more _ _ (all-every (ack_ok a) 6 (λ w h. to-ack a w (r.ack w h))) (all_more _ _ (to_inside _ _ _ r.cue) all_none))

to_end : (q : Harq) (i : ℕ) → (1 ≤ get_or q.ends i 0) × (get_or q.ends i 0 ≤ 16384) → end_ok q i ≡ true
unfolding end_ok
to_end q i r = to-between _ _ _ r

to-harq : (q : Harq) → HarqRanged q → harq_ok q ≡ true
unfolding harq_ok
to-harq q r = all_more _ _ (to-between _ _ _ r.mother) (all_more _ _ (all-every (end_ok q) 6 (λ i h. to_end q i (r.ends i h))) all_none)

to-maybe-db : (m : MaybeDb) → (m.set ≡ true → Db m.db) → maybe_db_ok m ≡ true
unfolding maybe_db_ok
to-maybe-db m f = to-maybe m.set (db_ok m.db) (λ z. to-db _ (f z))

to-lengths : (b : Lengths) → LengthsRanged b → lengths_ok b ≡ true
unfolding lengths_ok
to-lengths b r =
    all_more _ _ (to_inside _ _ _ r.usual) (all_more _ _ (to_inside _ _ _ r.long) (all_more _ _ (to_inside _ _ _ r.overhead)
    (all_more _ _ (to_inside _ _ _ r.turnaround) (all_more _ _ (to-db _ r.steady) (all_more _ _ (to-maybe-db _ r.climb) all_none)))))

to-holds : (h : HoldTimes) → HoldsRanged h → holds_ok h ≡ true
unfolding holds_ok
to-holds h r = all_more _ _ (to_inside _ _ _ r.fail) (all_more _ _ (to_inside _ _ _ r.most) (all_more _ _ (to_inside _ _ _ r.loss) all_none))

to-threshold : (m : Marks) (l : ℕ) → Db (get_or m.thresholds_db l nan) → threshold_ok m l ≡ true
unfolding threshold_ok
to-threshold m l i = to-db _ i

to-marks : (m : Marks) → MarksRanged m → marks_ok m ≡ true
unfolding marks_ok
to-marks m r = all_more _ _ (all-every (threshold_ok m) 17 (λ l h. to-threshold m l (r.threshold l h))) (all_more _ _ (to-db _ r.margin) all_none)

to-pin : (m : MaybeLevel) → (m.set ≡ true → m.level ≤ 16) → pin_ok m ≡ true
unfolding pin_ok
to-pin m f = to-maybe m.set (leb m.level 16) (λ z. le-leb _ _ (f z))

to-levels : (p : Profile) → Ranged p → levels_ok p ≡ true
unfolding levels_ok
to-levels p r = all_more _ _ (le-leb _ _ r.top) (all_more _ _ (le-leb _ _ r.skip) (all_more _ _ (to-pin _ r.pin) all_none))

to-sizes : (p : Profile) → Ranged p → sizes_ok p ≡ true
unfolding sizes_ok
to-sizes p r = all_more _ _ (to-between _ _ _ r.short) (all_more _ _ (to-between _ _ _ r.long) (all_more _ _ (le-leb _ _ r.power) all_none))

pub in-range : (p : Profile) → Ranged p → in_range p ≡ true
unfolding in_range
in-range p r =
    all_more _ _ (to-air _ r.air) (all_more _ _ (to-harq _ r.codes) (all_more _ _ (to-lengths _ r.lengths) (all_more _ _ (to-holds _ r.holds)
    (all_more _ _ (to-marks _ r.plain) (all_more _ _ (to-marks _ r.eff) (all_more _ _ (to-db _ r.cue) (all_more _ _ (to-maybe-db _ r.start)
    (all_more _ _ (to-levels p r) (all_more _ _ (to-sizes p r) all_none)))))))))
