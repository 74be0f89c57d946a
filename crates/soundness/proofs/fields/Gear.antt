-- The tests of the gear and of the link are their facts, both ways. Assumes nothing.
use mathlib.Core.Path.{◌≡◌, refl, sym}
use mathlib.Core.Bool.{Bool, true, false, not, ◌||◌, false≢true}
use Prim.Native.Nat.{ℕ, ◌≤◌}
use native.Mathlib.Omega.{arith}
use borrow.Author.Tests.{leb-true, le-leb, le-ltb, ltb-false, not-true}
use denote.Floats.{passes, is_true}
use lib.Dec.{T, ltb}
use lib.ListN.{get_or}
use lib.Ieee.{Float, nan, le, neg}
use Rattle.laws.proofs.Picks.{test, or_left, or_right}
use Rattle.laws.proofs.Tests.{all-at, all_none, all_more}
use Rattle.laws.proofs.Span.{every-all, all-every}
use Rattle.ieee.proofs.Range.{from-inside, to_inside}
use Rattle.ieee.specs.Range.{In, w32, w64}
use Rattle.config.specs.declared.MaybeDb.{MaybeDb}
use Rattle.levels.specs.declared.memory.Reports.{Reports}
use Rattle.levels.specs.declared.memory.Tries.{Tries}
use Rattle.levels.specs.declared.usable.Holds.{Holds}
use Rattle.gear.specs.declared.Gear.{Gear}
use Rattle.record.specs.declared.Link.{Link}
use Rattle.soundness.specs.Soundness.{kept_ok, kept_if_ok, reports_ok, remembered_ok, gear_ok, link_ok}
use Rattle.soundness.specs.SoundnessCode.{SoundGear, SoundLink}

-- ---- a test of what is there

where-set : (s t : Bool) → (not s || t) ≡ true → s ≡ true → t ≡ true
where-set true t e z = e
where-set false t e z = absurd (false≢true z)

if-set : (s t : Bool) → (s ≡ true → t ≡ true) → (not s || t) ≡ true
if-set true t f = f refl
if-set false t f = refl

-- of a count
from-count : (n m : ℕ) (t : Bool) → (ltb n m || t) ≡ true → m ≤ n → t ≡ true
from-count n m t e h = go (ltb n m) e (le-ltb n m h)
  where
    go : (b : Bool) → (b || t) ≡ true → b ≡ false → t ≡ true
    go true e z = absurd (false≢true (sym z))
    go false e z = e

to-count : (n m : ℕ) (t : Bool) → (m ≤ n → t ≡ true) → (ltb n m || t) ≡ true
to-count n m t f = test (ltb n m) (λ z. or_left (ltb n m) t z) (λ z. or_right (ltb n m) t (f (omega (arith, ltb-false n m z))))

-- ---- one number

not_yes : (b : Bool) → b ≡ false → not b ≡ true
not_yes true e = absurd (false≢true (sym e))
not_yes false e = refl

from-kept : (x : Float) → kept_ok x ≡ true → In (neg (w32 100)) (w32 308) x
unfolding kept_ok
from-kept x e = from-inside _ _ x e

to-kept : (x : Float) → In (neg (w32 100)) (w32 308) x → kept_ok x ≡ true
unfolding kept_ok
to-kept x i = to_inside _ _ x i

from-kept-if : (m : MaybeDb) → kept_if_ok m ≡ true → m.set ≡ true → In (neg (w32 100)) (w32 308) m.db
unfolding kept_if_ok
from-kept-if m e z = from-kept m.db (where-set m.set (kept_ok m.db) e z)

to-kept-if : (m : MaybeDb) → (m.set ≡ true → In (neg (w32 100)) (w32 308) m.db) → kept_if_ok m ≡ true
unfolding kept_if_ok
to-kept-if m f = if-set m.set (kept_ok m.db) (λ z. to-kept m.db (f z))

-- ---- the gear

module _ (t : Tries) (h : Holds) (k : ℕ) where
  from-share : remembered_ok t h k ≡ true → get_or t.tried k false ≡ true → In (w32 0) (w32 1) (get_or t.success k nan)
  unfolding remembered_ok
  from-share e z = from-inside _ _ _ (where-set _ _ (all-at _ 0 e) z)

  from-time : remembered_ok t h k ≡ true → T (le (get_or t.success_at k nan) (w64 1000000000))
  unfolding remembered_ok
  from-time e = passes _ (all-at _ 1 e)

  from_end : remembered_ok t h k ≡ true → T (le (get_or h.blocked_until k nan) (w64 1001000000))
  unfolding remembered_ok
  from_end e = passes _ (all-at _ 2 e)

  to_level : (get_or t.tried k false ≡ true → In (w32 0) (w32 1) (get_or t.success k nan)) → T (le (get_or t.success_at k nan) (w64 1000000000))
      → T (le (get_or h.blocked_until k nan) (w64 1001000000)) → remembered_ok t h k ≡ true
  unfolding remembered_ok
  to_level i u v = all_more _ _ (if-set _ _ (λ z. to_inside _ _ _ (i z))) (all_more _ _ (is_true _ u) (all_more _ _ (is_true _ v) all_none))

pub gear-sound : (g : Gear) → gear_ok g ≡ true → SoundGear g
unfolding gear_ok reports_ok
gear-sound g e =
    let r = all-at _ 5 e in
    let v = every-all (remembered_ok g.tries g.holds) 17 (all-at _ 6 e) in
    record {
      level = omega (arith, leb-true g.level 16 (all-at _ 0 e));
      target = omega (arith, leb-true g.target 16 (all-at _ 1 e));
      burst = passes _ (all-at _ 2 e);
      aim = from-kept-if _ (all-at _ 3 e);
      last = from-kept-if _ (all-at _ 4 e);
      a = λ h. from-kept _ (from-count g.snr_reports.count 3 _ (all-at _ 2 r) h);
      b = λ h. from-kept _ (from-count g.snr_reports.count 2 _ (all-at _ 1 r) h);
      c = λ h. from-kept _ (from-count g.snr_reports.count 1 _ (all-at _ 0 r) h);
      shares = λ k h. from-share g.tries g.holds k (v k h);
      times = λ k h. from-time g.tries g.holds k (v k h);
      ends = λ k h. from_end g.tries g.holds k (v k h);
    }

abbrev There : ℕ → Reports → Float → Type 0
There n r x = n ≤ r.count → In (neg (w32 100)) (w32 308) x

to-reports : (r : Reports) → There 3 r r.a → There 2 r r.b → There 1 r r.c → reports_ok r ≡ true
unfolding reports_ok
to-reports r a b c =
    all_more _ _ (to-count r.count 1 _ (λ h. to-kept _ (c h)))
    (all_more _ _ (to-count r.count 2 _ (λ h. to-kept _ (b h))) (all_more _ _ (to-count r.count 3 _ (λ h. to-kept _ (a h))) all_none))

pub sound-gear : (g : Gear) → SoundGear g → gear_ok g ≡ true
unfolding gear_ok
sound-gear g r =
    all_more _ _ (le-leb g.level 16 (omega (arith, r.level))) (all_more _ _ (le-leb g.target 16 (omega (arith, r.target))) (all_more _ _ (is_true _ r.burst)
    (all_more _ _ (to-kept-if _ r.aim) (all_more _ _ (to-kept-if _ r.last) (all_more _ _ (to-reports _ r.a r.b r.c)
    (all_more _ _ (all-every (remembered_ok g.tries g.holds) 17 (λ k h. to_level g.tries g.holds k (r.shares k h) (r.times k h) (r.ends k h))) all_none))))))

-- ---- the link

pub link-sound : (k : Link) → link_ok k ≡ true → SoundLink k
unfolding link_ok
link-sound k e =
    record {
      time = passes _ (all-at _ 0 e);
      number = leb-true _ _ (all-at _ 1 e);
      heard = λ z. leb-true _ _ (where-set k.heard _ (all-at _ 2 e) z);
      not_below = not-true _ (all-at _ 3 e);
      not_above = not-true _ (all-at _ 4 e);
    }

pub sound-link : (k : Link) → SoundLink k → link_ok k ≡ true
unfolding link_ok
sound-link k r =
    all_more _ _ (is_true _ r.time) (all_more _ _ (le-leb _ _ r.number) (all_more _ _ (if-set k.heard _ (λ z. le-leb _ _ (r.heard z)))
    (all_more _ _ (not_yes _ r.not_below) (all_more _ _ (not_yes _ r.not_above) all_none))))
