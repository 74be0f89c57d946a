-- WHAT A FAR STATION CANNOT FORCE, as its page states it (specs/CannotForce.antt). Where the profile is refused or the work area is short,
-- every call is refused, and the record stays fresh.
-- Assumes nothing.
use mathlib.Core.Path.{◌≡◌, refl, sym, ap, ◌∙◌, subst}
use mathlib.Core.Option.{Option, none}
use mathlib.Core.List.{List, [], ◌∷◌}
use mathlib.Core.Bool.{Bool, true, false, ◌&&◌, false≢true}
use Prim.Native.Nat.{ℕ, zero, suc, ◌≤◌, ◌<◌}
use native.Mathlib.Omega.{arith}
use lib.Dec.{leb}
use lib.Ieee.{Float, nan, inf}
use lib.ListN.{length, get_or, replicate}
use borrow.Author.Tests.{leb-true, leb-false}
use Rattle.laws.proofs.Picks.{test, and_first, and_second}
use Rattle.config.specs.declared.Profile.{Profile}
use Rattle.config.specs.Ranges.{in_range, in_order}
use Rattle.config.proofs.ranges.Ranged.{ranged}
use Rattle.ledger.specs.Calls.{Along, run}
use Rattle.ledger.specs.Station as L
use Rattle.ledger.specs.Tally.{Tally, Event, start, feed}
use Rattle.ledger.proofs.Agree.{start-agree}
use Rattle.area.specs.Layout.{area_bytes}
use Rattle.record.specs.Fresh.{fresh}
use Rattle.queuing.specs.Station.{fresh_station}
use Rattle.queuing.proofs.Shown.{fresh-shows}
use Rattle.verdicts.specs.Verdicts.{passed, standing}
use Rattle.demand.specs.Lists.{Call, queues, hears, receives, bursts, State, Given, fresh_start, next, call_told}
use Rattle.demand.specs.Page.{c as reached}
use Rattle.demand.proofs.Reached.{stays, refused-by, fresh-fit, well}
use Rattle.far_station.specs.CannotForce.{judged_by, last_judged, EndsBy, NeverStopped, HoldsEnd, CannotForce}
use Rattle.far_station.proofs.Unsent.{unsent}
use Rattle.far_station.proofs.Window.{OpenAt, sound-open, fresh-open}
use Rattle.far_station.proofs.Holds.{Carried, all-bounded}

-- a fresh record has no hold
never-held : (p : Profile) (k : ℕ) → k < 17 → EndsBy p none (get_or fresh.gear.holds.blocked_until k nan)
never-held p k h = go k 17 h
  where
    go : (i n : ℕ) → i < n → get_or (replicate n (inf true)) i nan ≡ inf true
    go i zero l = absurd (omega arith)
    go zero (suc n) l = refl
    go (suc i) (suc n) l = go i n (omega arith)

-- ---- every call is refused

module _ (p : Profile) (n : ℕ) (refused : (connect : Bool) → passed (standing p fresh_station (replicate n 0) connect) ≡ false) where
  unjudged : (i : Call) (t : Tally) → judged_by i (call_told p i (fresh_start n)) t.out none ≡ none
  unjudged (queues k l bs) t = refl
  unjudged (bursts out) t = refl
  unjudged (receives h r b) t = ap (λ (e : Event). judged_by (receives h r b) e t.out none) (stays p n refused (receives h r b)).1
  unjudged (hears h r b) t = ap (λ (e : Event). judged_by (hears h r b) e t.out none) (stays p n refused (hears h r b)).1

  all_stay : (is : List Call) (c : State) (t : Tally) → c ≡ fresh_start n
      → (run (next p) is c ≡ fresh_start n) × (last_judged p is c t none ≡ none)
  all_stay [] c t e = (e, refl)
  all_stay (i ∷ is) c t e =
      let a : next p i c ≡ fresh_start n = ap (next p i) e ∙ (stays p n refused i).0 in
      let j : judged_by i (call_told p i c) t.out none ≡ none = ap (λ (x : State). judged_by i (call_told p i x) t.out none) e ∙ unjudged i t in
      let q = all_stay is (next p i c) (feed (call_told p i c) t) a in
      (q.0, ap (last_judged p is (next p i c) (feed (call_told p i c) t)) j ∙ q.1)

-- ---- both

module _ (p : Profile) (six : length p.codes.ends ≤ 6) (n : ℕ) (is : List Call) (gs : Along (next p) Given is (fresh_start n)) where
  turned_down : ((in_range p && in_order p) ≡ true → area_bytes ≤ n → ⊥) → NeverStopped p n is × HoldsEnd p n is
  turned_down f =
      let q = all_stay p n (refused-by p n f) is (fresh_start n) start refl in (
        subst (OpenAt p) (sym q.0) (fresh-open p n),
        (λ k h.
            subst (λ (j : Option Float). EndsBy p j (get_or (reached p n is).0.sender.gear.holds.blocked_until k nan))
            (sym q.1)
            (subst (λ (c : State). EndsBy p none (get_or c.0.sender.gear.holds.blocked_until k nan)) (sym q.0) (never-held p k h))),
      )

  taken-up : (in_range p && in_order p) ≡ true → area_bytes ≤ n → NeverStopped p n is × HoldsEnd p n is
  taken-up v l =
      let rg = ranged p (and_first (in_range p) (in_order p) v) in
      let io = and_second (in_range p) (in_order p) v in
      let e = fresh-shows (replicate n 0) in
      let first : Carried p rg io six (fresh_start n) start none =
      record {
        fit = fresh-fit p rg io six n l;
        queue = sym (ap (λ (x : L.Station). x.queue) e);
        agree = rw e start-agree;
        idle = λ w. ap (λ (x : L.Station). x.sender.sent) e;
        bounded = (never-held p, tt);
      } in
      (sound-open p rg io six (reached p n is) (well p rg io six n l is gs), all-bounded p rg io six is (fresh_start n) start none gs first)

  both : NeverStopped p n is × HoldsEnd p n is
  both =
      test (in_range p && in_order p)
      (λ v.
      test (leb area_bytes n) (λ l. taken-up v (leb-true area_bytes n l))
      (λ l. turned_down (λ x y. omega (arith, leb-false area_bytes n l, y))))
      (λ v. turned_down (λ x y. false≢true (sym v ∙ x)))

pub cannot-force : CannotForce
cannot-force p six n is gs =
    let b = both p six n is gs in
    ((λ js along out. unsent p six n is js along out), b.0, b.1)
