-- What ties a receiver to the tally of the sender's calls, and what keeps it. Assumes nothing.
use Prim.Native.Nat.{ℕ, zero, suc, ◌+◌, ◌-◌, ◌≤◌, ◌<◌}
use mathlib.Core.Path.{◌≡◌, refl, sym, ap, ap₂, ◌∙◌, subst}
use mathlib.Core.Logic.{◌⊎◌, inl, inr}
use mathlib.Core.Bool.{Bool, true, false, cond, ◌&&◌, ◌||◌, false≢true}
use mathlib.Core.List.{List, [], ◌∷◌, ◌++◌, map, append-nil, append_assoc}
use native.Mathlib.Omega.{arith}
use lib.Dec.{ltb}
use lib.ListN.{length, take, drop, get_or, length-append, length-map, length-take, length-drop}
use lib.Seq.{take-append-le, drop-append-le, take-add, drop-drop, length-take-le}
use Rattle.laws.proofs.Lists.{map-append}
use Rattle.laws.proofs.Picks.{by, test, either, and_second}
use Rattle.ledger.specs.Tally.{Tally, Event, byte_of, feed, Flown}
use Rattle.ledger.specs.Claim.{acked_at, settled_by}
use Rattle.window.specs.Window.{lead, handed, moved}
use Rattle.window.specs.WindowCode.{has}
use Rattle.window.proofs.Fits.{WindowFits, fits_more, fits-lead, fits-handed, fits_moved, has-moved, length_moved}
use Rattle.arrival.proofs.Growing.{bytes}

pub record Arrived (t : Tally) (first : ℕ) (w on : List ℕ) : Type 0 where
  pub count : length on ≡ first
  pub within : first ≤ length (bytes t)
  pub begun : on ≡ take first (bytes t)
  pub fits : WindowFits w (drop first (bytes t))
  pub acked : (o : ℕ) → acked_at o t.flown ≡ true → has first w o ≡ true

or-either : (a b : Bool) → (a || b) ≡ true → (a ≡ true) ⊎ (b ≡ true)
or-either true b e = inl refl
or-either false b e = inr e

-- a call of the sender: the flown bytes grow at their end, and what it acknowledges has arrived
pub called : (e : Event) (t : Tally) (m : List ℕ) (first : ℕ) (w on : List ℕ) → bytes (feed e t) ≡ bytes t ++ m
    → ((o : ℕ) → acked_at o (feed e t).flown ≡ acked_at o t.flown || (ltb o (length t.flown) && settled_by e t.out o))
    → ((o : ℕ) → settled_by e t.out o ≡ true → has first w o ≡ true) → Arrived t first w on → Arrived (feed e t) first w on
called e t m first w on g x s a =
    record {
      count = a.count;
      within = omega (arith, a.within, ap length g, length-append (bytes t) m);
      begun = a.begun ∙ sym (ap (take first) g ∙ take-append-le first (bytes t) m a.within);
      fits = subst (λ (l : List ℕ). WindowFits w l) (sym (ap (drop first) g ∙ drop-append-le first (bytes t) m a.within)) (fits_more w (drop first (bytes t)) m a.fits);
      acked = λ o k. go o (or-either (acked_at o t.flown) _ (sym (x o) ∙ k));
    }
  where
    go : (o : ℕ) → (acked_at o t.flown ≡ true) ⊎ ((ltb o (length t.flown) && settled_by e t.out o) ≡ true) → has first w o ≡ true
    go o (inl k) = a.acked o k
    go o (inr k) = s o (and_second (ltb o (length t.flown)) (settled_by e t.out o) k)

-- the receiver's call: `v` is what it keeps of the burst's frames before it hands on
pub received : (t : Tally) (first : ℕ) (w v on : List ℕ) → WindowFits v (drop first (bytes t)) → ((o : ℕ) → has first w o ≡ true → has first v o ≡ true)
    → Arrived t first w on → Arrived t (first + lead v) (moved v) (on ++ handed v)
received t first w v on f s a =
    let k = fits-lead v (drop first (bytes t)) f in
    let d = length-drop first (bytes t) in
    record {
      count = omega (arith, length-append on (handed v), ap length (fits-handed v (drop first (bytes t)) f), length-take (lead v) (drop first (bytes t)), k, a.count);
      within = omega (arith, k, d, a.within);
      begun = ap₂ ◌++◌ a.begun (fits-handed v (drop first (bytes t)) f) ∙ sym (take-add first (lead v) (bytes t));
      fits = subst (λ (l : List ℕ). WindowFits (moved v) l) (drop-drop (lead v) first (bytes t)) (fits_moved v (drop first (bytes t)) f);
      acked = λ o e. has-moved first v o (s o (a.acked o e));
    }
