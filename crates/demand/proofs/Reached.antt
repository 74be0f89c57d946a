-- After every list of calls: what the ledger claims, a sound record, and what a burst sends. Where the profile is refused or the work area is short, every call is.
-- Assumes nothing.
use mathlib.Core.Path.{◌≡◌, refl, sym, ap, ◌∙◌, subst}
use mathlib.Core.List.{List}
use mathlib.Core.Bool.{Bool, true, false, cond, ◌&&◌, false≢true}
use Prim.Native.Nat.{ℕ, zero, suc, ◌≤◌}
use native.Mathlib.Omega.{arith}
use lib.Dec.{leb, eqb}
use lib.ListN.{length, replicate, length-replicate}
use borrow.Author.Tests.{leb-true, leb-false, le-leb}
use Rattle.laws.proofs.Picks.{test, and_yes, and_first, and_second}
use Rattle.laws.proofs.Tests.{all-at}
use Rattle.config.specs.declared.Profile.{Profile}
use Rattle.config.specs.Ranged.{Ranged}
use Rattle.config.specs.Ranges.{in_range, in_order}
use Rattle.config.proofs.ranges.Ranged.{ranged}
use Rattle.ledger.specs.Calls.{Along}
use Rattle.ledger.specs.ClaimCode.{LedgerClaim}
use Rattle.ledger.specs.Tally.{silent}
use Rattle.ledger.proofs.Refine.{Refines, refined, sound-after, ok-after}
use Rattle.area.specs.Layout.{area_bytes}
use Rattle.queuing.specs.Station.{fresh_station, view_station}
use Rattle.queuing.proofs.Shown.{fresh-shows}
use Rattle.messages.proofs.Kept.{sound-ok, sound_none, sized-none}
use Rattle.record.specs.Profiles.{sizes_of}
use Rattle.record.specs.View.{view}
use Rattle.soundness.specs.Soundness.{sound_ok}
use Rattle.soundness.proofs.fields.Sound.{sound-test, profile-sizes}
use Rattle.laws.specs.Bytes.{Bytes}
use Rattle.invariant.proofs.Well.{fresh-well}
use Rattle.refusals.specs.Verdict.{Verdict}
use Rattle.refusals.specs.Refusals.{kind_of}
use Rattle.verdicts.specs.Verdicts.{passed, taken_by, standing, first_of, queue_verdict, receive_verdict, frames_verdict, burst_verdict}
use Rattle.verdicts.proofs.Passed.{standing-three, frames-passed}
use Rattle.demand.specs.Lists.{Call, queues, hears, receives, bursts, State, Given, fresh_start, shown, next, call_told}
use Rattle.demand.specs.Page.{messages, c, s, t}
use Rattle.demand.specs.PageCode.{sizes_for, AfterCalls}
use Rattle.demand.proofs.Answers.{queue-no, queue-told, hear-no, hear-told, frames-no, frames-told, burst-no, burst-silent, verdict-of-burst}
use Rattle.demand.proofs.Steps.{sizes, Ok, waiting-length}
use Rattle.demand.proofs.AllCalls.{call, does}
use Rattle.demand.proofs.Connected.{Quiet, quiet_next}
use Rattle.demand.proofs.Sends.{sends}
use Rattle.limits.specs.Limits.{min_payload, max_taken}
use Rattle.ledger.specs.Sizes.{Sizes}
use Rattle.ledger.specs.CallsCode.{idle}
use Rattle.ledger.specs.SizesCode.{SizeRange}

zeros-bytes : (n : ℕ) → Bytes (replicate n 0)
zeros-bytes zero i = omega arith
zeros-bytes (suc n) zero = omega arith
zeros-bytes (suc n) (suc i) = zeros-bytes n i

-- ---- the calls get through

module _ (p : Profile) (rg : Ranged p) (io : in_order p ≡ true) (six : length p.codes.ends ≤ 6) where
  -- a record that is well, and awaits nothing before it is connected
  abbrev pub Fit : State → Type 0
  Fit c = Ok p rg io six c × Quiet c

  refines : Refines (sizes_of p) (sizes p rg io six) State Call Given Fit (next p) shown (call p rg io six) (call_told p)
  refines =
      record {
        allowed = λ i c g so ok. (does p rg io six i c g ok.0 ok.1).allowed;
        steps = λ i c g so ok. (does p rg io six i c g ok.0 ok.1).steps;
        tells = λ i c g so ok. (does p rg io six i c g ok.0 ok.1).tells;
        keeps = λ i c g so ok. ((does p rg io six i c g ok.0 ok.1).keeps, quiet_next p i c ok.1);
      }

  pub fresh-fit : (n : ℕ) → area_bytes ≤ n → Fit (fresh_start n)
  fresh-fit n large = (
    record { well = fresh-well p (replicate n 0) (zeros-bytes n) (omega (arith, length-replicate {A = ℕ} n 0)); listed = sound_none; sized = sized-none },
    (λ e. refl),
  )

  module _ (n : ℕ) (large : area_bytes ≤ n) (is : List Call) (gs : Along (next p) Given is (fresh_start n)) where
    through : (i : Call) → Given i (c p n is)
        → LedgerClaim (sizes_of p) (messages p n is) (s p n is) (t p n is) (call_told p i (c p n is)) (shown (next p i (c p n is))).sender
    through i g =
        refined (sizes_of p) (sizes p rg io six) State Call Given Fit (next p) shown (call p rg io six) (call_told p) refines (fresh_start n) (fresh-shows (replicate n 0)) (fresh-fit n large) is gs i g

    pub well : Ok p rg io six (c p n is)
    well = (ok-after (sizes_of p) (sizes p rg io six) State Call Given Fit (next p) shown (call p rg io six) (call_told p) refines (fresh_start n) (fresh-shows (replicate n 0)) (fresh-fit n large) is gs).0

    -- the bytes taken, those withdrawn among them, are within their limit
    few-taken : taken_by (c p n is).0.sender.counts (c p n is).0.messages ≤ max_taken
    unfolding view_station view
    few-taken =
        let so =
        sound-after (sizes_of p) (sizes p rg io six) State Call Given Fit (next p) shown (call p rg io six) (call_told p) refines (fresh_start n)
        (fresh-shows (replicate n 0)) (fresh-fit n large) is gs in
        omega (arith, so.taken, waiting-length p rg io six (c p n is).0.sender (c p n is).1 well.well)

-- ---- every call is refused

first-no : (v w : Verdict) → passed v ≡ false → passed (first_of v w) ≡ false
first-no v w e = ap (λ (t : Bool). passed (cond t w v)) e ∙ e

module _ (p : Profile) (n : ℕ) (refused : (connect : Bool) → passed (standing p fresh_station (replicate n 0) connect) ≡ false) where
  pub stays : (i : Call) → (next p i (fresh_start n) ≡ fresh_start n) × (call_told p i (fresh_start n) ≡ silent)
  unfolding queue_verdict receive_verdict burst_verdict
  stays (queues k l bs) =
      let e = first-no (standing p fresh_station (replicate n 0) false) _ (refused false) in
      (queue-no p (fresh_start n) k l bs e, queue-told p (fresh_start n) k l bs false e)
  stays (hears h r b) =
      let e = first-no (standing p fresh_station (replicate n 0) (eqb (kind_of r) 0)) _ (refused (eqb (kind_of r) 0)) in
      (hear-no p (fresh_start n) h r b e, hear-told p (fresh_start n) h r b false e)
  stays (receives h r b) =
      let v = frames_verdict p fresh_station (replicate n 0) h r.n in
      let e : passed v ≡ false =
      test (passed v) (λ t. absurd (false≢true (sym (refused false) ∙ (frames-passed p fresh_station (replicate n 0) h r.n t).standing))) (λ t. t) in
      (frames-no p (fresh_start n) h r b e, frames-told p (fresh_start n) h r b false e)
  stays (bursts out) =
      let e = first-no (standing p fresh_station (replicate n 0) false) _ (refused false) in
      (burst-no p (fresh_start n) out e, burst-silent p (fresh_start n) out e)

  module _ (z : Sizes) (zr : SizeRange z) where
    idles : Refines z zr State Call Given (λ (c : State). c ≡ fresh_start n) (next p) shown (λ (i : Call) (c : State). idle) (call_told p)
    idles =
        record {
          allowed = λ i c g so e. tt;
          steps = λ i c g so e. subst (λ (x : State). shown (next p i x) ≡ shown x) (sym e) (ap shown (stays i).0);
          tells = λ i c g so e. subst (λ (x : State). call_told p i x ≡ silent) (sym e) (stays i).1;
          keeps = λ i c g so e. ap (next p i) e ∙ (stays i).0;
        }

    module _ (is : List Call) (gs : Along (next p) Given is (fresh_start n)) where
      refused_all : (i : Call) → Given i (c p n is)
          → LedgerClaim z (messages p n is) (s p n is) (t p n is) (call_told p i (c p n is)) (shown (next p i (c p n is))).sender
      refused_all i g =
          refined z zr State Call Given (λ (c : State). c ≡ fresh_start n) (next p) shown (λ (j : Call) (c : State). idle) (call_told p) idles (fresh_start n) (fresh-shows (replicate n 0)) refl is gs i g

      at-start : c p n is ≡ fresh_start n
      at-start = ok-after z zr State Call Given (λ (c : State). c ≡ fresh_start n) (next p) shown (λ (j : Call) (c : State). idle) (call_told p) idles (fresh_start n) (fresh-shows (replicate n 0)) refl is gs

-- a call that stands finds a profile that is not refused, and a work area that is large enough
stands-finds : (p : Profile) (n : ℕ) (connect : Bool) → passed (standing p fresh_station (replicate n 0) connect) ≡ true → ((in_range p && in_order p) ≡ true) × (area_bytes ≤ n)
unfolding sound_ok
stands-finds p n connect e =
    let h = standing-three p fresh_station (replicate n 0) connect e in
    (and_yes (in_range p) (in_order p) h.0 h.1, omega (arith, leb-true area_bytes (length (replicate n 0)) (all-at _ 0 h.2), length-replicate {A = ℕ} n 0))

pub refused-by : (p : Profile) (n : ℕ) → ((in_range p && in_order p) ≡ true → area_bytes ≤ n → ⊥) → (connect : Bool) → passed (standing p fresh_station (replicate n 0) connect) ≡ false
refused-by p n f connect =
    test (passed (standing p fresh_station (replicate n 0) connect))
    (λ e. let h = stands-finds p n connect e in absurd (f h.0 h.1))
    (λ e. e)

-- ---- both

least-sizes : SizeRange (record { short = min_payload; long = min_payload; top = 0 })
least-sizes = record { least = omega arith; order = omega arith; most = omega arith; bits = omega arith }

module _ (p : Profile) (six : length p.codes.ends ≤ 6) (n : ℕ) (is : List Call) (gs : Along (next p) Given is (fresh_start n)) where
  abbrev Claimed : Sizes → Call → Type 0
  Claimed z i = LedgerClaim z (messages p n is) (s p n is) (t p n is) (call_told p i (c p n is)) (shown (next p i (c p n is))).sender

  sizes-for : (b : Bool) → (in_range p && in_order p) ≡ b → sizes_for p ≡ cond b (sizes_of p) (record { short = min_payload; long = min_payload; top = 0 })
  sizes-for b e = ap (λ (x : Bool). cond x (sizes_of p) (record { short = min_payload; long = min_payload; top = 0 })) e

  -- where the profile is refused or the work area is too short
  turned_down : (z : Sizes) → SizeRange z → sizes_for p ≡ z → ((in_range p && in_order p) ≡ true → area_bytes ≤ n → ⊥) → (i : Call) → Given i (c p n is) → AfterCalls p n is i
  unfolding burst_verdict
  turned_down z zr e f i g =
      let refused = refused-by p n f in
      let none : (out : List ℕ) → passed (burst_verdict p (c p n is).0 (c p n is).1 (length out)) ≡ true → ⊥ =
      λ out ok. false≢true (sym (first-no (standing p fresh_station (replicate n 0) false) _ (refused false))
      ∙ subst (λ (x : State). passed (burst_verdict p x.0 x.1 (length out)) ≡ true) (at-start p n refused z zr is gs) ok) in
      record {
        ledger = subst (λ (x : Sizes). Claimed x i) (sym e) (refused_all p n refused z zr is gs i g);
        sound = λ v l. absurd (f v l);
        sends = λ out ok. absurd (none out (ap passed (sym (verdict-of-burst p (c p n is) out)) ∙ ok));
      }

  taken-up : (v : (in_range p && in_order p) ≡ true) → area_bytes ≤ n → (i : Call) → Given i (c p n is) → AfterCalls p n is i
  taken-up v l i g =
      let rg = ranged p (and_first (in_range p) (in_order p) v) in
      let io = and_second (in_range p) (in_order p) v in
      let w = well p rg io six n l is gs in
      record {
        ledger = subst (λ (x : Sizes). Claimed x i) (sym (sizes-for true v)) (through p rg io six n l is gs i g);
        sound = λ x y.
            let so = sound-test p (c p n is).0.sender (c p n is).1 w.well.sound w.well.arrays in
            and_yes _ _ (sound-ok _ _ w.listed) (and_yes _ _ so (le-leb _ _ (few-taken p rg io six n l is gs)));
        sends = λ out ok. sends p rg io six n is w out (through p rg io six n l is gs (bursts out) tt) ok;
      }

  pub reached : (i : Call) → Given i (c p n is) → AfterCalls p n is i
  reached i g =
      test (in_range p && in_order p)
      (λ v. test (leb area_bytes n)
      (λ l. taken-up v (leb-true area_bytes n l) i g)
      (λ l. turned_down (sizes_of p) (profile-sizes p (ranged p (and_first (in_range p) (in_order p) v)) (and_second (in_range p) (in_order p) v)) (sizes-for true v)
      (λ x y. omega (arith, leb-false area_bytes n l, y)) i g))
      (λ v. turned_down (record { short = min_payload; long = min_payload; top = 0 }) least-sizes (sizes-for false v) (λ x y. false≢true (sym v ∙ x)) i g)
