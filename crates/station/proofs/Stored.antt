-- The record is stored only where the call is accepted: a refused call answers with the record that it got. So is a profile that is read.
-- Assumes nothing.
use mathlib.Core.Path.{◌≡◌, refl, sym, ap, ap₂, ◌∙◌}
use mathlib.Core.List.{List}
use mathlib.Core.Bool.{Bool, true, false, cond, not}
use Prim.Native.Nat.{ℕ}
use lib.Dec.{T, eqb}
use lib.ListN.{length}
use Rattle.laws.proofs.Picks.{by}
use Rattle.config.specs.declared.Profile.{Profile}
use Rattle.queuing.specs.declared.Station.{Station}
use Rattle.refusals.specs.Verdict.{Verdict}
use Rattle.refusals.specs.Refusals.{number_of}
use Rattle.verdicts.specs.Verdicts.{passed, burst_verdict}
use Rattle.sender.specs.Calls.{Answer, Bursted, burst_call}
use Rattle.sender.proofs.Refused.{burst-verdict, burst-keeps}
use Rattle.sender.specs.declared.Left.{Left}
use Rattle.sender.specs.declared.Burst.{Burst}
use Rattle.sender.specs.declared.LeftBurst.{LeftBurst}
use Rattle.sender.specs.Numbered.{answer_number, burst_number}
use Rattle.card.specs.Card.{card_profile, read_refusal, read_of}
use Rattle.card.specs.declared.Found.{Found}
use Rattle.card.specs.declared.CardAnswer.{CardAnswer}
use Rattle.station.specs.Exported.{left_burst}
use Rattle.station.specs.ExportedCode.{kept}

-- ---- what is stored, where the number is 0 and where it is not

picked : {A : Type 0} (b : Bool) (x y : A) → T b → x ≡ cond b x y
picked true x y h = refl
picked false x y h = absurd h

passed_over : {A : Type 0} (b : Bool) (x y : A) → T (not b) → y ≡ cond b x y
passed_over true x y h = absurd h
passed_over false x y h = refl

module _ (t : Station) (n : ℕ) (next : Station) where
  pub keeping1 : T (eqb n 0) → next ≡ kept t n next
  keeping1 = picked (eqb n 0) next t

  pub keeping2 : T (not (eqb n 0)) → t ≡ kept t n next
  keeping2 = passed_over (eqb n 0) next t

module _ (p : Profile) (q : Found) where
  pub keeping-profile1 : T (eqb q.refusal 0) → ((q.refusal ≡ q.refusal) × (q.stretched ≡ q.stretched)) × (q.profile ≡ kept p q.refusal q.profile)
  keeping-profile1 h = ((refl, refl), picked (eqb q.refusal 0) q.profile p h)

  pub keeping-profile2 : T (not (eqb q.refusal 0)) → ((q.refusal ≡ q.refusal) × (q.stretched ≡ q.stretched)) × (p ≡ kept p q.refusal q.profile)
  keeping-profile2 h = ((refl, refl), passed_over (eqb q.refusal 0) q.profile p h)

module _ (t : Station) (n : ℕ) (next : Station) where
  -- THE NEXT RECORD stands there, stored or not, if a refused call answers with the record that it got
  kept-is : (v : Verdict) → n ≡ number_of v → (passed v ≡ false → next ≡ t) → kept t n next ≡ next
  kept-is v e same = by (λ (x : Station). x ≡ next) (eqb n 0) (λ b. refl) (λ b. sym (same (ap (λ (x : ℕ). eqb x 0) (sym e) ∙ b)))

-- ---- the calls, as their proofs cite them: each after the call by value, which answers r, and the one that stores it, which leaves l or `after`

pub kept-left : (l r : Left) (b : List ℕ) (q : Answer × List ℕ) → l ≡ r → (r, b) ≡ answer_number q → (l, b) ≡ answer_number q
kept-left l r b q e said = ap (λ (x : Left). (x, b)) e ∙ said

module _ (p : Profile) (t : Station) (a : List ℕ) where
  pub sent : (out : List ℕ) (r : LeftBurst) (b o : List ℕ) → (r, (b, o)) ≡ burst_number (burst_call p t a out)
      → (l : Left) → (l.refusal ≡ r.burst.refusal) × (l.next ≡ r.next)
      → Unit {0} → (after : Station) → after ≡ kept t l.refusal l.next
      → (x : Burst) → x ≡ r.burst → (left_burst x after, (b, o)) ≡ burst_number (burst_call p t a out)
  sent out r b o said l e u after k x is =
      let v = burst_verdict p t a (length out) in
      let n : r.burst.refusal ≡ number_of v =
      ap (λ (y : LeftBurst × (List ℕ × List ℕ)). y.0.burst.refusal) said ∙ ap number_of (burst-verdict p t a out) in
      let d : r.next ≡ (burst_call p t a out).0.next = ap (λ (y : LeftBurst × (List ℕ × List ℕ)). y.0.next) said in
      let same : passed v ≡ false → r.next ≡ t =
      λ f. d ∙ ap (λ (y : Bursted × (List ℕ × List ℕ)). y.0.next) (burst-keeps p t a out f) in
      let stored : after ≡ r.next =
      k ∙ ap₂ (kept t) e.0 e.1 ∙ kept-is t r.burst.refusal r.next v n same in
      ap₂ (λ (y : Burst) (z : Station). (left_burst y z, (b, o))) is stored ∙ said

-- ---- a profile that is read: after card's call, which answers r, and `keep_profile`, which answers x and leaves `after`

pub read-in : (file : List ℕ) (p : Profile) (r : Found) → (r.refusal, r.profile, r.stretched) ≡ read_of file p
    → (x : CardAnswer) (after : Profile) → ((x.refusal ≡ r.refusal) × (x.stretched ≡ r.stretched)) × (after ≡ kept p r.refusal r.profile)
    → (x.refusal, after, x.stretched) ≡ read_of file p
unfolding read_of
read-in file p r said x after k =
    let n : r.refusal ≡ read_refusal file = ap (λ (x : ℕ × Profile × Bool). x.0) said in
    let d : r.profile ≡ cond (eqb (read_refusal file) 0) (card_profile file) p = ap (λ (x : ℕ × Profile × Bool). x.1) said in
    let same : eqb r.refusal 0 ≡ false → r.profile ≡ p =
    λ e. d ∙ ap (λ (c : Bool). cond c (card_profile file) p) (ap (λ (m : ℕ). eqb m 0) (sym n) ∙ e) in
    let stored : after ≡ r.profile = k.1 ∙ by (λ (x : Profile). x ≡ r.profile) (eqb r.refusal 0) (λ e. refl) (λ e. sym (same e)) in
    (λ i. (k.0.0 i, stored i, k.0.1 i)) ∙ said
