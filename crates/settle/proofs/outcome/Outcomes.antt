-- What the code counts of a burst is what the ledger's frames say.
-- Assumes nothing.
use mathlib.Core.Path.{◌≡◌, refl, sym, ap, ap₂, ◌∙◌}
use mathlib.Core.List.{List, [], ◌∷◌}
use mathlib.Core.Bool.{Bool, true, false, cond}
use Prim.Native.Nat.{ℕ, suc, ◌+◌, ◌/◌, ◌≤◌, ◌<◌}
use native.Mathlib.Omega.{arith}
use lib.Dec.{eqb, ltb}
use lib.ListN.{length, take}
use lib.Seq.{length-take-le}
use borrow.Author.Tests.{eqb-true, eqb-false, lt-ltb, le-ltb, ne_eqb}
use Rattle.laws.proofs.Picks.{test}
use Rattle.ledger.specs.Reply.{Reply}
use Rattle.ledger.specs.Ledger.{Sent}
use Rattle.gear.specs.declared.Outcome.{Outcome}
use Rattle.pieces.specs.Lists.{sent_of}
use Rattle.pieces.proofs.Lists.{sent-length}
use Rattle.record.specs.View.{sent_in, view}
use Rattle.record.specs.declared.LastBurst.{LastBurst}
use Rattle.record.specs.declared.Sender.{Sender}
use Rattle.record.proofs.View.{Arrays}
use Rattle.settle.proofs.Settles.{Bits, bits-first, bits-rest}
use Rattle.settle.specs.declared.outcome.Came.{Came}
use Rattle.settle.proofs.outcome.Counts.{one-few}
use Rattle.settle.specs.Outcomes.{is_fresh, fresh_sent, fresh_came, all_got, outcome_of}
use Rattle.limits.specs.Limits.{max_slots}
use Rattle.settle.specs.OutcomesCode.{one_more_came, tallied_from, tallied, outcome_in}

came : Came → (ℕ → Bool) → ℕ → List Sent → Came
came t b i fs = record { fresh = t.fresh + fresh_sent fs; fresh_got = t.fresh_got + fresh_came b i fs; got = t.got + all_got b i fs }

same-came : (x y z x' y' z' : ℕ) → x ≡ x' → y ≡ y' → z ≡ z' → ◌≡◌ {A = Came} (record { fresh = x; fresh_got = y; got = z }) (record { fresh = x'; fresh_got = y'; got = z' })
same-came x y z x' y' z' e f g = ap₂ (λ (u v : ℕ). record { fresh = u; fresh_got = v; got = z }) e f ∙ ap (λ (w : ℕ). record { fresh = x'; fresh_got = y'; got = w }) g

tallied-is : (t : Came) (b : ℕ → Bool) (i m : ℕ) (os bs hs : List ℕ) → length os ≡ length bs → length os ≡ length hs → Bits b i m (length os)
    → tallied_from t m bs hs ≡ came t b i (sent_of os bs hs)
unfolding tallied_from came
tallied-is t b i m [] [] hs e d h = same-came _ _ _ _ _ _ (omega arith) (omega arith) (omega arith)
tallied-is t b i m [] (x ∷ bs) hs e d h = absurd (omega (arith, e))
tallied-is t b i m (o ∷ os) [] hs e d h = absurd (omega (arith, e))
tallied-is t b i m (o ∷ os) (x ∷ bs) [] e d h = absurd (omega (arith, d))
tallied-is t b i m (o ∷ os) (x ∷ bs) (y ∷ hs) e d h =
    let u = one_more_came t (eqb x y) (b i) in
    let fs = sent_of os bs hs in
    ap (λ (g : Bool). tallied_from (one_more_came t (eqb x y) g) (m / 2) bs hs) (sym (bits-first b i m (length os) h))
    ∙ tallied-is u b (suc i) (m / 2) os bs hs (omega (arith, e)) (omega (arith, d)) (bits-rest b i m (length os) h)
    ∙ same-came _ _ _ _ _ _ (omega arith) (omega arith) (omega arith)

fresh-few : (fs : List Sent) → fresh_sent fs ≤ length fs
fresh-few [] = omega arith
fresh-few (f ∷ fs) = omega (arith, one-few (is_fresh f), fresh-few fs)

-- of n frames x are fresh
pick_is : (n x y z : ℕ) (mt : Bool) → x ≤ n
    → ◌≡◌ {A = Outcome}
    (cond (eqb x 0) (record { empty = eqb n 0; fresh = false; matched = mt; sent = n; got = z }) (record { empty = false; fresh = true; matched = mt; sent = x; got = y }))
    (record { empty = eqb n 0; fresh = ltb 0 x; matched = mt; sent = cond (ltb 0 x) x n; got = cond (ltb 0 x) y z })
pick_is n x y z mt h =
    test (eqb x 0)
    (λ e. let q = eqb-true x 0 e in rw (e, le-ltb 0 x (omega (arith, q))) refl)
    (λ e. let q = eqb-false x 0 e in let p : 0 < x = omega (arith, q) in rw (e, lt-ltb 0 x p, ne_eqb n 0 (λ w. omega (arith, w))) refl)

module _ (m : ℕ) (r : Reply) (s : Sender) (a : List ℕ) (ar : Arrays s) (few : s.last_burst.n ≤ max_slots)
    (bits : Bits (r.bit (length (sent_in s.last_burst))) 0 m s.last_burst.n) where
  abbrev last : LastBurst
  last = s.last_burst

  abbrev fs : List Sent
  fs = sent_in last

  abbrev b : ℕ → Bool
  b = r.bit (length fs)

  abbrev matched : Bool
  matched = eqb r.number s.link.burst_id

  n₁ : length (take last.n last.off) ≡ last.n
  n₁ = length-take-le last.n last.off (omega (arith, ar.sent_off))

  n₂ : length (take last.n last.bits) ≡ last.n
  n₂ = length-take-le last.n last.bits (omega (arith, ar.sent_bits))

  n₃ : length (take last.n last.held) ≡ last.n
  n₃ = length-take-le last.n last.held (omega (arith, ar.sent_held))

  pub length-sent : length fs ≡ last.n
  length-sent = sent-length (take last.n last.off) (take last.n last.bits) (take last.n last.held) (n₁ ∙ sym n₂) (n₁ ∙ sym n₃) ∙ n₁

  counts : tallied m (take last.n last.bits) (take last.n last.held) ≡ record { fresh = fresh_sent fs; fresh_got = fresh_came b 0 fs; got = all_got b 0 fs }
  unfolding came
  counts =
      tallied-is (record { fresh = 0; fresh_got = 0; got = 0 }) b 0 m (take last.n last.off) (take last.n last.bits) (take last.n last.held) (n₁ ∙ sym n₂) (n₁ ∙ sym n₃) (λ j h. bits j (omega (arith, n₁)))
      ∙ same-came _ _ _ _ _ _ (omega arith) (omega arith) (omega arith)

  abbrev picked : Came → Outcome
  picked t =
      cond (eqb t.fresh 0)
      (record { empty = eqb last.n 0; fresh = false; matched = matched; sent = last.n; got = t.got })
      (record { empty = false; fresh = true; matched = matched; sent = t.fresh; got = t.fresh_got })

  pub outcome-is : outcome_in m matched last ≡ outcome_of r (view s a)
  unfolding outcome_in outcome_of view
  outcome-is =
      ap picked counts ∙ ap (λ (n : ℕ). cond (eqb (fresh_sent fs) 0) (record { empty = eqb n 0; fresh = false; matched = matched; sent = n; got = all_got b 0 fs }) (record { empty = false; fresh = true; matched = matched; sent = fresh_sent fs; got = fresh_came b 0 fs })) (sym length-sent)
      ∙ pick_is (length fs) (fresh_sent fs) (fresh_came b 0 fs) (all_got b 0 fs) matched (fresh-few fs)
