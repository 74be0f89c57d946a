-- Turns of the count over a burst's frames.
-- Assumes nothing.
use mathlib.Core.Path.{◌≡◌, refl, sym, ap, ap₂, ◌∙◌}
use mathlib.Core.List.{List, ◌∷◌}
use mathlib.Core.Bool.{Bool, true, false, cond, ◌&&◌}
use Prim.Native.Nat.{ℕ, ◌+◌, ◌/◌, ◌%◌, ◌≤◌, ◌<◌}
use native.Mathlib.Omega.{arith}
use native.Mathlib.Numerals.{add-one}
use lib.Dec.{eqb}
use lib.ListN.{length, take, drop, get_or, drop_of_length-le}
use lib.Seq.{drop-cons}
use mir.Val.{bool_byte}
use borrow.Author.Tests.{eq-eqb, ne_eqb}
use Rattle.laws.specs.Lists.{one}
use Rattle.gear.specs.declared.Outcome.{Outcome}
use Rattle.record.specs.declared.LastBurst.{LastBurst}
use Rattle.settle.specs.declared.outcome.Came.{Came}
use Rattle.settle.specs.OutcomesCode.{one_more_came, tallied_from, tallied, outcome_in}

step : (l : List ℕ) (i : ℕ) → i < length l → drop i l ≡ get_or l i 0 ∷ drop (i + 1) l
step l i h = drop-cons l i 0 h ∙ ap (λ (k : ℕ). get_or l i 0 ∷ drop k l) (sym (add-one i))

pub tally-turn : (t : Came) (m : ℕ) (bs hs : List ℕ) (i : ℕ) → i < length bs → i < length hs
    → tallied_from t m (drop i bs) (drop i hs) ≡ tallied_from (one_more_came t (eqb (get_or bs i 0) (get_or hs i 0)) (eqb (m % 2) 1)) (m / 2) (drop (i + 1) bs) (drop (i + 1) hs)
unfolding tallied_from
tally-turn t m bs hs i h k = ap₂ (tallied_from t m) (step bs i h) (step hs i k)

pub tally-end : (t : Came) (m : ℕ) (bs hs : List ℕ) (i : ℕ) → length bs ≤ i → tallied_from t m (drop i bs) (drop i hs) ≡ t
unfolding tallied_from
tally-end t m bs hs i h = ap (λ (l : List ℕ). tallied_from t m l (drop i hs)) (drop_of_length-le bs h)

pub byte-one : (b : Bool) → bool_byte b ≡ one b
byte-one true = refl
byte-one false = refl

pub one-few : (b : Bool) → one b ≤ 1
one-few true = omega arith
one-few false = omega arith

pub counted_is : (t : Came) (fresh got : Bool) (x y z : ℕ) → x ≡ t.fresh + one fresh → y ≡ t.fresh_got + one (fresh && got) → z ≡ t.got + one got
    → one_more_came t fresh got ≡ record { fresh = x; fresh_got = y; got = z }
counted_is t fresh got x y z e f g =
    sym (ap₂ (λ (u v : ℕ). record { fresh = u; fresh_got = v; got = z }) e f ∙ ap (λ (w : ℕ). record { fresh = t.fresh + one fresh; fresh_got = t.fresh_got + one (fresh && got); got = w }) g)

module _ (m : ℕ) (matched : Bool) (s : LastBurst) (t : Came) (e : t ≡ tallied m (take s.n s.bits) (take s.n s.held)) where
  abbrev none : Came → Outcome
  none u = record { empty = eqb s.n 0; fresh = false; matched = matched; sent = s.n; got = u.got }

  abbrev some : Came → Outcome
  some u = record { empty = false; fresh = true; matched = matched; sent = u.fresh; got = u.fresh_got }

  abbrev pick : Came → Outcome
  pick u = cond (eqb u.fresh 0) (none u) (some u)

  pub outcome-none : t.fresh ≡ 0 → none t ≡ outcome_in m matched s
  unfolding outcome_in
  outcome-none z = sym (ap (λ (b : Bool). cond b (none t) (some t)) (eq-eqb t.fresh 0 z)) ∙ ap pick e

  pub outcome-some : (t.fresh ≡ 0 → ⊥) → some t ≡ outcome_in m matched s
  unfolding outcome_in
  outcome-some z = sym (ap (λ (b : Bool). cond b (none t) (some t)) (ne_eqb t.fresh 0 z)) ∙ ap pick e
