-- What an accepted call was handed, and the two ways of a call.
-- Assumes nothing.
use Prim.Native.Nat.{ℕ, suc, ◌≤◌}
use mathlib.Core.Path.{◌≡◌, refl, sym, ◌∙◌}
use mathlib.Core.Bool.{Bool, true, false, cond, ◌||◌, false≢true}
use mathlib.Core.List.{List}
use native.Mathlib.Omega.{arith}
use borrow.Author.Tests.{eq-eqb, ne_eqb, ltb-false}
use lib.ListN.{length}
use Rattle.calendar.specs.Calendar.{last_second}
use Rattle.adif.specs.Adif.{sign_ok, refusal_of, number_of, record_of, log_of}
use Rattle.adif.specs.AdifCode.{Put, answer_of}
use Rattle.adif.specs.declared.Refusal.{Refusal}
use Rattle.adif.specs.declared.Refusal.TheVariants.{CallSign, Times, ShortOutput}
use Rattle.std.specs.Prelude.{Ok, Err}
use Rattle.adif.proofs.Steps.{sign-length}

no : (b : Bool) (x y : ℕ) → cond b (suc x) y ≡ 0 → (b ≡ false) × (y ≡ 0)
no true x y e = absurd (omega arith)
no false x y e = (refl, e)

yes : (b : Bool) (x y : ℕ) → cond b x (suc y) ≡ 0 → (b ≡ true) × (x ≡ 0)
yes true x y e = (refl, e)
yes false x y e = absurd (omega arith)

neither : (a b : Bool) → (a || b) ≡ false → (a ≡ false) × (b ≡ false)
neither true b e = absurd (false≢true (sym e))
neither false b e = (refl, e)

pub record Accepted (call : List ℕ) (on off room : ℕ) : Type 0 where
  pub sign : sign_ok call ≡ true
  pub short : length call ≤ 12
  pub start : on ≤ last_second
  pub end : off ≤ last_second
  pub order : on ≤ off
  pub fits : 256 ≤ room

pub accepted : (call : List ℕ) (on off room : ℕ) → refusal_of call on off room ≡ 0 → Accepted call on off room
unfolding refusal_of
accepted call on off room z =
    let s = yes _ _ 19 z in
    let t = no _ 20 _ s.1 in
    let o = neither _ _ t.0 in
    let q = neither _ _ o.1 in
    let r = no _ 21 _ t.1 in
    record {
      sign = s.0;
      short = sign-length call s.0;
      start = ltb-false _ _ o.0;
      end = ltb-false _ _ q.0;
      order = ltb-false _ _ q.1;
      fits = ltb-false _ _ r.0;
    }

number-some : (r : Refusal) → number_of r ≡ 0 → ⊥
number-some CallSign e = omega arith
number-some Times e = omega arith
number-some ShortOutput e = omega arith

module _ (call : List ℕ) (on off acked : ℕ) (out : List ℕ) where
  pub log-refused : (r : Refusal) → number_of r ≡ refusal_of call on off (length out) → (answer_of (Err r), out) ≡ log_of call on off acked out
  unfolding log_of
  log-refused r is = rw (is, ne_eqb (refusal_of call on off (length out)) 0 (λ z. number-some r (is ∙ z)))

  pub log-made : 0 ≡ refusal_of call on off (length out) → (n : ℕ) (o : List ℕ) → Put out 0 (record_of call on off acked) o n
      → (answer_of (Ok n), o) ≡ log_of call on off acked out
  unfolding log_of
  log-made h n o p =
      let e : n ≡ length (record_of call on off acked) = omega (arith, p.1) in
      rw (eq-eqb (refusal_of call on off (length out)) 0 (sym h), p.0, e)
