-- `exp::narrow::rounded` meets its contract (`rounds-to` of `proofs/NarrowPlace.antt`). Assumes nothing.
use Rattle.std.proofs.Common.{◌≡◌, ℕ, ◌<◌, false, cond, T, pos, sym, ap, ◌∙◌, subst, lt_trans, lit<}
use lib.Ieee.{Float, fin, inf, binary64, add, sub, lt, minus, fits, of_bits}
use Rattle.ieee.specs.Range.{w64 as W}
use Rattle.ieee.specs.Power.{power}
use Rattle.ieee.proofs.Tests.{yes, nope}
use Rattle.ieee.proofs.Value.{le-no-nan, lt→le}
use Rattle.exp.specs.Narrow.{narrow}
use Rattle.exp.proofs.NarrowPlace.{spot, field-low, field-high, field_in, rounds-to}
use Rattle.exp.proofs.narrow.rounded.Goals as goal

-- by the power of two whose exponent's field is `spot a`
by-power : (a m : Float) (j : ℕ) → T (fits binary64 a) → T (lt (W 0) a) → T (lt a (fin false 1 (pos 128))) → m ≡ power (minus j 1023) → j ≡ spot a
    → narrow a ≡ cond (lt (sub binary64 (add binary64 a m) m) (fin false 1 (pos 128))) (sub binary64 (add binary64 a m) m) (inf false)
by-power a m j F p q e h =
    subst (λ (m : Float). narrow a ≡ cond (lt (sub binary64 (add binary64 a m) m) (fin false 1 (pos 128))) (sub binary64 (add binary64 a m) m) (inf false))
    (sym (e ∙ ap (λ (j : ℕ). power (minus j 1023)) h)) (rounds-to a F p q)

pub returns-then-a : goal.returns-then-a
unfolding of_bits
returns-then-a c =
    let s = c in
    let F = yes s.well_formed.0.1 in
    by-power s.args.a c.power_at-m.result 926 F s.requires.fact_1 s.requires.fact_2 c.power_at-m.ensures (field-low s.args.a F s.requires.fact_1 s.requires.fact_2 (yes c.if-a.true))

pub float_to_bits-a : goal.float_to_bits-a
float_to_bits-a c = (le-no-nan (W 0) c.args.a (lt→le (W 0) c.args.a c.requires.fact_1)).1

-- the field that the pattern gives, and 29 more, is in bounds
field_in_bounds : (a : Float) (j : ℕ) → T (fits binary64 a) → T (lt (W 0) a) → T (lt a (fin false 1 (pos 128))) → j ≡ spot a
    → (0 < j) × (j < 2000)
field_in_bounds a j F p q h = subst (λ (j : ℕ). (0 < j) × (j < 2000)) (sym h) (field_in a F p q)

pub overflow_add-a : goal.overflow_add-a
unfolding of_bits
overflow_add-a c =
    let F = yes c.well_formed.0.1 in
    let e = field-high c.args.a F c.requires.fact_1 c.requires.fact_2 (nope c.if-a.false) in
    let h = field_in_bounds c.args.a _ F c.requires.fact_1 c.requires.fact_2 e in
    record { fits = lt_trans h.1 (lit< tt) }

pub power_at-m-requires-2 : goal.power_at-m-requires-2
unfolding of_bits
power_at-m-requires-2 c =
    let F = yes c.well_formed.0.1 in
    let e = field-high c.args.a F c.requires.fact_1 c.requires.fact_2 (nope c.if-a.false) in
    let h = field_in_bounds c.args.a _ F c.requires.fact_1 c.requires.fact_2 e in
    record { fact_1 = h.0; fact_2 = lt_trans h.1 (lit< tt) }

pub returns : goal.returns
unfolding of_bits
returns c =
    let F = yes c.well_formed.0.1 in
    let e = field-high c.args.a F c.requires.fact_1 c.requires.fact_2 (nope c.if-a.false) in
    by-power c.args.a c.power_at-m-2.result _ F c.requires.fact_1 c.requires.fact_2 c.power_at-m-2.ensures e
