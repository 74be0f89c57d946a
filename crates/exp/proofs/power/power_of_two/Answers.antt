-- `exp::power::power_of_two` meets its contract. A signed argument is handed on as the machine reads it back from its bits,
-- `to_z w64 (of_z w64 k)`. Assumes nothing.
use Rattle.std.proofs.Common.{ℕ, ◌<◌, sym, ap, ◌∙◌, subst, w64}
use lib.Ieee.{minus}
use mir.ValLaws.{to_z-of_z}
use Rattle.ieee.specs.Power.{power, biased}
use Rattle.ieee.proofs.Power.{biased-in, biased-back}
use Rattle.exp.proofs.power.power_of_two.Goals as goal

pub power_at-requires : goal.power_at-requires
power_at-requires c =
    let e = c.field_of.ensures ∙ ap biased (to_z-of_z w64 c.args.k c.ranges.k) in
    let h = subst (λ (j : ℕ). (0 < j) × (j < 2047)) (sym e) (biased-in c.args.k c.requires.fact_1 c.requires.fact_2) in
    record { fact_1 = h.0; fact_2 = h.1 }

pub returns : goal.returns
returns c =
    c.power_at.ensures
    ∙ ap (λ (j : ℕ). power (minus j 1023)) (c.field_of.ensures ∙ ap biased (to_z-of_z w64 c.args.k c.ranges.k))
    ∙ ap power (biased-back c.args.k c.requires.fact_1)
