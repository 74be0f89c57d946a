use Rattle.laws.proofs.Picks.{cond_yes, cond_no}
use borrow.Author.Tests.{eq-eqb, ne_eqb}
use Rattle.harq.specs.Held.{check_bits, burst_check_bits}
use mathlib.Core.Path.{refl, ap, ◌∙◌}
use Rattle.harq.proofs.burst_check_bits.Goals as goal

pub returns-then-field-eq0 : goal.returns-then-field-eq0
unfolding burst_check_bits
returns-then-field-eq0 c = c.check_bits.ensures ∙ ap check_bits (cond_yes _ _ _ _ (eq-eqb _ _ c.if-field-eq0.true) refl)

pub returns : goal.returns
unfolding burst_check_bits
returns c = c.check_bits-2.ensures ∙ ap check_bits (cond_no _ _ _ _ (ne_eqb _ _ c.if-field-eq0.false) refl)
