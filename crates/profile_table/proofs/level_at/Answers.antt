-- `level_at`: `none` or a value. Assumes nothing.
use Prim.Native.Nat.{ℕ}
use mathlib.Core.Path.{refl, sym, ap, ◌∙◌}
use mathlib.Core.Bool.{true}
use borrow.Author.Tests.{eq-eqb, ne_eqb}
use Rattle.profile_table.specs.Table.{maybe_level_at}
use Rattle.laws.proofs.Picks.{cond_yes, cond_no}
use Rattle.profile_table.proofs.level_at.Goals as goal

pub returns-then-n : goal.returns-then-n
unfolding maybe_level_at
returns-then-n c = cond_yes _ _ _ _ (eq-eqb _ _ (sym c.at-n.ensures ∙ c.if-n.true)) refl

pub returns : goal.returns
unfolding maybe_level_at
returns c = cond_no _ _ _ _ (ne_eqb _ _ (λ e. c.if-n.false (c.at-n.ensures ∙ e)))
    (ap (λ (n : ℕ). record { set = true; level = n }) c.at-n.ensures)
