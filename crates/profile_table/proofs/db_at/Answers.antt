-- `db_at`: `none` or a value. Assumes nothing.
use mathlib.Core.Path.{refl, sym, ap, ◌∙◌}
use mathlib.Core.Bool.{true}
use borrow.Author.Tests.{eq-eqb, ne_eqb}
use Rattle.profile_table.specs.Table.{maybe_db_at}
use lib.Ieee.{Float}
use Rattle.laws.proofs.Picks.{cond_yes, cond_no}
use Rattle.profile_table.proofs.db_at.Goals as goal

pub returns-then-at : goal.returns-then-at
unfolding maybe_db_at
returns-then-at c = cond_yes _ _ _ _ (eq-eqb _ _ (sym c.at.ensures ∙ c.if-at.true)) refl

pub returns : goal.returns
unfolding maybe_db_at
returns c = cond_no _ _ _ _ (ne_eqb _ _ (λ e. c.if-at.false (c.at.ensures ∙ e)))
    (ap (λ (x : Float). record { set = true; db = x }) c.f32_at.ensures)
