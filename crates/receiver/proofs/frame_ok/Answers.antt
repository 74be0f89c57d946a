-- `frame_ok` meets its contract: both.
use Rattle.receiver.proofs.Reading.{head-size}
use Rattle.laws.proofs.Picks.{is-and, is-not-and}
use mathlib.Core.Path.{refl, sym, ◌∙◌}
use native.Mathlib.Omega.{arith}
use Rattle.receiver.proofs.frame_ok.Goals as goal

pub sum_ok-requires : goal.sum_ok-requires
sum_ok-requires c =
    (c.requires, omega (arith, head-size c.args.f.now (sym c.head_ok.ensures ∙ c.if-head_ok.true)))

pub returns-then-head_ok : goal.returns-then-head_ok
returns-then-head_ok c = is-and _ _ _ (sym c.head_ok.ensures ∙ c.if-head_ok.true) c.sum_ok.ensures

pub returns-else-head_ok : goal.returns-else-head_ok
returns-else-head_ok c = is-not-and _ _ _ (sym c.head_ok.ensures ∙ c.if-head_ok.false) refl
