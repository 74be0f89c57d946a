-- `class_of` meets its contract.
use mathlib.Core.Path.{refl}
use Rattle.laws.proofs.Picks.{cond_yes, cond_no}
use Rattle.call_lines.proofs.class_of.Goals as goal

pub returns-then-named : goal.returns-then-named
returns-then-named c = cond_yes _ _ _ _ c.if-named.true c.u8_of.ensures

pub returns : goal.returns
returns c = cond_no _ _ _ _ c.if-named.false refl
