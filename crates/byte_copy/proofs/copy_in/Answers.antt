-- `copy_in` meets its contract. The invariant: the first j bytes are copied. Assumes nothing.
use Rattle.laws.specs.Bytes.{overwrite}
use Rattle.laws.proofs.Bytes.{over-nil, over-take}
use lib.Seq.{take_all}
use mathlib.Core.Path.{sym, ap, ◌∙◌}
use native.Mathlib.Omega.{arith}
use Rattle.byte_copy.proofs.copy_in.Goals as goal

pub loop-j-init : goal.loop-j-init
loop-j-init c = sym (over-nil _ _)

pub loop-j-preserved : goal.loop-j-preserved
loop-j-preserved c = let a = c.args in rw c.loop-j.invariant (over-take a.dst.now a.at a.src.now c.loop-j.j (omega arith))

pub returns : goal.returns
returns c = let a = c.args in c.loop-j.invariant ∙ ap (overwrite a.dst.now a.at) (take_all _ _ (omega arith))
