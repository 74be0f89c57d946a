-- `state_lines::lists::held_from` meets its contract.
use mathlib.Core.Path.{refl}
use native.Mathlib.Omega.{arith}
use Rattle.state_lines.proofs.Laws.{held_more, held-over}
use Rattle.state_lines.specs.State.{held_word}
use Rattle.text.proofs.Texts.{begun, turn, ended}
use Rattle.state_lines.proofs.lists.held_from.Goals as goal

pub loop-i-init : goal.loop-i-init
loop-i-init c = begun _ refl

pub loop-i-preserved : goal.loop-i-preserved
loop-i-preserved c =
    let a = c.args in
    let more = held_more a.off.now a.bits.now a.to c.loop-i.i (omega arith) (omega arith) (omega arith) in
    turn held_word more c.loop-i.invariant c.entry.ensures

pub returns : goal.returns
returns c =
    let a = c.args in
    ended held_word (held-over a.off.now a.bits.now a.to c.loop-i.i (omega arith)) c.loop-i.invariant
