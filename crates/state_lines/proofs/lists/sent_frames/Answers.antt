-- `state_lines::lists::sent_frames` meets its contract.
use mathlib.Core.Path.{refl}
use native.Mathlib.Omega.{arith}
use Rattle.state_lines.proofs.Laws.{sent-more, sent-over}
use Rattle.state_lines.specs.State.{sent_word}
use Rattle.text.proofs.Texts.{begun, turn, ended}
use Rattle.state_lines.proofs.lists.sent_frames.Goals as goal

pub loop-i-init : goal.loop-i-init
loop-i-init c = begun _ refl

pub loop-i-preserved : goal.loop-i-preserved
loop-i-preserved c =
    let a = c.args in
    let more = sent-more a.off.now a.bits.now a.held.now a.to c.loop-i.i (omega arith) (omega arith) (omega arith) (omega arith) in
    turn sent_word more c.loop-i.invariant c.long_entry.ensures

pub returns : goal.returns
returns c =
    let a = c.args in
    ended sent_word (sent-over a.off.now a.bits.now a.held.now a.to c.loop-i.i (omega arith)) c.loop-i.invariant
