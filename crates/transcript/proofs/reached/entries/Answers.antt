-- `transcript::reached::entries` meets its contract.
use mathlib.Core.Path.{refl}
use native.Mathlib.Omega.{arith}
use Rattle.transcript.specs.Answers.{level_entry}
use Rattle.laws.proofs.Span.{upto-more, upto-none}
use Rattle.text.proofs.Texts.{begun, turn, ended}
use Rattle.transcript.proofs.reached.entries.Goals as goal

pub loop-i-init : goal.loop-i-init
loop-i-init c = begun _ refl

pub loop-i-preserved : goal.loop-i-preserved
loop-i-preserved c =
    turn (level_entry c.args.found) (upto-more c.loop-i.i c.args.count (omega arith)) c.loop-i.invariant c.entry.ensures

pub returns : goal.returns
returns c = ended (level_entry c.args.found) (upto-none c.loop-i.i c.args.count (omega arith)) c.loop-i.invariant
