-- `state_lines::levels` meets its contract.
use mathlib.Core.Path.{refl}
use native.Mathlib.Omega.{arith}
use Rattle.state_lines.specs.State.{gear_of}
use Rattle.laws.proofs.Span.{upto-more, upto-none}
use Rattle.text.proofs.Texts.{begun, turn, ended}
use Rattle.state_lines.proofs.levels.Goals as goal

pub loop-l-init : goal.loop-l-init
loop-l-init c = begun _ refl

pub loop-l-preserved : goal.loop-l-preserved
loop-l-preserved c =
    turn (gear_of c.args.g) (upto-more c.loop-l.l 17 (omega arith)) c.loop-l.invariant c.level.ensures

pub returns : goal.returns
returns c = ended (gear_of c.args.g) (upto-none c.loop-l.l 17 (omega arith)) c.loop-l.invariant
