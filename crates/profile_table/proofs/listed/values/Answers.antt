-- `listed::values`: the first values are read. Assumes nothing.
use mathlib.Core.Path.{◌≡◌, ap, ◌∙◌}
use native.Mathlib.Omega.{arith}
use Rattle.profile_table.specs.ProfileLines.{value_read, line_read, Reading}
use Rattle.laws.specs.Steps.{steps}
use Rattle.laws.proofs.Steps.{steps-none, steps-more}
use Rattle.words.specs.declared.Read.{Read}
use Rattle.words.specs.Lines.{begun, is_done}
use Rattle.profile_table.proofs.Lines.{value-step}
use Rattle.profile_table.proofs.listed.values.Goals as goal

pub loop-i-init : goal.loop-i-init
loop-i-init c =
    ap (λ (x : Read). (x, c.args.v.now)) c.word-q.ensures ∙ steps-none
    (value_read c.args.line.now c.args.kind
    c.args.at) _

pub loop-i-preserved : goal.loop-i-preserved
loop-i-preserved c =
    steps-more (value_read c.args.line.now
    c.args.kind
    c.args.at) c.loop-i.i _ _ _
    c.loop-i.invariant (value-step c.args.line.now
    c.args.kind
    c.args.at c.loop-i.i _ _ _ _
    c.kind_at.ensures c.next_value-q.ensures)

pub returns : goal.returns
unfolding line_read
returns c = let e : c.loop-i.i ≡ c.args.n = omega arith in let x : ◌≡◌
    {A = Reading} (c.loop-i.q, c.loop-i.v)
    (steps (value_read c.args.line.now
    c.args.kind c.args.at)
    c.args.n (
      begun c.args.line.now
          c.args.name.now,
      c.args.v.now,
    )) = rw (← e) c.loop-i.invariant in (
      c.done.ensures ∙ ap (λ (y : Reading). is_done c.args.line.now y.0) x,
      ap
          (λ (y : Reading). y.1) x,
    )
