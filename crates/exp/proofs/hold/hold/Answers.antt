-- `exp::hold::hold` meets its contract. Assumes nothing.
use Rattle.std.proofs.Common.{ap, ◌∙◌}
use lib.Ieee.{Float, binary64, mul}
use Rattle.float.specs.Pick.{min_f}
use Rattle.ieee.proofs.Power.{power-whole}
use Rattle.exp.proofs.hold.hold.Goals as goal

pub returns : goal.returns
returns c =
    let s = c in
    c.min.ensures ∙ ap (λ (p : Float). min_f (mul binary64 s.args.first p) s.args.cap) (c.power_at.ensures ∙ power-whole s.args.n)
