-- `exp::power::power_at` meets its contract (`proofs/Power.antt`). Assumes nothing.
use Rattle.ieee.proofs.Power.{power-bits, power-no-nan}
use Rattle.exp.proofs.power.power_at.Goals as goal

pub float_from_bits-result : goal.float_from_bits-result
float_from_bits-result c = power-no-nan c.args.j c.requires.fact_1 c.requires.fact_2

pub returns : goal.returns
returns c = power-bits c.args.j c.requires.fact_1 c.requires.fact_2
