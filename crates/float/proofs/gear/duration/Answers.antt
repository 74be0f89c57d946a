-- `float::gear::duration` meets its contract. Assumes nothing.
use Rattle.std.proofs.Common.{ap}
use lib.Ieee.{Float, binary64, add, div}
use Rattle.float.proofs.gear.duration.Goals as goal

pub returns : goal.returns
returns c = ap (λ (n : Float). add binary64 c.args.pre (div binary64 n c.args.rate)) c.nearest_u64_to_f64.ensures
