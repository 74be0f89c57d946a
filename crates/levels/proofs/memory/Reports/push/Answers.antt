use Rattle.std.proofs.Common.{◌≡◌, ◌+◌, min, refl, arith}
use Rattle.levels.specs.Memory.{pushed}
use Rattle.levels.proofs.memory.Reports.push.Goals as goal

pub returns : goal.returns
unfolding pushed
returns c = let e : c.min.result ≡ min (c.args.self.count + 1) 3 = omega arith in rw e refl
