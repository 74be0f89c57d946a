-- 180 s doubled up to four times, by computation. Assumes nothing.
use Rattle.std.proofs.Common.{◌≡◌, min, refl, arith}
use lib.Ieee.{mul, of_int, of_bits}
use Rattle.gear.specs.Goodput.{memory_s}
use Rattle.gear.proofs.goodput.memory_s.Goals as goal

pub returns-in-0 : goal.returns-in-0
unfolding memory_s mul of_int of_bits
returns-in-0 c = let e : min c.args.fails 4 ≡ 0 = omega arith in rw e refl

pub returns-in-1 : goal.returns-in-1
unfolding memory_s mul of_int of_bits
returns-in-1 c = let e : min c.args.fails 4 ≡ 1 = omega arith in rw e refl

pub returns-in-2 : goal.returns-in-2
unfolding memory_s mul of_int of_bits
returns-in-2 c = let e : min c.args.fails 4 ≡ 2 = omega arith in rw e refl

pub returns-in-3 : goal.returns-in-3
unfolding memory_s mul of_int of_bits
returns-in-3 c = let e : min c.args.fails 4 ≡ 3 = omega arith in rw e refl

pub returns-in_default : goal.returns-in_default
unfolding memory_s mul of_int of_bits
returns-in_default c = let e : min c.args.fails 4 ≡ 4 = omega arith in rw e refl
