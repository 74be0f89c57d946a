-- `sum_ok` meets its contract: the last four bytes are the number that the others give.
use Rattle.receiver.proofs.Reading.{load-last}
use lib.Seq.{length-take-le}
use lib.Dec.{eqb}
use mathlib.Core.Path.{ap₂, sym, ◌∙◌}
use native.Mathlib.Omega.{arith}
use Rattle.receiver.proofs.sum_ok.Goals as goal

pub slice_bounds-crc32_by-end : goal.slice_bounds-crc32_by-end
slice_bounds-crc32_by-end c = sym (length-take-le _ _ (omega arith))

pub returns : goal.returns
returns c =
    ap₂ eqb c.crc32_by-sum.ensures (c.load.ensures ∙ load-last c.args.f.now c.requires.1)
