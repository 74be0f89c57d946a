-- `loaded`: all as after a profile, with the file and the answer. Assumes nothing.
use Rattle.run_lines.specs.RunLines.{loaded}
use Rattle.run_lines.proofs.Laws.{loaded-by}
use Rattle.run_lines.proofs.loaded.Goals as goal

pub start-after-requires : goal.start-after-requires
start-after-requires c = tt

pub loaded-requires : goal.loaded-requires
loaded-requires c = tt

pub returns : goal.returns
unfolding loaded
returns c =
    let d = c in
    loaded-by _ d.start-after.ensures.value d.start-after.ensures.area_after c.loaded.ensures
