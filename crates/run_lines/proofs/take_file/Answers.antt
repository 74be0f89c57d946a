-- `take_file`: what its three calls leave. Assumes nothing.
use Rattle.run_lines.proofs.Laws.{taken-by}
use Rattle.run_lines.proofs.take_file.Goals as goal

pub keep-requires : goal.keep-requires
keep-requires c = tt

pub begin-run-requires : goal.begin-run-requires
begin-run-requires c = tt

pub loaded-requires : goal.loaded-requires
loaded-requires c = tt

pub returns : goal.returns
returns c =
    let d = c in
    let e = d in
    let f = e in
    taken-by _ _ _ _ _ _ _ e.begin-run.ensures d.loaded.ensures f.keep.ensures
