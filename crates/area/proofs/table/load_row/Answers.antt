-- `area::table::load_row` meets its contract.
use Rattle.area.proofs.table.load_row.Goals as goal

pub returns : goal.returns
returns c = cc
