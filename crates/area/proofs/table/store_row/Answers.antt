-- `area::table::store_row` meets its contract.
use Rattle.laws.proofs.Bytes.{over-cat}
use Rattle.laws.specs.Little.{le}
use Rattle.area.specs.Layout.{place}
use Rattle.area.proofs.table.store_row.Goals as goal

pub returns : goal.returns
returns c =
    let s = c in
    cc (over-cat s.args.a.now (place s.args.i) (le 4 s.args.r.off) (le 4 s.args.r.len))
