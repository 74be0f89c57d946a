-- The piece's rows fit the table.
use Rattle.std.proofs.Common.{rules}
use Rattle.reckoned.proofs.Pieces.{few, ends}
use Rattle.reckoned.proofs.rows.split_case.Goals as goal

pub split_table-n-requires : goal.split_table-n-requires
split_table-n-requires g c =
    let a = c.args.a.now in
    let b = c.store_row.new.a in
    let e = c.store_row.ensures in (
      search rules,
      search rules,
      search rules,
      few a b e c.requires,
      ends a b e c.requires,
    )
