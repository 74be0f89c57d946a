-- Each held offset has its hash.
use Rattle.std.proofs.Common.{ℕ, rules}
use lib.ListN.{length-replicate}
use Rattle.area.proofs.removal.Laws.{hashed-by}
use Rattle.reckoned.proofs.rows.merge_case.Goals as goal

pub merge_table-n-requires : goal.merge_table-n-requires
merge_table-n-requires g c =
    (search rules, search rules, hashed-by _ _ _ c.hash.ensures (length-replicate {A = ℕ} 2048 0))
