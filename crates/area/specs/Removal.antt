-- Offsets that are looked for by hashes, and pieces that leave the table and the stream in one pass. Follows the code or serves proofs: nothing here has to be believed.
use Rattle.std.specs.Prelude.{List, [], ◌∷◌, ◌++◌, ◌≡◌, cond, ℕ, ◌*◌, ◌/◌, ◌%◌, ◌<◌, length, take, drop, get_or, set}
use Rattle.laws.specs.Lists.{listed}
use Rattle.laws.specs.Bytes.{overwrite, part}
use Rattle.area.specs.Table.{rows_from, total}
use Rattle.area.specs.declared.table.Row.{Row}
use Rattle.area.specs.declared.removal.Kept.{Kept}
use Rattle.area.specs.TableCode.{with_rows}

-- ---- hashes

-- hashes of a list of offsets
abbrev pub hash_count : ℕ
hash_count = 2048

-- an offset's hash: a multiplicative hash, 2654435761 being 2^32 over the golden ratio
unfoldable pub hash_place : ℕ → ℕ
hash_place o = o * 2654435761 / 2097152 % hash_count

-- each listed offset's hash set to 1, one after the other
unfoldable pub hash_all : List ℕ → List ℕ → List ℕ
hash_all hashes [] = hashes
hash_all hashes (x ∷ xs) = hash_all (set hashes (hash_place x) 1) xs

-- every listed offset has its hash: so it is after `hash_all`, whatever other hashes there are (proofs/removal/Laws.antt)
pub record Hashed (hashes xs : List ℕ) : Type 0 where
  pub size : length hashes ≡ hash_count
  pub set : (j : ℕ) → j < length xs → get_or hashes (hash_place (get_or xs j 0)) 0 ≡ 1

-- ---- `inflight.remove(&off)` of `settle_burst` (sender.rs), for every listed offset

-- the rows that stay
unfoldable pub kept_rows : List ℕ → List Row → List Row
kept_rows xs [] = []
kept_rows xs (r ∷ rs) = cond (listed r.off xs) (kept_rows xs rs) (r ∷ kept_rows xs rs)

-- the bytes that stay: the stream has the rows' bytes, one row after the other, and then others
unfoldable pub kept_bytes : List ℕ → List Row → List ℕ → List ℕ
kept_bytes xs [] st = st
kept_bytes xs (r ∷ rs) st = cond (listed r.off xs) (kept_bytes xs rs (drop r.len st)) (take r.len st ++ kept_bytes xs rs (drop r.len st))

-- the first n rows without the listed ones: how many rows and bytes stay, and the work area, `used` bytes of whose stream are in use
unfoldable pub removed_pieces : List ℕ → ℕ → ℕ → List ℕ → Kept × List ℕ
removed_pieces gone n used a = (
  record { rows = length (kept_rows gone (rows_from a 0 n)); bytes = total (kept_rows gone (rows_from a 0 n)) },
  with_rows (overwrite a 0 (kept_bytes gone (rows_from a 0 n) (part a 0 used))) 0 (kept_rows gone (rows_from a 0 n)),
)
