-- The table of the pieces in flight (`inflight` of sender.rs): rows of eight bytes, an offset and a length, low byte first: what follows the code or serves proofs; nothing here has to be believed.
use Rattle.std.specs.Prelude.{List, [], ◌∷◌, ℕ, ◌^◌, ◌<◌}
use Rattle.laws.specs.Bytes.{overwrite}
use Rattle.area.specs.Layout.{place}
use Rattle.area.specs.declared.table.Row.{Row}
use Rattle.area.specs.Table.{table_bytes}

-- the work area with these rows from row i on
abbrev pub with_rows : List ℕ → ℕ → List Row → List ℕ
with_rows a i rs = overwrite a (place i) (table_bytes rs)

-- every field is a u32
abbrev pub Small : List Row → Type 0
Small [] = Unit {0}
Small (r ∷ rs) = (r.off < 2 ^ 32) × (r.len < 2 ^ 32) × Small rs
