-- The SNR from which a level is aimed at: what level_for, pick_by_goodput and adapt_burst of gear.rs add up. Definitions only.
use Rattle.std.specs.Prelude.{ℕ, get_or, Float}
use Rattle.std.specs.Float.{nan, binary32}
use Rattle.std.specs.Float.Ieee.{add}
use Rattle.config.specs.declared.Marks.{Marks}

-- its threshold and the margin
unfoldable pub entry_at : Marks → ℕ → Float
entry_at m l = add binary32 (get_or m.thresholds_db l nan) m.margin_db
