-- Where things lie in the work area, each number named once. Definitions only.
use Rattle.std.specs.Prelude.{ℕ, ◌+◌, ◌*◌}
use Rattle.limits.specs.Limits.{max_pieces}

-- The stream's bytes: those in flight by ascending offset, then directly those that wait. The table lies behind them
abbrev pub stream_bytes : ℕ
stream_bytes = 32768

-- A row of the table: offset and length of a piece, a u32 each
abbrev pub row_bytes : ℕ
row_bytes = 8

-- where row i lies
abbrev pub place : ℕ → ℕ
place i = stream_bytes + row_bytes * i

-- The work area's bytes, 49,152
abbrev pub area_bytes : ℕ
area_bytes = place max_pieces
