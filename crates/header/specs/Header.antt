-- The PHY header of a data burst: air_code and user_bits of station.rs, the number of data_burst (document 01, module 1). Definitions only.
use Rattle.std.specs.Prelude.{Bool, cond, ◌&&◌, ℕ, ◌+◌, ◌-◌, ◌*◌, ◌%◌, ltb, eqb}

-- air_code of a level: MFSK levels from 0, OFDM levels from 2
unfoldable pub air_code : ℕ → ℕ
air_code l = cond (ltb l 5) l (l - 5 + 2)

-- user_bits: the air code in bits 0 to 3, the session in 4 to 11, `hi` in 12 to 15
unfoldable pub user_bits : ℕ → ℕ → ℕ → ℕ
user_bits l session hi = air_code l + 16 * session + 4096 * (hi % 16)

-- data_burst of sender.rs: the next number of four, or the one after it where that is the number last heard (`heard`: there is one)
unfoldable pub next_burst_id : ℕ → Bool → ℕ → ℕ
next_burst_id id heard peer = let n = (id + 1) % 4 in cond (heard && eqb n peer) ((n + 1) % 4) n
