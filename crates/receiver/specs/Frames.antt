-- A data frame as the receiver reads it: `Frame::decode` of frame.rs, with refusals 16 and 17. Definitions only.
use Rattle.std.specs.Prelude.{ℕ, ◌+◌, ◌-◌, Bool, ◌&&◌, List, [], ◌∷◌, leb, eqb, length, get_or, take, drop}
use Rattle.laws.specs.Tests.{all}
use Rattle.laws.specs.Bytes.{part}
use Rattle.laws.specs.Little.{num}
use Rattle.frame.specs.V42.{fcs, number}

-- "the 32,768 bytes from the first missing one on", and the offsets that a frame's 24 bits can name
abbrev pub box_bytes : ℕ
box_bytes = 32768

abbrev pub offsets : ℕ
offsets = 16777216

-- a frame with the number of its slot
pub record Slotted : Type 0 where
  pub slot : ℕ
  pub frame : List ℕ

abbrev pub len_of : List ℕ → ℕ
len_of f = get_or f 5 0

abbrev pub off_of : List ℕ → ℕ
off_of f = num (part f 2 3)

abbrev pub payload_of : List ℕ → List ℕ
payload_of f = part f 6 (len_of f)

-- "The CRC covers everything before it", and stands in the last four bytes
abbrev pub sum_ok : List ℕ → Bool
sum_ok f = eqb (number (fcs (take (length f - 4) f))) (num (drop (length f - 4) f))

-- 16, as far as it goes by the frame alone: "a frame of under 18 or over 512 bytes, .. a wrong check sum, a kind other than 3, or a length byte of 0, of 255 or
-- reaching into the check sum"
unfoldable pub head_ok : List ℕ → Bool
head_ok f = all (leb 18 (length f) ∷ leb (length f) 512 ∷ eqb (get_or f 0 0) 3 ∷ leb 1 (len_of f) ∷ leb (len_of f) 254 ∷ leb (len_of f + 10) (length f) ∷ [])

abbrev pub frame_ok : List ℕ → Bool
frame_ok f = head_ok f && sum_ok f

-- "a slot number above 63 or not above that of the last frame taken": the lowest that may come is `least`
abbrev pub slot_ok : ℕ → ℕ → Bool
slot_ok least s = leb least s && leb s 63

-- 17: "one that reaches past the 32,768 bytes or past offset 16,777,216"
abbrev pub reach_ok : ℕ → List ℕ → Bool
reach_ok first f = leb (off_of f + len_of f) (first + box_bytes) && leb (off_of f + len_of f) offsets
